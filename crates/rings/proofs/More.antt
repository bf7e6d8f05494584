-- More links keep what fewer give: escapes, joins, groups and walks. So what more links part, fewer part.
use Prim.Native.Nat.{ℕ}
use Rattle.graph.specs.Walk.{Relation}
use Rattle.graph.proofs.Chokes.{fewer_chokes}
use Rattle.graph.proofs.Walks.{map}
use Rattle.rings.specs.Tree.{Tree}
use Rattle.rings.specs.Network.{Cable, rising, falling, cross}
use Rattle.rings.specs.Ring.{Escape}
use Rattle.rings.specs.Group.{Joins, SameGroup}
use Rattle.rings.specs.Statements.{FurtherLinks}

module _ {T : Tree} {L M : Relation} where
  -- the same by another link between the same machines
  pub escape_by : {x y : ℕ} (g : Escape T L x y) → M g.inner g.outer → Escape T M x y
  escape_by g l = search

  pub joins_by : {w x y : ℕ} (j : Joins T L w x y) → M j.one j.two → Joins T M w x y
  joins_by j l = search

  module _ (f : (a b : ℕ) → L a b → M a b) where
    pub escape_map : {x y : ℕ} → Escape T L x y → Escape T M x y
    escape_map g = escape_by g (f _ _ g.link)

    pub joins-map : {w x y : ℕ} → Joins T L w x y → Joins T M w x y
    joins-map j = joins_by j (f _ _ j.link)

    pub group_map : {w x y : ℕ} → SameGroup T L w x y → SameGroup T M w x y
    group_map = map (λ a b. joins-map)

cable_map : {U L M : Relation} → ((a b : ℕ) → L a b → M a b) → (a b : ℕ) → Cable U L a b → Cable U M a b
cable_map f a b (rising u) = rising u
cable_map f a b (falling u) = falling u
cable_map f a b (cross l) = cross (f a b l)

pub further_links : FurtherLinks
further_links T L M f = record {
  machine = λ w. fewer_chokes (cable_map f);
  uplink = λ v w q p. q (map (cable_map f) p);
}
