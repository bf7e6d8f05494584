-- The hub, taken out: every machine is below a child of it, no link leads past it, so nothing leaves a group,
-- and two machines are joined where the children that they are below are of one group.
use mathlib.Core.Logic.{◌≢◌, ⊎_elim}
use Prim.Native.Nat.{ℕ, ◌<◌}
use Rattle.graph.specs.Walk.{Relation, stay}
use Rattle.graph.specs.Choke.{Choke}
use Rattle.graph.proofs.Walks.{join}
use Rattle.rings.specs.Tree.{Tree, Uplink, Under}
use Rattle.rings.specs.Network.{Cabled, Network}
use Rattle.rings.specs.Ring.{Carries}
use Rattle.rings.specs.Group.{SameGroup, Split}
use Rattle.rings.proofs.Under.{last, one_child, hub_over, far}
use Rattle.rings.proofs.Groups.{Road, member, shut, turned, to_child, through}

module _ {T : Tree} {L : Relation} (N : Network T L) where
  open T use {size, hub}

  pub hub_choke : {c d : ℕ} → Split T L hub c d → Choke size (Cabled T L) hub
  hub_choke {c} {d} (r, s, q) =
      let parted : ¬ Road T L hub c d = λ k. let (m, g, u) = shut N r inward k (c, stay, stay) in q (rw (one_child N.rooted (member r g) s u stay) at g) in
      search
    where
      inward : (m : ℕ) → SameGroup T L hub c m → ¬ Carries T L m
      inward m g p = p.beyond (rw (member r g).to (hub_over N.rooted p.outer (far N p.link)))

  pub hub_spare : ((c d : ℕ) → Uplink T c hub → Uplink T d hub → SameGroup T L hub c d) → ¬ Choke size (Cabled T L) hub
  hub_spare q k =
      let (c, r, u) = child k.one k.one_in k.one_other in
      let (d, s, v) = child k.two k.two_in k.two_other in
      k.parted (join (to_child N r u) (join (through N (q c d r s)) (turned N (to_child N s v))))
    where
      child : (a : ℕ) → a < size → a ≢ hub → (c : ℕ) × Uplink T c hub × Under T c a
      child a h o = ⊎_elim (λ e. absurd (o e)) (λ i. i) (last (hub_over N.rooted a h))
