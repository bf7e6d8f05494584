-- A cross link is never a choke: its ends are machines, and the tree alone joins any two machines, by way of the hub.
use Prim.Native.Nat.{ℕ, ◌<◌}
use Rattle.graph.specs.Walk.{Relation, Walk}
use Rattle.graph.proofs.Walks.{join, back, map}
use Rattle.rings.specs.Tree.{Tree, Rooted}
use Rattle.rings.specs.Network.{Cabled, rising}
use Rattle.rings.specs.Statements.{CrossNever}
use Rattle.rings.proofs.Under.{hub_over, far}
use Rattle.rings.proofs.Roads.{turn}

pub tree_joins : {T : Tree} {rank : ℕ → ℕ} → Rooted T rank → {L : Relation} → ((a b : ℕ) → L a b → L b a) → {a b : ℕ}
    → a < T.size → b < T.size → Walk (Cabled T L) a b
tree_joins {T} R {L} s {a} {b} h k = join (home a h) (back (turn s) (home b k))
  where
    home : (v : ℕ) → v < T.size → Walk (Cabled T L) v T.hub
    home v l = map (λ x y r. rising r) (hub_over R v l)

pub cross_never : CrossNever
cross_never T L M N P a b l = tree_joins N.rooted P.flip (N.near a b l) (far N l)
