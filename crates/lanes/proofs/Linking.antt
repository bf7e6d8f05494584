-- The machine that a climb to w came by last: the climb began elsewhere, and it is the child of w on that line.
use mathlib.Core.Path.{◌≡◌}
use mathlib.Core.List.{List}
use mathlib.Core.Logic.{◌≢◌}
use Prim.Native.Nat.{ℕ, ◌<◌}
use lib.ListN.{length}
use Rattle.graph.proofs.Walks.{join, one_step}
use Rattle.rings.specs.Tree.{Uplink, Under}
use Rattle.rings.proofs.Under.{no_return, one_child}
use Rattle.tables.specs.AsTree.{tree_of}
use Rattle.tables.specs.Link.{below}
use Rattle.tables.specs.Demand1.{SoundTree}
use Rattle.tables.proofs.Sound.{rooted}
use Rattle.tables.proofs.Lines.{below_is}

-- c is the last machine below w on the line of a
module _ {up : List ℕ} (s : SoundTree up) {a w c : ℕ} (h : a < length up) (r : Uplink (tree_of up) c w) (u : Under (tree_of up) c a) where
  pub other : a ≢ w
  other e = no_return (rooted s) r (rw e at u)

  pub below_one : c ≡ below up w a
  below_one = let (q, v) = below_is s h (join u (one_step r)) other in one_child (rooted s) r q u v
