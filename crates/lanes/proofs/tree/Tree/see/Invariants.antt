-- `Tree::see` meets its contract: below `x` the line is seen; the depth of `x` falls, or the hub's own entry is written.
use Prim.Native.Nat.{◌+◌}
use Rattle.tables.specs.Tree.{depth_of}
use Rattle.lanes.proofs.Seeing.{unseen, Seeing}
use Rattle.lanes.proofs.tree.Tree.see.Given as goal

abbrev pub invariant-loop-p : goal.invariant-loop-p
invariant-loop-p l = Seeing l.self.up.now l.initial.low l.v l.low l.x

abbrev pub decreases-loop-p : goal.decreases-loop-p
decreases-loop-p l = depth_of l.self.up.now l.x + unseen l.low l.x
