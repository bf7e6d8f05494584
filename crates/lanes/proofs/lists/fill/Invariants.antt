-- `lists::fill` meets its contract: the machines below `v` that are seen stand on their lists.
use Rattle.lanes.specs.Depths.{Listing}
use Rattle.lanes.proofs.lists.fill.Given as goal

abbrev pub invariant-loop-v : goal.invariant-loop-v
invariant-loop-v l = Listing l.depth l.low l.v l.head l.next
