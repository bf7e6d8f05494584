-- `groups::root` meets its contract: at `x` the groups are as they were, and the name is ahead; `x` falls.
use Rattle.lanes.proofs.Uniting.{Rooting}
use Rattle.lanes.proofs.groups.root.Given as goal

abbrev pub invariant-loop-g : goal.invariant-loop-g
invariant-loop-g l = Rooting l.initial.group l.group l.c l.x l.g

abbrev pub decreases-loop-g : goal.decreases-loop-g
decreases-loop-g l = l.x
