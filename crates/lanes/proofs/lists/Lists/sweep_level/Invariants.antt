-- `Lists::sweep_level` meets its contract: whatever was swept before, the machines that the walk came by are swept too.
use Rattle.lanes.proofs.Settling.{LevelSweeping}
use Rattle.lanes.proofs.lists.Lists.sweep_level.Given as goal

abbrev pub invariant-loop-v : goal.invariant-loop-v
invariant-loop-v l = LevelSweeping l.self.tree.up.now l.self.next.now l.initial.low l.initial.mark l.low l.mark l.k l.v-iterator.next.now l.v-iterator.x l.rise
