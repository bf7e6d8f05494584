-- `Lists::level` meets its contract: the machines that the walk came by are in lanes.
use Rattle.lanes.proofs.Laying.{LevelAt}
use Rattle.lanes.proofs.lists.Lists.level.Given as goal

abbrev pub invariant-loop-v : goal.invariant-loop-v
invariant-loop-v l = LevelAt l.self.tree.up.now l.self.next.now l.kid l.top l.k l.v-iterator.next.now l.v-iterator.x
