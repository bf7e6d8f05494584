-- `Lists::offers` keeps inside its tables: the walk stays on the list.
use Rattle.lanes.proofs.Walking.{Afoot}
use Rattle.lanes.proofs.lists.Lists.offers.Given as goal

abbrev pub invariant-loop-v : goal.invariant-loop-v
invariant-loop-v l = Afoot l.self.tree.up.now l.self.next.now l.k l.v-iterator.next.now l.v-iterator.x
