-- `Lists::settle` meets its contract: the lists from depth `k` on are swept.
use Rattle.lanes.proofs.Settling.{Settling}
use Rattle.lanes.proofs.lists.Lists.settle.Given as goal

abbrev pub invariant-loop-k : goal.invariant-loop-k
invariant-loop-k l = Settling l.self.tree.up.now l.self.next.now l.initial.low l.initial.mark l.low l.mark l.self.levels l.k l.rise
