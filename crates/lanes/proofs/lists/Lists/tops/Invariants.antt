-- `Lists::tops` meets its contract: the machines on lists that are higher than depth `k` are in lanes.
use Rattle.lanes.specs.Laying.{LanesTo}
use Rattle.lanes.proofs.lists.Lists.tops.Given as goal

abbrev pub invariant-loop-k : goal.invariant-loop-k
invariant-loop-k l = LanesTo l.self.tree.up.now l.self.next.now l.kid l.top l.k
