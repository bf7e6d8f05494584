-- `Tree::see_every` meets its contract: the levels are those of the machines below `v`.
use Rattle.lanes.proofs.Seeing.{Every}
use Rattle.lanes.proofs.tree.Tree.see_every.Given as goal

abbrev pub invariant-loop-v : goal.invariant-loop-v
invariant-loop-v l = Every l.self.depth.now l.levels l.v
