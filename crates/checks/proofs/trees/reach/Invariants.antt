-- `trees::reach` meets its contract. The loop's invariant: every known depth is right, and the machines below `v` have theirs.
use Rattle.checks.proofs.DepthTable.{Reaching}
use Rattle.checks.proofs.trees.reach.Given as goal

abbrev pub invariant-loop-v : goal.invariant-loop-v
invariant-loop-v l = Reaching l.up l.known l.v
