-- `trees::lay` meets its contract. The loop's invariant: the way from `v` to below `x` has its depths, and `d` is the depth of `x`, which falls with each step.
use Rattle.checks.proofs.DepthTable.{LaidTo}
use Rattle.checks.proofs.trees.lay.Given as goal

abbrev pub invariant-loop-known : goal.invariant-loop-known
invariant-loop-known l = LaidTo l.up l.initial.known l.v l.known l.x l.d

abbrev pub decreases-loop-known : goal.decreases-loop-known
decreases-loop-known l = l.d
