-- `trees::depth_of`. The loop's invariant: `x` stands `steps` steps up from `v`, and no machine before it has a known depth.
use Rattle.checks.proofs.DepthTable.{Climbed}
use Rattle.checks.proofs.trees.depth_of.Given as goal

abbrev pub invariant-loop-steps : goal.invariant-loop-steps
invariant-loop-steps l = Climbed l.up l.known l.v l.steps l.x
