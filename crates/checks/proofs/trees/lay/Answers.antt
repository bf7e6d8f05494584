-- `trees::lay`: a machine that is not known is not the hub, so its depth is at least 1, and the next one's is one less.
use native.Mathlib.Omega.{arith}
use Rattle.checks.proofs.DepthTable.{lay_deep, lay_next}
use Rattle.checks.proofs.trees.lay.Goals as goal

pub overflow_sub-d : goal.overflow_sub-d
overflow_sub-d c = search lay_deep

pub loop-known-smaller : goal.loop-known-smaller
loop-known-smaller c = omega (arith, lay_deep c.loop-known-test.true c.loop-known.invariant)

pub loop-known-preserved : goal.loop-known-preserved
loop-known-preserved c = search lay_next
