-- `trees::hub_from`. Nothing between `from` and the machine that is found names itself, nor anything at all where none is.
use native.Mathlib.Omega.{arith}
use Rattle.std.specs.Prelude.{Some, None}
use Rattle.checks.proofs.TreeVerdicts.{found_hub}
use Rattle.checks.proofs.trees.hub_from.Goals as goal

pub returns-then-up-v : goal.returns-then-up-v
returns-then-up-v c = found_hub _ _ (Some c.loop-v.v) (omega arith, omega arith, search, c.loop-v.invariant)

pub returns : goal.returns
returns c = found_hub _ _ None (λ k a b. c.loop-v.invariant k a (omega arith))
