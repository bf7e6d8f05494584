-- `lengths::numbers`: an even number, and not too great.
use native.Mathlib.Omega.{arith}
use Rattle.std.proofs.lemmas.Bool.Decides.{nat_tests}
use Rattle.tables.specs.Batch.{numbers_verdict}
use Rattle.checks.proofs.lengths.numbers.Goals as goal

pub returns-then-k-ne0 : goal.returns-then-k-ne0
unfolding numbers_verdict
returns-then-k-ne0 c = grind (arith, nat_tests)

pub returns : goal.returns
unfolding numbers_verdict
returns c = grind (arith, nat_tests)
