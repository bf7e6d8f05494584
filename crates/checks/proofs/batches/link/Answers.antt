-- `batches::link`: the tests in their order, 8 before 9.
use native.Mathlib.Omega.{arith}
use Rattle.std.proofs.lemmas.Bool.Decides.{nat_tests}
use Rattle.tables.specs.Batch.{ends_verdict}
use Rattle.checks.proofs.batches.link.Goals as goal

pub returns-then-n-a : goal.returns-then-n-a
unfolding ends_verdict
returns-then-n-a c = grind (arith, nat_tests)

pub returns-then-a-b : goal.returns-then-a-b
unfolding ends_verdict
returns-then-a-b c = grind (arith, nat_tests)

pub returns : goal.returns
unfolding ends_verdict
returns c = grind (arith, nat_tests)
