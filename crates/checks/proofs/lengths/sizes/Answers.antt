-- `lengths::sizes`: how many machines, then the three slices in their order.
use native.Mathlib.Omega.{arith}
use Rattle.std.proofs.lemmas.Bool.Decides.{nat_tests}
use Rattle.tables.specs.Verdict.{checks}
use Rattle.tables.specs.Tables.{sizes_verdict}
use Rattle.checks.proofs.Checking.{stops}
use Rattle.checks.proofs.lengths.sizes.Goals as goal

pub returns-in_default : goal.returns-in_default
unfolding sizes_verdict
returns-in_default c = search stops

pub returns : goal.returns
unfolding sizes_verdict checks
returns c = grind (arith, nat_tests)
