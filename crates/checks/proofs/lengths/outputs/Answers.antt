-- `lengths::outputs`: the two slices in their order.
use native.Mathlib.Omega.{arith}
use Rattle.std.proofs.lemmas.Bool.Decides.{nat_tests}
use Rattle.tables.specs.Verdict.{checks}
use Rattle.tables.specs.Outcome.{outputs_verdict}
use Rattle.checks.proofs.lengths.outputs.Goals as goal

pub returns : goal.returns
unfolding outputs_verdict checks
returns c = grind (arith, nat_tests)
