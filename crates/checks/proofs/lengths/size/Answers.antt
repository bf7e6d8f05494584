-- `lengths::size`: there are some machines, and not too many.
use native.Mathlib.Omega.{arith}
use Rattle.std.proofs.lemmas.Bool.Decides.{nat_tests}
use Rattle.tables.specs.Tree.{size_verdict}
use Rattle.checks.proofs.lengths.size.Goals as goal

pub returns-then-n-eq0 : goal.returns-then-n-eq0
unfolding size_verdict
returns-then-n-eq0 c = grind (arith, nat_tests)

pub returns : goal.returns
unfolding size_verdict
returns c = grind (arith, nat_tests)
