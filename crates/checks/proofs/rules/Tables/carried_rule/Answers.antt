-- `carried_rule`: only a mark of 2 asks for anything, and then of the machine above.
use native.Mathlib.Omega.{arith}
use Rattle.std.proofs.lemmas.Bool.Decides.{nat_tests}
use Rattle.tables.specs.Rules.{carried_rule}
use Rattle.checks.proofs.rules.Tables.carried_rule.Goals as goal

pub returns-then-above-self : goal.returns-then-above-self
unfolding carried_rule
returns-then-above-self c = grind (arith, nat_tests)

pub returns-else-above-self : goal.returns-else-above-self
unfolding carried_rule
returns-else-above-self c = grind (arith, nat_tests)

pub returns-in-0 : goal.returns-in-0
unfolding carried_rule
returns-in-0 c = grind (arith, nat_tests)
