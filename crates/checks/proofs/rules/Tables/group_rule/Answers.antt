-- `group_rule`: a name over v breaks the rule, be it a machine or not; any other is a machine and may be an index.
use native.Mathlib.Omega.{arith}
use Rattle.std.proofs.lemmas.Bool.Decides.{nat_tests}
use Rattle.tables.specs.Rules.{group_rule}
use Rattle.checks.proofs.rules.Tables.group_rule.Goals as goal

pub returns-then-v-self : goal.returns-then-v-self
unfolding group_rule
returns-then-v-self c = grind (arith, nat_tests)

pub returns-then-self-g : goal.returns-then-self-g
unfolding group_rule
returns-then-self-g c = grind (arith, nat_tests)

pub returns-else-self-g : goal.returns-else-self-g
unfolding group_rule
returns-else-self-g c = grind (arith, nat_tests)
