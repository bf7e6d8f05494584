-- `depth_rule`: the hub, or one more than the depth above.
use native.Mathlib.Omega.{arith}
use Rattle.std.proofs.lemmas.Bool.Decides.{nat_tests}
use Rattle.tables.specs.Rules.{depth_rule}
use Rattle.checks.proofs.rules.Tables.depth_rule.Goals as goal

pub returns-then-v-self : goal.returns-then-v-self
unfolding depth_rule
returns-then-v-self c = grind (arith, nat_tests)

pub returns-else-v-self : goal.returns-else-v-self
unfolding depth_rule
returns-else-v-self c = grind (arith, nat_tests)
