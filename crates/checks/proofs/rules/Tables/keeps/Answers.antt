-- `keeps`: the six rules in turn.
use native.Mathlib.Omega.{arith}
use Rattle.std.proofs.lemmas.Bool.Decides.{nat_tests}
use Rattle.tables.specs.Rules.{keeps}
use Rattle.checks.proofs.rules.Tables.keeps.Goals as goal

pub returns-then-partner_rule : goal.returns-then-partner_rule
unfolding keeps
returns-then-partner_rule c = grind (arith, nat_tests)

pub returns-else-partner_rule : goal.returns-else-partner_rule
unfolding keeps
returns-else-partner_rule c = grind (arith, nat_tests)
