-- `check`: the first machine that breaks a rule is refused.
use Rattle.tables.specs.Rules.{rules_verdict}
use Rattle.checks.proofs.Searching.{next, refused_here, refused_none}
use Rattle.checks.proofs.Keeping.{broken}
use Rattle.checks.proofs.rules.Tables.check.Goals as goal

pub returns-then-not-keeps : goal.returns-then-not-keeps
unfolding rules_verdict
returns-then-not-keeps c = search (refused_here, broken)

pub loop-v-preserved : goal.loop-v-preserved
loop-v-preserved c = search (next, broken)

pub returns : goal.returns
unfolding rules_verdict
returns c = search refused_none
