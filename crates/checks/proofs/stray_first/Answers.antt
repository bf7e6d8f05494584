-- `checks::stray_first`: a tree that is refused is the answer, another one leaves it to the rule.
use Rattle.checks.proofs.Checking.{stops, goes_on, ends}
use Rattle.checks.proofs.stray_first.Goals as goal

pub returns-in_default : goal.returns-in_default
returns-in_default c = search stops

pub returns : goal.returns
returns c = search (goes_on, ends)
