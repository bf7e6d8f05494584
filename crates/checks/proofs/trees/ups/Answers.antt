-- `trees::ups`: entries that are refused are the answer, and else the hubs.
use Rattle.checks.specs.TreeCheck.{ups_verdict}
use Rattle.checks.proofs.Checking.{stops, goes_on, ends}
use Rattle.checks.proofs.trees.ups.Goals as goal

pub returns-in_default : goal.returns-in_default
unfolding ups_verdict
returns-in_default c = search stops

pub returns : goal.returns
unfolding ups_verdict
returns c = search (goes_on, ends)
