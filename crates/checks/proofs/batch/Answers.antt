-- `checks::batch`: how many numbers, then the links.
use Rattle.tables.specs.Batch.{batch_verdict}
use Rattle.checks.proofs.Checking.{stops, goes_on, ends}
use Rattle.checks.proofs.batch.Goals as goal

pub returns-in_default : goal.returns-in_default
unfolding batch_verdict
returns-in_default c = search stops

pub returns : goal.returns
unfolding batch_verdict
returns c = search (goes_on, ends)
