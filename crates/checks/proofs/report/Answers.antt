-- `checks::report`: lengths, those of the outputs too, and tables: each that refuses is the verdict.
use Rattle.tables.specs.Outcome.{report_verdict}
use Rattle.checks.proofs.Checking.{stops, goes_on, ends, sizes_passed}
use Rattle.checks.proofs.report.Goals as goal

pub returns-in_default : goal.returns-in_default
unfolding report_verdict
returns-in_default c = search stops

pub returns-in_default-outputs : goal.returns-in_default-outputs
unfolding report_verdict
returns-in_default-outputs c = search (goes_on, stops)

pub tables-requires : goal.tables-requires
unfolding report_verdict
tables-requires c = search sizes_passed

pub returns : goal.returns
unfolding report_verdict
returns c = search (goes_on, ends)
