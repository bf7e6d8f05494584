-- `checks::add`: lengths, tables, batch: each that refuses is the verdict.
use Rattle.tables.specs.Outcome.{add_verdict}
use Rattle.checks.proofs.Checking.{stops, goes_on, ends, sizes_passed}
use Rattle.checks.proofs.add.Goals as goal

pub returns-in_default : goal.returns-in_default
unfolding add_verdict
returns-in_default c = search stops

pub tables-kept-requires : goal.tables-kept-requires
unfolding add_verdict
tables-kept-requires c = search sizes_passed

pub returns-in_default-kept : goal.returns-in_default-kept
unfolding add_verdict
returns-in_default-kept c = search (goes_on, stops)

pub returns : goal.returns
unfolding add_verdict
returns c = search (goes_on, ends)
