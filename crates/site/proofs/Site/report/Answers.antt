-- `Site::report`: a check that refuses is the answer; else the outputs are filled.
use Rattle.tables.specs.Outcome.{report_of}
use Rattle.site.proofs.Answers.{refused, report_sizes, report_left}
use Rattle.site.proofs.Site.report.Goals as goal

pub returns-in_default : goal.returns-in_default
unfolding report_of
returns-in_default c = search refused

pub invariant_of-view : goal.invariant_of-view
invariant_of-view c = search (report_sizes _ _ _ _ c.in-Sound.is _ _ c.report-check.ensures)

pub fill-chokes-requires : goal.fill-chokes-requires
fill-chokes-requires c = search (report_sizes _ _ _ _ c.in-Sound.is _ _ c.report-check.ensures)

pub returns : goal.returns
unfolding report_of
returns c = search report_left
