-- `View::count_ends`: a count, by what each call of its test answers.
use Rattle.std.proofs.Common.{rules, tests}
use Rattle.plain.proofs.Ranges.{filter_count}
use Rattle.site.proofs.report.View.count_ends.Goals as goal

pub returns : goal.returns
returns c = filter_count c.filter.ensures.source c.filter.ensures.closure (λ x b q k. search (rules, tests)) c.count.ensures.ran
