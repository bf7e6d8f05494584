-- `View::group_carried`: a search, by what each call of its test answers.
use Rattle.std.proofs.Common.{rules, tests}
use Rattle.plain.proofs.Ranges.{any_some}
use Rattle.site.proofs.report.View.group_carried.Goals as goal

pub returns : goal.returns
returns c = any_some c.any.ensures.ran (λ x b q k. search (rules, tests))
