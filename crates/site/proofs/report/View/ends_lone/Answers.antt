-- `View::ends_lone`: a search, by what each call of its test answers.
use Rattle.std.proofs.Common.{rules, tests}
use Rattle.plain.proofs.Ranges.{any_some}
use Rattle.site.proofs.report.View.ends_lone.Goals as goal

pub returns : goal.returns
returns c = any_some c.any.ensures.ran (λ x b q k. search (rules, tests))
