-- `View::fill`: the chain counts the bytes, place by place.
use Rattle.std.proofs.Common.{◌≡◌, ◌∙◌, not, eqb, rules}
use Rattle.std.specs.List.{count_by}
use Rattle.tables.specs.Report.{named}
use Rattle.plain.proofs.Count.{count_list}
use Rattle.site.proofs.report.View.fill.Goals as goal

pub returns-clause-counted : goal.returns-clause-counted
unfolding named
returns-clause-counted c = let h : c.count.result ≡ count_by (λ b. not (eqb b 0)) c.loop-w.machines = search rules in h ∙ count_list _ _
