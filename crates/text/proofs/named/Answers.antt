-- `text::named` meets its contract: the bytes that the chain counts, place by place.
use Rattle.std.proofs.Common.{◌≡◌, ◌∙◌, not, eqb, rules}
use Rattle.std.specs.List.{count_by}
use Rattle.tables.specs.Report.{named}
use Rattle.plain.proofs.Count.{count_list}
use Rattle.text.proofs.named.Goals as goal

pub returns : goal.returns
unfolding named
returns c =
    let counted : c.count.result ≡ count_by (λ x. not (eqb x 0)) c.args.bytes.now = search rules in
    counted ∙ count_list _ c.args.bytes.now
