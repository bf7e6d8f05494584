-- `show`: the text has room for a report on as many machines as the arrays have.
use Rattle.turns.proofs.Turning.{report_fits, report_told}
use Rattle.turns.proofs.show.Goals as goal

pub unwrap-k-requires : goal.unwrap-k-requires
unwrap-k-requires c = search report_fits

pub returns : goal.returns
returns c depth group mark batch = search report_told
