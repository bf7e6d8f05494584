-- `refuse`: the text has room for a refusal.
use Rattle.turns.proofs.Turning.{refusal_fits, refusal_told}
use Rattle.turns.proofs.refuse.Goals as goal

pub unwrap-requires : goal.unwrap-requires
unwrap-requires c = search refusal_fits

pub returns : goal.returns
returns c room = search refusal_told
