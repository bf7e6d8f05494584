-- `Desk::new`: a new room and a text of zeros.
use Rattle.turns.proofs.Turning.{bare_is}
use Rattle.turns.proofs.Desk.new.Goals as goal

pub returns : goal.returns
returns c = search bare_is
