-- `kinds::close`: Add over the front parts of the tables is what `close` of a file says, and the parts are laid back over their slices.
use Rattle.sitefile.proofs.ReadCalls.{close_read, close_refused}
use Rattle.sitefile.proofs.kinds.close.Goals as goal

pub returns-then-a-eq0 : goal.returns-then-a-eq0
returns-then-a-eq0 c bytes machines links = search close_read

pub returns : goal.returns
returns c bytes machines links = search close_refused
