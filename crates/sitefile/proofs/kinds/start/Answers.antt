-- `kinds::start`: Start over front parts; what lies behind them stays.
use Rattle.sitefile.proofs.ReadCalls.{start_front_lem}
use Rattle.sitefile.proofs.kinds.start.Goals as goal

pub returns : goal.returns
returns c = search start_front_lem
