-- `Part::write` meets its contract: the links, and behind them the close.
use Rattle.writer.proofs.Filling.{second_done}
use Rattle.writer.proofs.plan.Part.write.Goals as goal

pub returns : goal.returns
returns c = search second_done
