-- `marks::ask` meets its contract, by one difference.
use Rattle.lanes.proofs.Asking.{ask_by}
use Rattle.lanes.proofs.marks.ask.Goals as goal

pub returns : goal.returns
returns c = search ask_by
