-- `records::tree` meets its contract: n, and behind it the uplinks.
use Rattle.writer.proofs.Filling.{second_done}
use Rattle.writer.proofs.records.tree.Goals as goal

pub returns : goal.returns
returns c = search second_done
