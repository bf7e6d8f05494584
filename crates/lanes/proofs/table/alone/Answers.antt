-- A slice that is filled by its index.
use Rattle.plain.proofs.Fill.{fill_end}
use Rattle.lanes.proofs.table.alone.Goals as goal

pub returns : goal.returns
returns c = search fill_end
