-- `Page::totals` meets its contract: any line has its room.
use Rattle.text.proofs.Widths.{line_room}
use Rattle.text.proofs.Page.totals.Goals as goal

pub line-requires : goal.line-requires
line-requires c = search line_room
