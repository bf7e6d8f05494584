-- `Page::line` meets its contract: four texts, each behind the one before it.
use Rattle.text.proofs.OneLine.{room_letter, room_a, room_b, room_end, whole_line}
use Rattle.text.proofs.Page.line.Goals as goal

pub put-requires : goal.put-requires
put-requires c = search room_letter

pub field-requires : goal.field-requires
field-requires c = search room_a

pub field-requires-2 : goal.field-requires-2
field-requires-2 c = search room_b

pub put-requires-2 : goal.put-requires-2
put-requires-2 c = search room_end

pub returns : goal.returns
returns c = search whole_line
