-- `writer::write` meets its contract: a check that refuses is the answer, and else the file is written.
use Rattle.writer.proofs.WholeFile.{bad_tree, few, bad_parts, bad_batch, bad_room, room, written}
use Rattle.writer.proofs.write.Goals as goal

pub returns-in_default : goal.returns-in_default
returns-in_default c = search bad_tree

pub returns-in_default-new : goal.returns-in_default-new
returns-in_default-new c = search (bad_parts, c.in_default-new.ensures)

pub returns-in_default-batches : goal.returns-in_default-batches
returns-in_default-batches c = search (bad_batch, c.in-Some.ensures)

pub length-requires : goal.length-requires
length-requires c = search few

pub returns-in_default-room : goal.returns-in_default-room
returns-in_default-room c = search (bad_room, c.in-Some.ensures)

pub write-len-requires : goal.write-len-requires
write-len-requires c = search (few, room, c.in-Some.ensures)

pub returns : goal.returns
returns c = search (written, c.in-Some.ensures)
