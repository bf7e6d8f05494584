-- `records::links` meets its contract: record after record, each from what is left.
use Rattle.std.proofs.Common.{arith}
use Rattle.writer.proofs.Planning.{links_next, links_end}
use Rattle.writer.proofs.Filling.{piece_room, piece_next, all_written}
use Rattle.writer.proofs.records.links.Goals as goal

pub record-at-requires : goal.record-at-requires
record-at-requires c = (search arith, search (piece_room, links_next))

pub loop-i-preserved : goal.loop-i-preserved
loop-i-preserved c = search (piece_next, links_next)

pub returns : goal.returns
returns c = search (all_written, links_end)
