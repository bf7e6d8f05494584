-- `records::uplinks` meets its contract: record after record, each from what is left.
use Rattle.std.proofs.Common.{arith}
use Rattle.writer.proofs.Planning.{uplinks_next, uplinks_end}
use Rattle.writer.proofs.Filling.{piece_room, piece_next, all_written}
use Rattle.writer.proofs.records.uplinks.Goals as goal

pub record-at-requires : goal.record-at-requires
record-at-requires c = (search arith, search (piece_room, uplinks_next))

pub loop-v-preserved : goal.loop-v-preserved
loop-v-preserved c = search (piece_next, uplinks_next)

pub returns : goal.returns
returns c = search (all_written, uplinks_end)
