-- `records::record` meets its contract: the kind is stored, and then number after number.
use Rattle.std.proofs.Common.{rules}
use Rattle.writer.proofs.Filling.{low_inside, high_inside, number_stored, numbers_done}
use Rattle.writer.proofs.records.record.Goals as goal

pub bounds-free-i : goal.bounds-free-i
bounds-free-i g c = search low_inside

pub bounds-free-i-in-loop-i : goal.bounds-free-i-in-loop-i
bounds-free-i-in-loop-i g c = search high_inside

pub loop-i-preserved : goal.loop-i-preserved
loop-i-preserved g c = search (number_stored, rules)

pub returns : goal.returns
returns g c = search numbers_done
