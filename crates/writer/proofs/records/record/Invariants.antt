-- `records::record` meets its contract. The loop's invariant: the numbers from i on are still to be written.
use Rattle.writer.proofs.Filling.{NumbersLeft}
use Rattle.writer.proofs.records.record.Given as goal

abbrev pub invariant-loop-i : goal.invariant-loop-i
invariant-loop-i g l = NumbersLeft g.row.N l.kind l.numbers l.fn.free l.free l.i
