-- `plan::add_up` meets its contract. The loop's invariant: the lengths from b on add up to what is left just where all add up to the numbers.
use Rattle.writer.proofs.BatchByBatch.{Left}
use Rattle.writer.proofs.plan.add_up.Given as goal

abbrev pub invariant-loop-k : goal.invariant-loop-k
invariant-loop-k l = Left l.lengths l.numbers l.left l.k-index
