-- `Plan::length` meets its contract. The loop's invariant: the sum and the batches that are left make the whole length.
use Rattle.writer.specs.Lent.{parts}
use Rattle.writer.proofs.Measuring.{Measuring}
use Rattle.writer.proofs.plan.Plan.length.Given as goal

abbrev pub invariant-loop-part : goal.invariant-loop-part
invariant-loop-part l = Measuring l.n (parts l.fn.self) (parts l.part-iterator) l.sum
