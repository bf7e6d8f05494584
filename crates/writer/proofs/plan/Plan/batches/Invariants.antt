-- `Plan::batches` meets its contract. The loop's invariant: the batches that are left are still to be written.
use Rattle.writer.specs.Plan.{plan_records}
use Rattle.writer.specs.Lent.{parts}
use Rattle.writer.proofs.Filling.{Writing}
use Rattle.writer.proofs.plan.Plan.batches.Given as goal

abbrev pub invariant-loop-part : goal.invariant-loop-part
invariant-loop-part l = Writing (plan_records (parts l.fn.self)) (plan_records (parts l.part-iterator)) l.fn.out l.out l.at
