-- `Plan::check` meets its contract. The loop's invariant: every batch so far passed, so the verdict is that of the batches that are left.
use Rattle.writer.specs.Written.{plan_verdict}
use Rattle.writer.specs.Lent.{parts}
use Rattle.writer.proofs.BatchByBatch.{Passed}
use Rattle.writer.proofs.plan.Plan.check.Given as goal

abbrev pub invariant-loop-part : goal.invariant-loop-part
invariant-loop-part l = Passed (plan_verdict l.n l.fn.self.links.now l.fn.self.lengths.now l.fn.self.reports.now) l.n (parts l.part-iterator)
