-- `Plan::length` meets its contract: batch after batch is counted.
use Rattle.writer.proofs.Measuring.{summed_more, summed_all}
use Rattle.writer.proofs.plan.Plan.length.Goals as goal

pub loop-part-preserved : goal.loop-part-preserved
loop-part-preserved c = search (summed_more, c.in-Some.ensures.steps)

pub returns : goal.returns
returns c = search (summed_all, c.in-None.ensures.steps.0)
