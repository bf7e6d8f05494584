-- `Plan::batches` meets its contract: batch after batch is written.
use Rattle.writer.proofs.Planning.{plan_next, plan_end}
use Rattle.writer.proofs.Filling.{piece_room, piece_next, all_written}
use Rattle.writer.proofs.plan.Plan.batches.Goals as goal

pub write-at-requires : goal.write-at-requires
write-at-requires c = search (piece_room, plan_next, c.in-Some.ensures.steps)

pub loop-part-preserved : goal.loop-part-preserved
loop-part-preserved c = search (piece_next, plan_next, c.in-Some.ensures.steps)

pub returns : goal.returns
returns c = search (all_written, plan_end, c.in-None.ensures.steps.0)
