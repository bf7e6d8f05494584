-- `Plan::new` meets its contract: as many reports as lengths, then their sum.
use Rattle.writer.proofs.BatchByBatch.{odd_parts, wrong_sum, no_plan}
use Rattle.writer.proofs.plan.Plan.new.Goals as goal

pub returns-then-reports-lengths : goal.returns-then-reports-lengths
returns-then-reports-lengths c = search (no_plan, odd_parts)

pub returns-then-not-add_up : goal.returns-then-not-add_up
returns-then-not-add_up c = search (no_plan, wrong_sum)
