-- `Plan::check` meets its contract: the first batch that is refused is the verdict.
use Rattle.writer.proofs.BatchByBatch.{begun, refused, passed_more, passed_all}
use Rattle.writer.proofs.plan.Plan.check.Goals as goal

pub loop-part-init : goal.loop-part-init
loop-part-init c = rw c.into_iter-part-iterator.ensures.into_iter_gives (begun c.args.n c.args.self)

pub loop-part-preserved : goal.loop-part-preserved
loop-part-preserved c = search (passed_more, c.in-Some.ensures.steps)

pub returns-in_default : goal.returns-in_default
returns-in_default c = search (refused, c.in-Some.ensures.steps)

pub returns : goal.returns
returns c = search (passed_all, c.in-None.ensures.steps.0)
