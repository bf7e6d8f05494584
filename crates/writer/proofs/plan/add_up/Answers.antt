-- `plan::add_up` meets its contract: what is left after a length, and that a length which is greater is too much.
use Rattle.writer.proofs.BatchByBatch.{left_less, left_short, left_end}
use Rattle.writer.proofs.plan.add_up.Goals as goal

pub returns-then-left-k : goal.returns-then-left-k
returns-then-left-k c = search left_short

pub loop-k-preserved : goal.loop-k-preserved
loop-k-preserved c = search left_less

pub returns : goal.returns
returns c = search left_end
