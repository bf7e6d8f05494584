use Rattle.lanes.proofs.Uniting.{root_next}
use Rattle.lanes.proofs.groups.root.Goals as goal

pub loop-g-preserved : goal.loop-g-preserved
loop-g-preserved c = search root_next
