-- A link of an accepted batch can be hung, and then one more is.
use Rattle.lanes.proofs.Hanging.{start, link_ready, next, end}
use Rattle.lanes.proofs.meet.Lanes.hang_all.Goals as goal

pub loop-i-init : goal.loop-i-init
loop-i-init c = search start

pub hang-requires : goal.hang-requires
hang-requires c = search link_ready

pub loop-i-preserved : goal.loop-i-preserved
loop-i-preserved c = search next

pub returns : goal.returns
returns c = search end
