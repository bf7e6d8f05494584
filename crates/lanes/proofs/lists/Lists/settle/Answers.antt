use Rattle.lanes.proofs.Grown.{known_lists}
use Rattle.lanes.proofs.Settling.{start, settle_next, end}
use Rattle.lanes.proofs.lists.Lists.settle.Goals as goal

pub loop-k-init : goal.loop-k-init
loop-k-init c = search (start, known_lists c.args.self.now)

pub loop-k-preserved : goal.loop-k-preserved
loop-k-preserved c = search (settle_next, known_lists c.args.self.now)

pub returns : goal.returns
returns c = search (end, known_lists c.args.self.now)
