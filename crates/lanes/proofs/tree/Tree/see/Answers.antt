use Rattle.lanes.proofs.Grown.{known}
use Rattle.lanes.proofs.Seeing.{depth_in, next, less}
use Rattle.lanes.proofs.tree.Tree.see.Goals as goal

pub bounds-self-x : goal.bounds-self-x
bounds-self-x c = search (depth_in, known c.args.self.now)

pub loop-p-smaller : goal.loop-p-smaller
loop-p-smaller c = search (less, known c.args.self.now)

pub loop-p-preserved : goal.loop-p-preserved
loop-p-preserved c = search (next, known c.args.self.now)
