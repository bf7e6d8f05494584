-- `Tree::see_all` meets its contract, by its test: whoever is on the line of an end is among all machines.
use Rattle.lanes.proofs.Grown.{known}
use Rattle.lanes.proofs.Seeing.{every_ready, every_seen}
use Rattle.lanes.proofs.tree.Tree.see_all.Goals as goal

pub see_every-requires : goal.see_every-requires
see_every-requires c = search (every_ready, known c.args.self.now)

pub returns : goal.returns
returns c = search (every_seen, known c.args.self.now)
