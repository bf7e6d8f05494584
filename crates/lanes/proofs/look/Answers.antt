-- `look` meets its contract: the machines seen on the lines of the ends are those on the lists, and the lists by the table are lists by depth.
use Rattle.lanes.proofs.Grown.{known}
use Rattle.lanes.proofs.Preparing.{lists_ready, looked}
use Rattle.lanes.proofs.look.Goals as goal

pub fill-requires : goal.fill-requires
fill-requires c = search (lists_ready, known c.args.tree.now)

pub returns : goal.returns
returns c = search (looked, known c.args.tree.now)
