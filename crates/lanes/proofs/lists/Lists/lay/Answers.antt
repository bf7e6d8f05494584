-- `Lists::lay` meets its contract: machines that are lanes of their own are in lanes, and so are those whose tops are laid over kids.
use Rattle.lanes.proofs.Grown.{known_lists}
use Rattle.lanes.proofs.Laying.{alone_lanes}
use Rattle.lanes.proofs.lists.Lists.lay.Goals as goal

pub returns-then-links-le-FEW_LINKS : goal.returns-then-links-le-FEW_LINKS
returns-then-links-le-FEW_LINKS c = search (alone_lanes, known_lists c.args.self.now)
