-- `groups::unite` meets its contract: the greater of the two names points to the lesser.
use Rattle.lanes.proofs.Uniting.{united}
use Rattle.lanes.proofs.groups.unite.Goals as goal

pub returns : goal.returns
returns c = search united
