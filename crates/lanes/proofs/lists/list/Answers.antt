-- `lists::list` meets its contract: a machine that is not seen is left out, another one is its list's head.
use Rattle.lanes.proofs.Listing.{skipped, one_more}
use Rattle.lanes.proofs.lists.list.Goals as goal

pub returns-then-at-eq-NONE : goal.returns-then-at-eq-NONE
returns-then-at-eq-NONE c = search skipped

pub returns : goal.returns
returns c = search one_more
