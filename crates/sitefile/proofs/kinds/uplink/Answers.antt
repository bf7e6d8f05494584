-- `kinds::uplink`: one uplink more; after the last the tree's verdict decides, and a refusal has the old entry put back.
use lib.ListN.{length-set}
use Rattle.sitefile.proofs.ReadKinds.{number_in, uplink_more, uplink_last, uplink_refused}
use borrow.Author.Rules.{rules}
use Rattle.sitefile.proofs.kinds.uplink.Goals as goal

pub returns-then-next-r : goal.returns-then-next-r
returns-then-next-r c batch machines links = search (uplink_more, number_in)

pub start-a-requires : goal.start-a-requires
start-a-requires c = simp length-set (search rules)

pub returns-then-a-eq0 : goal.returns-then-a-eq0
returns-then-a-eq0 c batch machines links = search (uplink_last, number_in)

pub bounds-up-ups-3 : goal.bounds-up-ups-3
bounds-up-ups-3 c = simp length-set (search rules)

pub returns : goal.returns
returns c batch machines links = search (uplink_refused, number_in)
