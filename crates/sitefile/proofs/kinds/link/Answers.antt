-- `kinds::link`: two numbers more at the end of those that are open, or the refusal of one link too many.
use lib.ListN.{length-set}
use Rattle.sitefile.proofs.ReadKinds.{number_in, room_first, room_second, link_full, link_read}
use Rattle.sitefile.proofs.kinds.link.Goals as goal

pub returns-in_default : goal.returns-in_default
returns-in_default c up depth group mark machines links h = search link_full

pub bounds-batch-opened : goal.bounds-batch-opened
bounds-batch-opened c = search room_first

pub bounds-batch-opened-2 : goal.bounds-batch-opened-2
bounds-batch-opened-2 c = simp length-set (search room_second)

pub returns : goal.returns
returns c up depth group mark machines links h = search (link_read, number_in)
