-- `due::look`: the tests in the order of the definition: the end, 11, 12, 10, then the kind.
use Rattle.sitefile.proofs.ReadDue.{look_end, look_cut, look_unknown, look_misplaced, look_short, look_whole}
use Rattle.sitefile.proofs.due.look.Goals as goal

pub returns-then-closed : goal.returns-then-closed
returns-then-closed c = search look_end

pub returns-then-len-place : goal.returns-then-len-place
returns-then-len-place c = search look_cut

pub returns-then-not-known : goal.returns-then-not-known
returns-then-not-known c = search look_unknown

pub returns-then-not-in_place : goal.returns-then-not-in_place
returns-then-not-in_place c = search look_misplaced

pub returns-then-len-place-2 : goal.returns-then-len-place-2
returns-then-len-place-2 c = search look_short

pub returns : goal.returns
returns c = search look_whole
