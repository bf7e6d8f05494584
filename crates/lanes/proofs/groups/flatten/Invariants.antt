-- `groups::flatten` meets its contract: the entries before `i` are names, and the others are as they were.
use Rattle.lanes.proofs.Uniting.{Flattening}
use Rattle.lanes.proofs.groups.flatten.Given as goal

abbrev pub invariant-loop-i : goal.invariant-loop-i
invariant-loop-i l = Flattening l.initial.group l.group l.i
