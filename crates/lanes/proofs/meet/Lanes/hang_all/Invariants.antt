-- `Lanes::hang_all` meets its contract: after `i` links these are hung.
use Rattle.lanes.specs.Hung.{Hanging}
use Rattle.lanes.proofs.meet.Lanes.hang_all.Given as goal

abbrev pub invariant-loop-i : goal.invariant-loop-i
invariant-loop-i l = Hanging l.self.tree.up.now l.batch l.initial.group l.group l.low l.i
