-- `Tree::see_ends` meets its contract: the lines of the first `i` numbers are seen.
use Rattle.lanes.specs.Seen.{SeenTo}
use Rattle.lanes.proofs.tree.Tree.see_ends.Given as goal

abbrev pub invariant-loop-i : goal.invariant-loop-i
invariant-loop-i l = SeenTo l.self.up.now l.batch l.low l.levels l.i
