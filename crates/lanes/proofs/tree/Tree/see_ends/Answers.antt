use native.Mathlib.Omega.{arith}
use Rattle.lanes.proofs.Grown.{known}
use Rattle.lanes.proofs.Seeing.{see_ready, level_in, level_few, all_next}
use Rattle.lanes.proofs.tree.Tree.see_ends.Goals as goal

pub see-requires : goal.see-requires
see-requires c = search see_ready

pub at-requires : goal.at-requires
at-requires c = search (level_in, known c.args.self.now)

pub overflow_add-at : goal.overflow_add-at
overflow_add-at c = omega (arith, level_few (known c.args.self.now) c.requires c.loop-i.invariant c.loop-i-test.true c.at-v.ensures c.at.ensures)

pub loop-i-preserved : goal.loop-i-preserved
loop-i-preserved c = search (all_next, known c.args.self.now)
