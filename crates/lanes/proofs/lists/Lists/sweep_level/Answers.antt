-- Whatever was swept before, one machine more is swept by each step.
use native.Mathlib.Omega.{arith}
use Rattle.lanes.proofs.Grown.{known_lists}
use Rattle.lanes.proofs.Settling.{level_start, level_noted, level_small, level_next}
use Rattle.lanes.proofs.lists.Lists.sweep_level.Goals as goal

pub loop-v-init : goal.loop-v-init
loop-v-init c = rw c.into_iter-v-iterator.ensures.into_iter_gives (level_start (known_lists c.args.self.now) c.requires c.on-v-items.ensures.table c.on-v-items.ensures.start)

pub overflow_add-rise : goal.overflow_add-rise
overflow_add-rise c = omega (arith, level_small (known_lists c.args.self.now) c.requires c.loop-v.invariant c.in-Some.ensures.steps.1.0 c.hand_up-rise.ensures)

pub loop-v-preserved : goal.loop-v-preserved
loop-v-preserved c =
    let (a, b) = c.in-Some.ensures.steps in
    level_next (known_lists c.args.self.now) c.requires c.loop-v.invariant b.0 c.hand_up-rise.ensures a b.1 c.hand_up-rise.auto.low c.hand_up-rise.auto.mark

pub hand_up-rise-requires : goal.hand_up-rise-requires
hand_up-rise-requires c = level_noted (known_lists c.args.self.now) c.requires c.loop-v.invariant c.in-Some.ensures.steps.1.0
