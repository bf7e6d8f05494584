-- Whoever the walk came by is in a lane.
use Rattle.lanes.proofs.Grown.{known_lists}
use Rattle.lanes.proofs.Laying.{level_start, level_noted, level_next}
use Rattle.lanes.proofs.lists.Lists.level.Goals as goal

pub loop-v-init : goal.loop-v-init
loop-v-init c = rw c.into_iter-v-iterator.ensures.into_iter_gives (level_start (known_lists c.args.self.now) c.requires c.on-v-items.ensures.table c.on-v-items.ensures.start)

pub loop-v-preserved : goal.loop-v-preserved
loop-v-preserved c = let (a, b) = c.in-Some.ensures.steps in level_next (known_lists c.args.self.now) c.requires c.loop-v.invariant b.0 c.top_for.ensures a b.1

pub top_for-requires : goal.top_for-requires
top_for-requires c = level_noted (known_lists c.args.self.now) c.requires c.loop-v.invariant c.in-Some.ensures.steps.1.0
