-- A list is walked from its head.
use mathlib.Core.Path.{◌∙◌}
use Rattle.lanes.proofs.Grown.{known_lists}
use Rattle.lanes.proofs.Walking.{set_out, noted_here}
use Rattle.lanes.proofs.lists.Lists.offers.Goals as goal

pub loop-v-init : goal.loop-v-init
loop-v-init c = rw c.into_iter-v-iterator.ensures.into_iter_gives (set_out (known_lists c.args.self.now) c.on-v-items.ensures.table c.on-v-items.ensures.start)

pub offer-requires : goal.offer-requires
offer-requires c = noted_here (known_lists c.args.self.now) c.loop-v.invariant c.in-Some.ensures.steps.1.0 (c.loop-v.auto.rank ∙ c.requires.ones) (c.loop-v.auto.kid ∙ c.requires.twos)
