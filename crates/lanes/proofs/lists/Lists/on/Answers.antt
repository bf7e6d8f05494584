-- `on` meets its contract: the head of a list begins a walk.
use Rattle.lanes.proofs.Grown.{known_lists}
use Rattle.lanes.proofs.Walking.{head_in, begins, falls}
use Rattle.lanes.proofs.lists.Lists.on.Goals as goal

pub at-requires : goal.at-requires
at-requires c = head_in (known_lists c.args.self.now) c.requires

pub invariant_of-result-clause-begins : goal.invariant_of-result-clause-begins
invariant_of-result-clause-begins c = begins (known_lists c.args.self.now) _ c.at.ensures

pub invariant_of-result-clause-falls : goal.invariant_of-result-clause-falls
invariant_of-result-clause-falls c = falls (known_lists c.args.self.now)
