-- `checks::start`: the lengths, then the tree.
use lib.Seq.{length-take-le}
use Rattle.tables.specs.Outcome.{start_verdict}
use Rattle.checks.proofs.Checking.{stops, few_up, depth_fits, start_stops, start_ends}
use Rattle.checks.proofs.start.Goals as goal

pub returns-in_default : goal.returns-in_default
unfolding start_verdict
returns-in_default c = search (start_stops, stops)

pub slice_bounds-known-end : goal.slice_bounds-known-end
unfolding start_verdict
slice_bounds-known-end c = search few_up

pub slice_bounds-grow-end : goal.slice_bounds-grow-end
unfolding start_verdict
slice_bounds-grow-end c = search (length-take-le, few_up)

pub grow-requires : goal.grow-requires
unfolding start_verdict
grow-requires c = search (length-take-le, few_up, depth_fits)

pub returns : goal.returns
unfolding start_verdict
returns c = search start_ends
