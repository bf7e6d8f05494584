-- `checks::grow`: a tree that is refused leaves the depths alone; else they come out of `known`.
use Rattle.checks.proofs.Checking.{start_stops, start_grown}
use Rattle.checks.proofs.grow.Goals as goal

pub returns-in_default : goal.returns-in_default
returns-in_default c = search start_stops

pub returns : goal.returns
returns c = search start_grown
