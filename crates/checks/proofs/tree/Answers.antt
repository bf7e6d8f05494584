-- `checks::tree`: how many machines, then the tree.
use Rattle.tables.specs.Tree.{alone_verdict}
use Rattle.checks.proofs.Checking.{stops, goes_on, ends, few_machines}
use Rattle.checks.proofs.tree.Goals as goal

pub returns-in_default : goal.returns-in_default
unfolding alone_verdict
returns-in_default c = search stops

pub shape-requires : goal.shape-requires
unfolding alone_verdict
shape-requires c = search few_machines

pub returns : goal.returns
unfolding alone_verdict
returns c = search (goes_on, ends)
