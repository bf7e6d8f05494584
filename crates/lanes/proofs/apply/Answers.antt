-- Blank tables are looked over, and groups that are joined and marks that are swept are the tables after the batch.
use Rattle.lanes.proofs.Preparing.{tree_accepted, bare, join_ready, sweep_ready}
use Rattle.lanes.proofs.Wholes.{applied}
use Rattle.lanes.proofs.apply.Goals as goal

pub invariant_of-tree-clause-sound : goal.invariant_of-tree-clause-sound
invariant_of-tree-clause-sound c = search tree_accepted

pub look-levels-requires : goal.look-levels-requires
look-levels-requires c = search bare

pub join-requires : goal.join-requires
join-requires c = search join_ready

pub settle-requires : goal.settle-requires
settle-requires c = search sweep_ready

pub returns : goal.returns
returns c = search applied
