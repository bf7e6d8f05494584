-- `Plan::write` meets its contract: the tree, and behind it the batches.
use Rattle.writer.specs.Plan.{tree_records, plan_records, file_of}
use Rattle.writer.specs.Lent.{parts}
use Rattle.writer.proofs.Filling.{first_room, second_room, second_done}
use Rattle.writer.proofs.plan.Plan.write.Goals as goal

pub tree-k-requires : goal.tree-k-requires
unfolding file_of
tree-k-requires c = (c.requires.0, first_room (tree_records c.args.up.now) (plan_records (parts c.args.self)) c.args.out.now c.requires.1)

pub batches-requires : goal.batches-requires
unfolding file_of
batches-requires c = search second_room

pub returns : goal.returns
unfolding file_of
returns c = search second_done
