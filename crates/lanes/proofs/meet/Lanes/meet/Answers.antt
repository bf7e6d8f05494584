-- A climb keeps inside its tables, a hop leads higher and keeps where the lines meet, and in one lane the climbs close.
use borrow.Author.Rules.{rules}
use Rattle.tables.proofs.Reading.{depth_size}
use Rattle.lanes.proofs.Grown.{known}
use Rattle.lanes.proofs.Hopping.{start, left_in, right_in, left_up, right_up, close_ready, next_left, less_left, next_right, less_right, end}
use Rattle.lanes.proofs.meet.Lanes.meet.Goals as goal

pub loop-s-init : goal.loop-s-init
loop-s-init c = search (start, known c.args.self.now.tree)

pub at-requires : goal.at-requires
at-requires c = search (left_in, depth_size, rules, known c.args.self.now.tree)

pub at-requires-in-loop-s : goal.at-requires-in-loop-s
at-requires-in-loop-s c = search (right_in, depth_size, rules, known c.args.self.now.tree)

pub at-y-requires : goal.at-y-requires
at-y-requires c = search (right_in, known c.args.self.now.tree)

pub at-t-requires-then-at : goal.at-t-requires-then-at
at-t-requires-then-at c = search (right_up, known c.args.self.now.tree)

pub loop-s-smaller-then-at : goal.loop-s-smaller-then-at
loop-s-smaller-then-at c = search (less_right, known c.args.self.now.tree)

pub loop-s-preserved-then-at : goal.loop-s-preserved-then-at
loop-s-preserved-then-at c = search (next_right, known c.args.self.now.tree)

pub at-x-requires : goal.at-x-requires
at-x-requires c = search (left_in, known c.args.self.now.tree)

pub at-s-requires-else-at : goal.at-s-requires-else-at
at-s-requires-else-at c = search (left_up, known c.args.self.now.tree)

pub loop-s-smaller : goal.loop-s-smaller
loop-s-smaller c = search (less_left, known c.args.self.now.tree)

pub loop-s-preserved : goal.loop-s-preserved
loop-s-preserved c = search (next_left, known c.args.self.now.tree)

pub close-requires : goal.close-requires
close-requires c = search (close_ready, known c.args.self.now.tree)

pub returns : goal.returns
returns c = search (end, known c.args.self.now.tree)
