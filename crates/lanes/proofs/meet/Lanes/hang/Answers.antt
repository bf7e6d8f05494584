-- What the meeting of the two lines tells is handed to both ends, and to the groups where no arm is empty.
use native.Mathlib.Omega.{arith}
use Rattle.lanes.proofs.Grown.{known}
use Rattle.lanes.proofs.Hanging.{w_few, depth_in, hung_left, hung_right, hung_both}
use Rattle.lanes.proofs.meet.Lanes.hang.Goals as goal

pub offset_bounds-self-m : goal.offset_bounds-self-m
offset_bounds-self-m c = omega (arith, w_few (known c.args.self.now.tree) c.requires c.meet-m.ensures)

pub bounds-self-m : goal.bounds-self-m
bounds-self-m c = search (depth_in, known c.args.self.now.tree)

pub returns-in-Some-Some : goal.returns-in-Some-Some
returns-in-Some-Some c = search (hung_both, known c.args.self.now.tree)

pub returns : goal.returns
returns c = search (hung_left, hung_right, known c.args.self.now.tree)

pub returns-2 : goal.returns-2
returns-2 c = search (hung_left, hung_right, known c.args.self.now.tree)
