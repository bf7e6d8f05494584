-- `Lanes::meet` meets its contract: hops keep the machine at which the lines meet, and the depths that are left fall.
use Prim.Native.Nat.{◌+◌}
use Rattle.tables.specs.Tree.{depth_of}
use Rattle.tables.specs.Link.{meet}
use Rattle.lanes.proofs.Hopping.{Hopping}
use Rattle.lanes.proofs.meet.Lanes.meet.Given as goal

abbrev pub invariant-loop-s : goal.invariant-loop-s
invariant-loop-s l = Hopping l.self.tree.up.now l.self.top.now l.a l.b (meet l.self.tree.up.now l.a l.b) l.x l.c l.s l.y l.d l.t

abbrev pub decreases-loop-s : goal.decreases-loop-s
decreases-loop-s l = depth_of l.self.tree.up.now l.x + depth_of l.self.tree.up.now l.y
