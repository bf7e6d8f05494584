-- `trees::depth_of`: the steps and the depth that they lead to, or that no step led to the hub.
use Rattle.checks.proofs.DepthTable.{climb_start, climb_next, climb_found, climb_none}
use Rattle.checks.proofs.trees.depth_of.Goals as goal

pub loop-steps-init : goal.loop-steps-init
loop-steps-init c = search climb_start

pub returns-then-known-x-lt-UNKNOWN : goal.returns-then-known-x-lt-UNKNOWN
returns-then-known-x-lt-UNKNOWN c = search climb_found

pub loop-steps-preserved : goal.loop-steps-preserved
loop-steps-preserved c = search climb_next

pub returns : goal.returns
returns c = search climb_none
