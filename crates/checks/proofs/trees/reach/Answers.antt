-- `trees::reach`: a climb that finds no depth is that of a stray, and where each finds one the table is whole.
use Rattle.checks.proofs.DepthTable.{reach_start, reach_stray, reach_end}
use Rattle.checks.proofs.trees.reach.Goals as goal

pub loop-v-init : goal.loop-v-init
loop-v-init c = reach_start c.requires (c.fill.ensures.after (λ y e. search)) c.hub-top.ensures

pub returns-in_default : goal.returns-in_default
returns-in_default c = search reach_stray

pub returns : goal.returns
returns c = search reach_end
