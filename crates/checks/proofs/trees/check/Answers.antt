-- `trees::check`: the ups that refuse are the answer, and what they show where they pass is what the climbs ask.
use Rattle.checks.proofs.TreeVerdicts.{ups_stop, ups_go_on, ready, refused, reached}
use Rattle.checks.proofs.trees.check.Goals as goal

pub returns-in_default : goal.returns-in_default
returns-in_default c = search (refused, ups_stop)

pub reach-requires : goal.reach-requires
reach-requires c = search ready

pub returns : goal.returns
returns c = search (reached, ups_go_on)
