-- `trees::hub`: what the search from 0 finds is the hub.
use Rattle.checks.proofs.TreeVerdicts.{hub_or}
use Rattle.checks.proofs.trees.hub.Goals as goal

pub returns : goal.returns
returns c = search hub_or
