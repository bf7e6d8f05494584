-- `trees::hubs`. Two searches: for the hub, and for one behind it.
use Rattle.checks.proofs.TreeVerdicts.{no_hub, two_hubs, one_hub}
use Rattle.checks.proofs.trees.hubs.Goals as goal

pub returns-in_default : goal.returns-in_default
returns-in_default c = search no_hub

pub returns-in-Some-hub_from : goal.returns-in-Some-hub_from
returns-in-Some-hub_from c = search two_hubs

pub returns-in-None : goal.returns-in-None
returns-in-None c = search one_hub
