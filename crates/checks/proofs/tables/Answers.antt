-- `checks::tables`: ups that refuse are the answer, rules that are kept tell of a sound tree, and where one is broken the tree is looked at first.
use Rattle.checks.proofs.Grounded.{ups_refused, rules_ready, rules_refused, rules_kept}
use Rattle.checks.proofs.tables.Goals as goal

pub returns-in_default : goal.returns-in_default
returns-in_default c = search ups_refused

pub invariant_of-site : goal.invariant_of-site
invariant_of-site c = record { sized = search rules_ready }

pub returns-in_default-kept : goal.returns-in_default-kept
returns-in_default-kept c = search rules_refused

pub returns : goal.returns
returns c = search rules_kept
