-- `Site::add`: a check that refuses is the answer; else the tables are those of links that stand, and the batch is applied.
use Rattle.tables.specs.Outcome.{add_of}
use Rattle.site.proofs.Answers.{refused, add_ready, add_left}
use Rattle.site.proofs.Site.add.Goals as goal

pub returns-in_default : goal.returns-in_default
unfolding add_of
returns-in_default c = search refused

pub apply-rise-requires : goal.apply-rise-requires
unfolding add_of
apply-rise-requires c = search add_ready

pub returns : goal.returns
unfolding add_of
returns c = search add_left
