-- `Site::start`: checks that refuse are the answer; else they have left the depths, and the tables are fresh.
use Rattle.site.proofs.Answers.{start_stopped, start_left}
use Rattle.site.proofs.Site.start.Goals as goal

pub returns-in_default : goal.returns-in_default
returns-in_default c = search start_stopped

pub returns : goal.returns
returns c = let m = c.fill.ensures.after (λ y e. search e) in search start_left
