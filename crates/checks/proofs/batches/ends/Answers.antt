-- `batches::ends`: a link that is refused is the answer, one that passes leaves it to the links behind it.
use Rattle.checks.proofs.LinkByLink.{passed_more, passed_all, refused}
use Rattle.checks.proofs.batches.ends.Goals as goal

pub returns-in_default : goal.returns-in_default
returns-in_default c = search refused

pub loop-i-preserved : goal.loop-i-preserved
loop-i-preserved c = search passed_more

pub returns : goal.returns
returns c = search passed_all
