-- `record::body` meets its contract: past the end, whole, or cut short.
use Rattle.sitefile.proofs.Bodies.{body_whole, body_short, body_past}
use Rattle.sitefile.proofs.record.body.Goals as goal

pub returns-then-place-file : goal.returns-then-place-file
returns-then-place-file c = search body_past

pub returns-then-len-file : goal.returns-then-len-file
returns-then-len-file c = search body_whole

pub returns-else-len-file : goal.returns-else-len-file
returns-else-len-file c = search body_short
