-- `Part::length` meets its contract: 5 bytes a link, one for kind 4, and one for kind 5 where a report is asked.
use Rattle.writer.proofs.Measuring.{bare_batch, asked_batch}
use Rattle.writer.proofs.plan.Part.length.Goals as goal

pub returns-then-self-clause-is : goal.returns-then-self-clause-is
returns-then-self-clause-is c = search asked_batch

pub returns-else-self-clause-is : goal.returns-else-self-clause-is
returns-else-self-clause-is c = search bare_batch
