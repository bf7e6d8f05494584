-- `kinds::report`: Report into the front parts of the outputs, laid back over them.
use Rattle.sitefile.proofs.ReadCalls.{report_read, report_refused}
use Rattle.sitefile.proofs.kinds.report.Goals as goal

pub returns-then-a-eq0 : goal.returns-then-a-eq0
returns-then-a-eq0 c bytes batch = search report_read

pub returns : goal.returns
returns c bytes batch = search report_refused
