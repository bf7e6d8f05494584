-- `batches::ends`: the loop's invariant.
use Rattle.checks.proofs.LinkByLink.{LinksPassed}
use Rattle.checks.proofs.batches.ends.Given as goal

-- every link below i passed,
-- so the verdict is that of the links from i on
abbrev pub invariant-loop-i : goal.invariant-loop-i
invariant-loop-i l = LinksPassed l.n l.batch l.i
