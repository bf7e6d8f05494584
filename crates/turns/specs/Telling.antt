-- What a part of a turn asks.
-- This is the contract of a private function: the public calls do not cite it, so nothing here has to be believed.
use Rattle.std.specs.Prelude.{◌≡◌, ◌≤◌}
use Rattle.tables.specs.Tree.{most_machines}
use Rattle.sitefile.specs.declared.Reader.{Reader}
use Rattle.sitefile.specs.declared.Step.{Step}
use Rattle.sitefile.specs.declared.Step.TheVariants as steps

-- what a step's text is laid under: a report is on no more machines than the arrays have
abbrev pub TellDue : Step → Type 0
TellDue s = (r : Reader) → s ≡ steps.Report r → r.n ≤ most_machines
