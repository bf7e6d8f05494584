-- How the checks of Start come out: the verdict, and the depths, which they have found where all is well.
use Rattle.std.specs.Prelude.{List, ℕ}
use Rattle.tables.specs.declared.Verdict.{Verdict}
use Rattle.tables.specs.Tables.{fresh}
use Rattle.tables.specs.Outcome.{Outcome, outcome, lent_by}

unfoldable pub started : Verdict → List ℕ → List ℕ → Outcome Verdict (List ℕ)
started v up depth = outcome v (lent_by v depth (fresh up).depth)
