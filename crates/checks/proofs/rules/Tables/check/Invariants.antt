-- `rules::Tables::check`: a search; the invariant: no machine below v breaks a rule.
use Rattle.tables.specs.Rules.{breaks}
use Rattle.tables.specs.Tables.{tables_of}
use lib.ListN.{length}
use Rattle.checks.proofs.Searching.{Searched}
use Rattle.checks.proofs.rules.Tables.check.Given as goal

abbrev pub invariant-loop-v : goal.invariant-loop-v
invariant-loop-v l = Searched (length l.self.up.now) (breaks l.self.up.now (tables_of l.self.depth.now l.self.group.now l.self.mark.now)) l.v
