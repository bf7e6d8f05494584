-- The worked sites and the worked runs, by computation.
use mathlib.Core.Path.{refl}
use Rattle.plain.specs.Search.{least, some, count}
use Rattle.plain.specs.Table.{tabulate, total}
use Rattle.tables.specs.Verdict.{checks, refuse_least}
use Rattle.tables.specs.Tree.{climb, hub, depth_of, size_verdict, tree_verdict}
use Rattle.tables.specs.Tables.{fresh, sizes_verdict}
use Rattle.tables.specs.Link.{over, first, meet, ring, due, below, joined, grouped, raised, linked}
use Rattle.tables.specs.Batch.{pairs, numbers_verdict, ends_verdict, batch_verdict, after, rise}
use Rattle.tables.specs.Rules.{depth_rule, group_rule, carried_rule, keeps, breaks, rules_verdict, tables_verdict}
use Rattle.tables.specs.Report.{child, stuck, split, ends, lone, machine_byte, named, machine_bytes, link_bytes}
use Rattle.tables.specs.Outcome.{judged, start_verdict, start_of, add_verdict, add_of, outputs_verdict, report_verdict, report_of}
use Rattle.tables.specs.Cables.{uplinks}
use Rattle.tables.specs.Calls.{accepted_of}
use Rattle.tables.specs.Work.{sum_of, most_work, hops, fullest}
use Rattle.tables.specs.Labels.{differing, moves_of}
use Rattle.tables.specs.Worked.{site, start, add, report, list, rows, Worked}
use Rattle.tables.specs.WorkedRuns.{runs, RunsWorked}

pub worked : Worked
unfolding least some count tabulate total checks refuse_least climb hub depth_of size_verdict tree_verdict fresh sizes_verdict over first meet ring due below joined grouped raised linked pairs numbers_verdict ends_verdict batch_verdict after rise depth_rule group_rule carried_rule keeps breaks rules_verdict tables_verdict child stuck split ends lone machine_byte machine_bytes link_bytes named judged start_verdict start_of add_verdict add_of outputs_verdict report_verdict report_of site start add report list rows
worked = refl

pub runs_worked : RunsWorked
unfolding least some count tabulate total checks refuse_least climb hub depth_of size_verdict tree_verdict fresh sizes_verdict over first meet ring due below joined grouped raised linked pairs numbers_verdict ends_verdict batch_verdict after rise depth_rule group_rule carried_rule keeps breaks rules_verdict tables_verdict child stuck split ends lone machine_byte machine_bytes link_bytes named judged start_verdict start_of add_verdict add_of outputs_verdict report_verdict report_of accepted_of uplinks sum_of most_work hops fullest differing moves_of list runs
runs_worked = record { said = refl; fullest_six = refl; accepted = refl; fullest_four = refl }
