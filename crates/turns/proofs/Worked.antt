-- The worked files, by computation.
use mathlib.Core.Path.{refl}
use Rattle.plain.specs.Search.{least, some, count}
use Rattle.plain.specs.Table.{tabulate, total}
use Rattle.tables.specs.Verdict.{checks, refuse_least}
use Rattle.tables.specs.Tree.{climb, hub, depth_of, size_verdict, tree_verdict}
use Rattle.tables.specs.Tables.{fresh, sizes_verdict}
use Rattle.tables.specs.Link.{over, first, meet, ring, due, below, joined, grouped, raised, linked}
use Rattle.tables.specs.Batch.{pairs, numbers_verdict, ends_verdict, batch_verdict, after, rise}
use Rattle.tables.specs.Rules.{depth_rule, group_rule, carried_rule, keeps, breaks, rules_verdict, tables_verdict}
use Rattle.tables.specs.Report.{child, stuck, split, ends, lone, machine_byte, named, machine_bytes, link_bytes}
use Rattle.tables.specs.Outcome.{judged, add_verdict, add_of, outputs_verdict, report_verdict}
use Rattle.sitefile.specs.Record.{body_length, whole, body_of}
use Rattle.text.specs.Text.{ascii, digits, line, lines, report_text}
use Rattle.sitefile.specs.File.{due_of, size, uplink, link, close, report, done, step}
use Rattle.turns.specs.Printed.{prints, printed}
use Rattle.turns.specs.Worked.{files, FilesWorked}

pub files_worked : FilesWorked
unfolding least some count tabulate total checks refuse_least climb hub depth_of size_verdict tree_verdict fresh sizes_verdict over first meet ring due below joined grouped raised linked pairs numbers_verdict ends_verdict batch_verdict after rise depth_rule group_rule carried_rule keeps breaks rules_verdict tables_verdict child stuck split ends lone machine_byte machine_bytes link_bytes named judged add_verdict add_of outputs_verdict report_verdict body_length whole body_of ascii digits line lines report_text due_of size uplink link close report done step prints printed files
files_worked = refl
