-- The worked plans and files, by computation.
use mathlib.Core.Path.{refl}
use Rattle.plain.specs.Search.{least, some, count}
use Rattle.plain.specs.Table.{tabulate, total}
use Rattle.tables.specs.Verdict.{checks, refuse_least}
use Rattle.tables.specs.Tree.{climb, hub, depth_of, size_verdict, tree_verdict, alone_verdict}
use Rattle.tables.specs.Tables.{fresh, sizes_verdict}
use Rattle.tables.specs.Link.{over, first, meet, ring, due, below, joined, grouped, raised, linked}
use Rattle.tables.specs.Batch.{pairs, numbers_verdict, ends_verdict, batch_verdict, after, rise}
use Rattle.tables.specs.Rules.{depth_rule, group_rule, carried_rule, keeps, breaks, rules_verdict, tables_verdict}
use Rattle.tables.specs.Report.{child, stuck, split, ends, lone, machine_byte, named, machine_bytes, link_bytes}
use Rattle.tables.specs.Outcome.{judged, add_verdict, add_of, outputs_verdict, report_verdict}
use Rattle.tables.specs.Worked.{list}
use Rattle.sitefile.specs.Record.{body_length, whole, body_of, words}
use Rattle.sitefile.specs.File.{due_of, size, uplink, link, close, report, done, step}
use Rattle.writer.specs.Plan.{plan_of, uplink_records, link_records, plan_records, file_of}
use Rattle.writer.specs.Written.{parts_verdict, batches_verdict, plan_verdict, room_verdict, write_verdict, write_of}
use Rattle.writer.specs.Said.{heard, said_by}
use Rattle.writer.specs.Worked.{plans, PlansWorked, files, SaidWorked}

pub plans_worked : PlansWorked
unfolding least tabulate total checks refuse_least climb hub depth_of size_verdict tree_verdict alone_verdict pairs numbers_verdict ends_verdict batch_verdict judged list words plan_of uplink_records link_records plan_records file_of parts_verdict batches_verdict plan_verdict room_verdict write_verdict write_of plans
plans_worked = refl

pub said_worked : SaidWorked
unfolding least some count tabulate total checks refuse_least climb hub depth_of size_verdict tree_verdict fresh sizes_verdict over first meet ring due below joined grouped raised linked pairs numbers_verdict ends_verdict batch_verdict after rise depth_rule group_rule carried_rule keeps breaks rules_verdict tables_verdict child stuck split ends lone machine_byte machine_bytes link_bytes named judged add_verdict add_of outputs_verdict report_verdict list body_length whole body_of due_of size uplink link close report done step heard said_by files
said_worked = refl
