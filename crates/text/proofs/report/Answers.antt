-- `text::report` meets its contract: three parts, with room for each.
use Rattle.std.proofs.Common.{rules}
use Rattle.text.proofs.Reporting.{handed_back, unfit, room_machines, room_uplinks, room_totals, reported}
use Rattle.text.proofs.report.Goals as goal

pub returns-then-not-fits : goal.returns-then-not-fits
returns-then-not-fits c = search unfit

pub machine_lines-requires : goal.machine_lines-requires
machine_lines-requires c = search room_machines

pub uplink_lines-requires-clause-room : goal.uplink_lines-requires-clause-room
uplink_lines-requires-clause-room c = search room_uplinks

pub totals-requires : goal.totals-requires
totals-requires c = search room_totals

pub returns : goal.returns
returns c = handed_back c.totals.new.self (search rules) (search reported)
