-- `records::close` meets its contract: kind 4, and behind it kind 5 where a report is asked.
use Rattle.std.proofs.Common.{[], ◌≤◌, length}
use Rattle.sitefile.specs.Record.{record_of}
use Rattle.writer.specs.Plan.{close_records}
use Rattle.writer.proofs.Filling.{second_done}
use Rattle.writer.proofs.records.close.Goals as goal

pub returns : goal.returns
returns c =
    let e = c.if-not-report.false in
    let h : length (close_records c.args.report) ≤ length c.args.out.now = c.requires in
    rw e (second_done (record_of 4 []) (record_of 5 []) (rw e at h) c.record-k.ensures c.record.ensures)
