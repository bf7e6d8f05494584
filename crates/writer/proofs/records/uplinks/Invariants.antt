-- `records::uplinks` meets its contract. The loop's invariant: the records from machine v on are still to be written.
use lib.ListN.{drop}
use Rattle.writer.specs.Plan.{uplink_records}
use Rattle.writer.proofs.Filling.{Writing}
use Rattle.writer.proofs.records.uplinks.Given as goal

abbrev pub invariant-loop-v : goal.invariant-loop-v
invariant-loop-v l = Writing (uplink_records l.up) (uplink_records (drop l.v l.up)) l.initial.out l.out l.at
