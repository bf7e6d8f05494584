-- `records::links` meets its contract. The loop's invariant: the links from number i on are still to be written.
use Prim.Native.Nat.{◌*◌}
use lib.ListN.{drop}
use Rattle.tables.specs.Batch.{pairs}
use Rattle.writer.specs.Plan.{link_records}
use Rattle.writer.proofs.Filling.{Writing}
use Rattle.writer.proofs.records.links.Given as goal

abbrev pub invariant-loop-i : goal.invariant-loop-i
invariant-loop-i l = Writing (link_records (pairs l.batch)) (link_records (pairs (drop (2 * l.i) l.batch))) l.initial.out l.out l.at
