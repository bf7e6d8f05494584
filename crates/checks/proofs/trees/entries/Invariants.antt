-- `trees::entries` meets its contract. The loop's invariant: the entries below `v` are machines.
use lib.ListN.{length}
use lib.Dec.{leb}
use Rattle.plain.specs.Table.{at}
use Rattle.checks.proofs.Searching.{Searched}
use Rattle.checks.proofs.trees.entries.Given as goal

abbrev pub invariant-loop-v : goal.invariant-loop-v
invariant-loop-v l = Searched (length l.up) (λ k. leb (length l.up) (at l.up k)) l.v
