-- `alone` meets its contract: each entry below `v` is its own number.
use Prim.Native.Nat.{◌%◌}
use Rattle.plain.proofs.Fill.{Filling}
use Rattle.lanes.proofs.table.alone.Given as goal

abbrev pub invariant-loop-v : goal.invariant-loop-v
invariant-loop-v l = Filling l.initial.table l.table l.v (λ k. k % 65536)
