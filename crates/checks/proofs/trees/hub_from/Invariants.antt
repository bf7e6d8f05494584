-- `trees::hub_from` meets its contract. The loop's invariant: no machine from `from` to `v` names itself.
use mathlib.Core.Logic.{◌≢◌}
use Prim.Native.Nat.{ℕ, ◌≤◌, ◌<◌}
use Rattle.plain.specs.Table.{at}
use Rattle.checks.proofs.trees.hub_from.Given as goal

abbrev pub invariant-loop-v : goal.invariant-loop-v
invariant-loop-v l = (k : ℕ) → l.from ≤ k → k < l.v → at l.up k ≢ k
