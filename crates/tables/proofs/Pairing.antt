-- The links of a batch from number j on: the next two numbers are the next link, and fewer than two are none.
use mathlib.Core.Path.{◌≡◌, refl}
use mathlib.Core.List.{List, [], ◌∷◌}
use Prim.Native.Nat.{ℕ, ◌+◌, ◌<◌, ◌≤◌}
use native.Mathlib.Omega.{arith}
use lib.ListN.{length, drop, length-drop}
use Rattle.plain.specs.Table.{at}
use Rattle.plain.proofs.Loops.{from_next}
use Rattle.tables.specs.Batch.{pairs}

pub pairs_next : (batch : List ℕ) (j : ℕ) → j + 1 < length batch → pairs (drop j batch) ≡ (at batch j, at batch (j + 1)) ∷ pairs (drop (j + 2) batch)
unfolding pairs
pairs_next batch j h =
    let e : j + 1 + 1 ≡ j + 2 = omega arith in
    rw (from_next batch j (omega arith), from_next batch (j + 1) h, e)

too_few : (l : List ℕ) → length l ≤ 1 → pairs l ≡ []
unfolding pairs
too_few [] h = refl
too_few (a ∷ []) h = refl
too_few (a ∷ b ∷ l) h = absurd (omega arith)

pub pairs_end : (batch : List ℕ) (j : ℕ) → length batch ≤ j + 1 → pairs (drop j batch) ≡ []
pairs_end batch j h = too_few (drop j batch) (omega (arith, length-drop j batch))
