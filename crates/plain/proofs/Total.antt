-- Sums of a table's entries: one entry changed changes the sum by as much, and what no entry fell by adds up to the difference of the sums.
use mathlib.Core.Path.{◌≡◌, refl}
use mathlib.Core.List.{List, [], ◌∷◌}
use Prim.Native.Nat.{ℕ, zero, suc, ◌+◌, ◌-◌, ◌<◌, ◌≤◌}
use native.Mathlib.Omega.{arith}
use lib.ListN.{length, set}
use Rattle.plain.specs.Table.{at, tabulate, total}

pub total-set : (l : List ℕ) (i v : ℕ) → i < length l → total (set l i v) + at l i ≡ total l + v
unfolding total
total-set [] i v h = absurd (omega arith)
total-set (x ∷ l) zero v h = omega arith
total-set (x ∷ l) (suc i) v h = omega (arith, total-set l i v (omega arith))

pub total_rise : (l k : List ℕ) → length k ≡ length l → ((x : ℕ) → x < length l → at l x ≤ at k x)
    → total (tabulate (length l) (λ x. at k x - at l x)) + total l ≡ total k
unfolding total tabulate
total_rise [] [] e f = refl
total_rise [] (b ∷ k) e f = absurd (omega arith)
total_rise (a ∷ l) [] e f = absurd (omega arith)
total_rise (a ∷ l) (b ∷ k) e f =
    omega (arith, f 0 (omega arith), total_rise l k (omega arith) (λ x h. f (suc x) (omega arith)))

-- where no entry is greater, the sum is not
pub total-le : (l k : List ℕ) → length k ≡ length l → ((x : ℕ) → x < length l → at l x ≤ at k x) → total l ≤ total k
total-le l k e f = omega (arith, total_rise l k e f)
