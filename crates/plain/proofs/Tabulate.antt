-- A list by its rule: its length, its entries, and that a list with these entries is that list.
use mathlib.Core.Path.{◌≡◌, refl, sym, ap, ◌∙◌}
use mathlib.Core.List.{List, [], ◌∷◌, map}
use Prim.Native.Nat.{ℕ, zero, suc, ◌<◌}
use native.Mathlib.Omega.{arith}
use lib.ListN.{length}
use lib.Seq.{ext_get_or}
use Rattle.plain.specs.Table.{at, tabulate}

pub length-tabulate : (n : ℕ) (f : ℕ → ℕ) → length (tabulate n f) ≡ n
unfolding tabulate
length-tabulate zero f = refl
length-tabulate (suc n) f = ap suc (length-tabulate n (λ k. f (suc k)))

pub at-tabulate : (n : ℕ) (f : ℕ → ℕ) (k : ℕ) → k < n → at (tabulate n f) k ≡ f k
unfolding tabulate
at-tabulate zero f k h = absurd (omega arith)
at-tabulate (suc n) f zero h = refl
at-tabulate (suc n) f (suc k) h = at-tabulate n (λ j. f (suc j)) k (omega arith)

-- a list of n entries that go by f
pub tabulated : (l : List ℕ) (n : ℕ) (f : ℕ → ℕ) → length l ≡ n → ((k : ℕ) → k < n → at l k ≡ f k) → l ≡ tabulate n f
tabulated l n f e all = ext_get_or 0 l (tabulate n f) (e ∙ sym (length-tabulate n f))
    (λ k h. let h' : k < n = rw e at h in all k h' ∙ sym (at-tabulate n f k h'))

pub at_map : (f : ℕ → ℕ) (l : List ℕ) (i : ℕ) → i < length l → at (map f l) i ≡ f (at l i)
at_map f [] i h = absurd (omega arith)
at_map f (x ∷ l) zero h = refl
at_map f (x ∷ l) (suc i) h = at_map f l i (omega arith)
