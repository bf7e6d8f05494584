-- The pigeonhole: numbers below n, n + 1 of them, are not all different. By induction: where f hits n, take the last one's image instead.
use mathlib.Core.Path.{sym, ◌∙◌}
use mathlib.Core.Bool.{cond}
use mathlib.Core.Logic.{◌≢◌}
use Prim.Native.Nat.{ℕ, zero, suc, ◌<◌}
use native.Mathlib.Omega.{arith}
use lib.Dec.{eqb}
use borrow.Author.Tests.{eqb-true, eqb-false}
use Rattle.plain.proofs.Says.{by_cases}

abbrev Into : ℕ → (ℕ → ℕ) → Type 0
Into n f = (k : ℕ) → k < suc n → f k < n

abbrev Apart : ℕ → (ℕ → ℕ) → Type 0
Apart n f = (i j : ℕ) → i < j → j < suc n → f i ≢ f j

swapped : ℕ → (ℕ → ℕ) → ℕ → ℕ
swapped m f k = cond (eqb (f k) m) (f (suc m)) (f k)

swapped_into : (m : ℕ) (f : ℕ → ℕ) → Into (suc m) f → Apart (suc m) f → Into m (swapped m f)
unfolding swapped
swapped_into m f into apart k h = by_cases (eqb (f k) m)
    (λ e.
    let d : f (suc m) ≢ m = λ q. apart k (suc m) (omega arith) (omega arith) (eqb-true (f k) m e ∙ sym q) in
    rw e (omega (arith, into (suc m) (omega arith))))
    (λ e. let o : f k ≢ m = eqb-false (f k) m e in rw e (omega (arith, into k (omega arith))))

swapped_apart : (m : ℕ) (f : ℕ → ℕ) → Apart (suc m) f → Apart m (swapped m f)
unfolding swapped
swapped_apart m f apart i j l h = by_cases (eqb (f i) m)
    (λ e. by_cases (eqb (f j) m)
    (λ g _. apart i j l (omega arith) (eqb-true (f i) m e ∙ sym (eqb-true (f j) m g)))
    (λ g. rw (e, g) (λ q. apart j (suc m) (omega arith) (omega arith) (sym q))))
    (λ e. by_cases (eqb (f j) m) (λ g. rw (e, g) (apart i (suc m) (omega arith) (omega arith))) (λ g. rw (e, g) (apart i j l (omega arith))))

pub pigeon : (n : ℕ) (f : ℕ → ℕ) → Into n f → ¬ Apart n f
pigeon zero f into apart = omega (arith, into 0 (omega arith))
pigeon (suc m) f into apart = pigeon m (swapped m f) (swapped_into m f into apart) (swapped_apart m f apart)
