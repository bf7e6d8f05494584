-- The least number below n that passes a test: what it is, and how to show that a number is it. By induction, shifting the test.
use mathlib.Core.Path.{◌≡◌, ap}
use mathlib.Core.Bool.{Bool, true, false}
use Prim.Native.Nat.{ℕ, zero, suc, ◌<◌, ◌≤◌, zero-le}
use native.Mathlib.Omega.{arith}
use lib.Dec.{leb}
use borrow.Author.Tests.{leb-true, leb-false}
use Rattle.plain.specs.Search.{least}
use Rattle.plain.proofs.Says.{by_cases, clash}

-- r is the least number below n that p holds of, or n
pub record Least (n : ℕ) (p : ℕ → Bool) (r : ℕ) : Type 0 where
  pub le : r ≤ n
  pub before : (k : ℕ) → k < r → p k ≡ false
  pub here : r < n → p r ≡ true

pub least_is : (n : ℕ) (p : ℕ → Bool) (r : ℕ) → Least n p r → least n p ≡ r
unfolding least
least_is zero p r l = omega (arith, l.le)
least_is (suc n) p zero l = rw (l.here (omega arith))
least_is (suc n) p (suc r) l =
    rw (l.before zero (omega arith))
    (ap suc (least_is n (λ k. p (suc k)) r
    (record { le = omega (arith, l.le); before = λ k h. l.before (suc k) (omega arith); here = λ h. l.here (omega arith) })))

shifted : (p : ℕ → Bool) (i : ℕ) → p zero ≡ false → ((k : ℕ) → k < i → p (suc k) ≡ false) → (k : ℕ) → k < suc i → p k ≡ false
shifted p i e f zero h = e
shifted p i e f (suc k) h = f k (omega arith)

pub least_has : (n : ℕ) (p : ℕ → Bool) → Least n p (least n p)
unfolding least
least_has zero p = record { le = zero-le; before = λ k h. absurd (omega arith); here = λ h. absurd (omega arith) }
least_has (suc n) p = let l = least_has n (λ k. p (suc k)) in by_cases (p zero)
    (λ e. rw e (record { le = zero-le; before = λ k h. absurd (omega arith); here = λ h. e }))
    (λ e. rw e (record { le = omega (arith, l.le); before = shifted p _ e l.before; here = λ h. l.here (omega arith) }))

-- what passes is not before the least
pub least-le : (n : ℕ) (p : ℕ → Bool) (k : ℕ) → p k ≡ true → least n p ≤ k
least-le n p k e = by_cases (leb (least n p) k) (leb-true _ _) (λ f. clash e ((least_has n p).before k (leb-false _ _ f)))
