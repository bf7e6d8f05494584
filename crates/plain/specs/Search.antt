-- Looking through the numbers below n: the least that passes a test, whether one does, how many do.
use Rattle.std.specs.Prelude.{Bool, false, cond, ◌||◌, ℕ, zero, suc, ◌+◌}

-- the least k below n that p holds of, else n
unfoldable pub least : ℕ → (ℕ → Bool) → ℕ
least zero p = zero
least (suc n) p = cond (p zero) zero (suc (least n (λ k. p (suc k))))

-- p holds of some number below n
unfoldable pub some : ℕ → (ℕ → Bool) → Bool
some zero p = false
some (suc n) p = p zero || some n (λ k. p (suc k))

-- how many numbers below n p holds of
unfoldable pub count : ℕ → (ℕ → Bool) → ℕ
count zero p = zero
count (suc n) p = cond (p zero) 1 0 + count n (λ k. p (suc k))
