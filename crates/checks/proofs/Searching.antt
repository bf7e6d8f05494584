-- A search from the front for the least number that passes a test: what it keeps, and how it ends, found or not.
use mathlib.Core.Path.{◌≡◌, sym}
use mathlib.Core.Bool.{Bool, true, false}
use Prim.Native.Nat.{ℕ, ◌+◌, ◌<◌, ◌≤◌}
use native.Mathlib.Omega.{arith}
use Rattle.std.specs.Prelude.{Option, Some, None}
use Rattle.std.proofs.lemmas.Bool.Decides.{nat_tests}
use Rattle.plain.proofs.Loops.{NoneBelow, none_more}
use Rattle.tables.specs.Verdict.{refuse_least}
use Rattle.tables.specs.declared.Fault.{Fault}
use Rattle.tables.specs.declared.Verdict.TheVariants.{Sound, Refused}
use Rattle.tables.proofs.Verdicts.{refuse_at, refuse_none}
use Rattle.checks.specs.TreeCheck.{below}

-- no number below v passes
pub record Searched (n : ℕ) (p : ℕ → Bool) (v : ℕ) : Type 0 where
  pub le : v ≤ n
  pub none : NoneBelow p v

module _ {n : ℕ} {p : ℕ → Bool} {v : ℕ} (s : Searched n p v) where
  pub next : v < n → p v ≡ false → Searched n p (v + 1)
  next h e = record { le = omega arith; none = none_more p v s.none e }

  module _ (h : v < n) (e : p v ≡ true) where
    pub refused_here : (why : Fault) → Refused why v ≡ refuse_least why n p
    refused_here why = sym (refuse_at why n p v h s.none e)

  module _ (h : n ≤ v) where
    pub refused_none : (why : Fault) → Sound ≡ refuse_least why n p
    refused_none why = sym (refuse_none why n p (λ k b. s.none k (omega arith)))

-- what an answer by `below` tells
pub below_some : {n k d : ℕ} {a : Option ℕ} → a ≡ below n k → a ≡ Some d → (d ≡ k) × (d < n)
below_some {n} {k} q e = grind (arith, nat_tests)

pub below_none : {n k : ℕ} {a : Option ℕ} → a ≡ below n k → a ≡ None → n ≤ k
below_none {n} {k} q e = grind (arith, nat_tests)
