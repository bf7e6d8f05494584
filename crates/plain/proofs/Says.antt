-- What a test says: it is true just where the statement holds.
use mathlib.Core.Path.{◌≡◌, refl, sym, ◌∙◌}
use mathlib.Core.Bool.{Bool, true, false, ◌&&◌, ◌||◌, not, true≢false, false≢true}
use mathlib.Core.Logic.{◌⊎◌, inl, inr, ⊎_elim}
use Prim.Native.Nat.{ℕ, zero, suc, ◌≤◌, ◌<◌}
use native.Mathlib.Omega.{arith}
use lib.Dec.{leb, ltb, eqb}
use borrow.Author.Tests.{eqb-true, eq-eqb, leb-true, le-leb, ltb-true, lt-ltb}
use Rattle.plain.specs.Search.{some}

pub record Says (b : Bool) (P : Type 0) : Type 0 where
  pub gives : b ≡ true → P
  pub takes : P → b ≡ true

pub by_cases : {C : Type 0} (b : Bool) → (b ≡ true → C) → (b ≡ false → C) → C
by_cases true f g = f refl
by_cases false f g = g refl

pub clash : {A : Type 0} {b : Bool} → b ≡ true → b ≡ false → A
clash e f = absurd (true≢false (sym e ∙ f))

decided : {b : Bool} {P : Type 0} → Says b P → Dec P
decided {b} s = by_cases b (λ e. yes (s.gives e)) (λ e. no (λ p. clash (s.takes p) e))

pub refuted : {b : Bool} {P : Type 0} → Says b P → b ≡ false → ¬ P
refuted s e p = clash (s.takes p) e

pub refutes : {b : Bool} {P : Type 0} → Says b P → ¬ P → b ≡ false
refutes {b} s q = by_cases b (λ e. absurd (q (s.gives e))) (λ e. e)

pub says_map : {b : Bool} {P Q : Type 0} → (P → Q) → (Q → P) → Says b P → Says b Q
says_map f g s = record { gives = λ e. f (s.gives e); takes = λ q. s.takes (g q) }

-- a test says of itself that it is true
pub says_true : (b : Bool) → Says b (b ≡ true)
says_true b = record { gives = λ e. e; takes = λ e. e }

pub says_eq : (a b : ℕ) → Says (eqb a b) (a ≡ b)
says_eq a b = record { gives = eqb-true a b; takes = eq-eqb a b }

pub says_le : (a b : ℕ) → Says (leb a b) (a ≤ b)
says_le a b = record { gives = leb-true a b; takes = le-leb a b }

pub says_lt : (a b : ℕ) → Says (ltb a b) (a < b)
says_lt a b = record { gives = ltb-true a b; takes = lt-ltb a b }

pub says_not : {b : Bool} {P : Type 0} → Says b P → Says (not b) (¬ P)
says_not {b = true} s = record { gives = λ f. absurd (false≢true f); takes = λ q. absurd (q (s.gives refl)) }
says_not {b = false} s = record { gives = λ _. refuted s refl; takes = λ _. refl }

pub says_and : {a b : Bool} {P Q : Type 0} → Says a P → Says b Q → Says (a && b) (P × Q)
says_and {a = true} s t = record { gives = λ f. (s.gives refl, t.gives f); takes = λ k. t.takes k.1 }
says_and {a = false} s t = record { gives = λ f. absurd (false≢true f); takes = λ k. s.takes k.0 }

pub says_or : {a b : Bool} {P Q : Type 0} → Says a P → Says b Q → Says (a || b) (P ⊎ Q)
says_or {a = true} s t = record { gives = λ _. inl (s.gives refl); takes = λ _. refl }
says_or {a = false} s t = record { gives = λ f. inr (t.gives f); takes = ⊎_elim (λ p. clash (s.takes p) refl) t.takes }

-- a test that stands before another: the other matters only where the first fails
pub says_unless : {a b : Bool} {P Q : Type 0} → Says a P → Says b Q → Says (a || b) (¬ P → Q)
says_unless s t = says_map (λ d q. ⊎_elim (λ p. absurd (q p)) (λ x. x) d) (λ f. elim (decided s) [ yes p ↦ inl p | no q ↦ inr (f q) ]) (says_or s t)

pub says_some : (n : ℕ) {p : ℕ → Bool} {P : ℕ → Type 0} → ((k : ℕ) → k < n → Says (p k) (P k)) → Says (some n p) ((k : ℕ) × (k < n) × P k)
unfolding some
says_some zero s = record { gives = λ e. absurd (false≢true e); takes = λ k. absurd (omega (arith, k.1)) }
says_some (suc n) {p} {P} s =
    says_map (⊎_elim (λ q. (zero, omega arith, q)) (λ k. (suc k.0, omega (arith, k.1), k.2)))
    (λ k. from k.0 k.1 k.2)
    (says_or (s zero (omega arith)) (says_some n (λ k h. s (suc k) (omega arith))))
  where
    from : (k : ℕ) → k < suc n → P k → P zero ⊎ ((j : ℕ) × (j < n) × P (suc j))
    from zero h q = inl q
    from (suc k) h q = inr (k, omega arith, q)

pub says_if : {a b : Bool} {P Q : Type 0} → Says a P → Says b Q → Says (not a || b) (P → Q)
says_if s t = says_map (λ f p. f (λ q. q p)) (λ f q. elim (decided s) [ yes p ↦ f p | no o ↦ absurd (q o) ]) (says_unless (says_not s) t)
