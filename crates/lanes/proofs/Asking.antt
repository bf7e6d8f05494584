-- What a ring that reaches depth l asks of a machine at depth d, by cases; and an entry lowered, or a mark lifted, by one store.
use mathlib.Core.Path.{◌≡◌, sym}
use mathlib.Core.Logic.{◌≢◌, dite}
use Prim.Native.Nat.{ℕ, suc, ◌-◌, ◌<◌, ◌≤◌, min}
use native.Mathlib.Decide.{ℕ_discrete, dec_le}
use native.Mathlib.Omega.{arith}
use borrow.Author.Tests.{eq-eqb, ne_eqb, le-leb, lt-leb}
use Rattle.lanes.specs.Low.{asked}

module _ {l d : ℕ} where
  pub ask_none : d ≤ l → 0 ≡ asked l d
  unfolding asked
  ask_none h = rw (le-leb d l h)

  pub ask_one : l < d → d - l ≡ 1 → 1 ≡ asked l d
  unfolding asked
  ask_one h e = rw (lt-leb d l h, eq-eqb (d - l) 1 e)

  pub ask_two : l < d → d - l ≢ 1 → 2 ≡ asked l d
  unfolding asked
  ask_two h o = rw (lt-leb d l h, ne_eqb (d - l) 1 o)

-- nothing, ringed or carried
pub data Asked (l d r : ℕ) : Type 0 where
  nothing : d ≤ l → r ≡ 0 → Asked l d r
  ringed : d ≡ suc l → r ≡ 1 → Asked l d r
  carried : suc l < d → r ≡ 2 → Asked l d r

pub asked_is : (l d : ℕ) → Asked l d (asked l d)
asked_is l d = dite (dec_le d l) (λ h. nothing h (sym (ask_none h))) λ o. dite (ℕ_discrete (d - l) 1)
    (λ e. ringed (omega arith) (sym (ask_one (omega arith) e)))
    (λ p. carried (omega arith) (sym (ask_two (omega arith) p)))

-- by one difference, at most 2
pub ask_by : (l d : ℕ) {a b : ℕ} → a ≡ d - l → b ≡ min a 2 → b ≡ asked l d
ask_by l d {a} {b} p q = go (asked_is l d)
  where
    go : {r : ℕ} → Asked l d r → b ≡ r
    go (nothing h e) = omega (arith, p, q)
    go (ringed h e) = omega (arith, p, q)
    go (carried h e) = omega (arith, p, q)

-- a ring that reaches higher asks no less
pub asked_more : {l m d r s : ℕ} → l ≤ m → Asked l d r → Asked m d s → s ≤ r
asked_more b (nothing h e) (nothing i f) = omega arith
asked_more b (nothing h e) (ringed i f) = omega arith
asked_more b (nothing h e) (carried i f) = omega arith
asked_more b (ringed h e) (nothing i f) = omega arith
asked_more b (ringed h e) (ringed i f) = omega arith
asked_more b (ringed h e) (carried i f) = omega arith
asked_more b (carried h e) (nothing i f) = omega arith
asked_more b (carried h e) (ringed i f) = omega arith
asked_more b (carried h e) (carried i f) = omega arith

-- at most carried is asked
pub asked_two : (l d : ℕ) → asked l d ≤ 2
asked_two l d = go (asked_is l d)
  where
    go : {r : ℕ} → Asked l d r → r ≤ 2
    go (nothing h e) = omega arith
    go (ringed h e) = omega arith
    go (carried h e) = omega arith
