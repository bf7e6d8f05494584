-- Decisions: one of two, some number below n, whether something stands on a list.
use mathlib.Core.Path.{◌≡◌}
use mathlib.Core.List.Memᴰ
use mathlib.Core.List.{List, [], ◌∷◌}
use mathlib.Core.Logic.{◌≢◌, ◌⊎◌, inl, inr, ⊎_elim, dite}
use Prim.Native.Nat.{ℕ, zero, suc, ◌<◌}
use native.Mathlib.Decide.{map_dec}
use native.Mathlib.Omega.{arith}
use Rattle.plain.specs.Member.{◌∈◌}

pub or? : {A B : Type 0} → Dec A → Dec B → Dec (A ⊎ B)
or? (yes a) e = yes (inl a)
or? (no p) (yes b) = yes (inr b)
or? (no p) (no q) = no (⊎_elim p q)

pub any? : {P : ℕ → Type 0} (n : ℕ) → ((a : ℕ) → a < n → Dec (P a)) → Dec ((a : ℕ) × (a < n) × P a)
any? zero d = no (λ k. omega (arith, k.1))
any? {P} (suc n) d = dite (d n (omega arith)) (λ p. yes (n, omega arith, p)) λ o.
    map_dec (λ k. (k.0, omega (arith, k.1), k.2))
    (λ k. let e : k.0 ≢ n = λ e. o (rw e at k.2) in (k.0, omega (arith, k.1), k.2))
    (any? n (λ a h. d a (omega arith)))

-- where elements are told apart, membership is decided
pub member? : {A : Type 0} → ((x y : A) → Dec (x ≡ y)) → (x : A) (l : List A) → Dec (x ∈ l)
member? d x [] = no Memᴰ.not-nil
member? d x (y ∷ l) = map_dec (⊎_elim Memᴰ.head Memᴰ.tail) Memᴰ.cases_cons (or? (d x y) (member? d x l))
