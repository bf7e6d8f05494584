-- A renumbering undone by search: y came from the least x with f x ≡ y. There is one by the pigeonhole: else y would be an image more than there are numbers.
use mathlib.Core.Path.{◌≡◌, sym, ap, ◌∙◌}
use mathlib.Core.Bool.{cond}
use mathlib.Core.Logic.{◌≢◌, dite}
use Prim.Native.Nat.{ℕ, ◌<◌}
use native.Mathlib.Decide.{dec_lt}
use native.Mathlib.Omega.{arith}
use lib.Dec.{eqb, ltb}
use borrow.Author.Tests.{eqb-true, eqb-false, ltb-true, lt-ltb}
use Rattle.plain.specs.Search.{least}
use Rattle.plain.proofs.Says.{by_cases}
use Rattle.plain.proofs.Least.{least_has}
use Rattle.plain.proofs.Pigeon.{pigeon}
use Rattle.graph.specs.Renumbering.{OneToOne}
use Rattle.graph.specs.Statements.{Undone}

-- f below n, and from n on y
extended : ℕ → (ℕ → ℕ) → ℕ → ℕ → ℕ
extended n f y k = cond (ltb k n) (f k) y

module _ (n : ℕ) (f : ℕ → ℕ) (one : OneToOne n f) where
  inverse : ℕ → ℕ
  inverse y = least n (λ x. eqb (f x) y)

  hit : (y : ℕ) → y < n → ¬ ((x : ℕ) → x < n → f x ≢ y)
  unfolding extended
  hit y h none = pigeon n (extended n f y)
      (λ k _. by_cases (ltb k n) (λ e. rw e (one.into k (ltb-true k n e))) (λ e. rw e h))
      (λ i j l m. rw (lt-ltb i n (omega arith)) (by_cases (ltb j n)
      (λ e. rw e (λ q. omega (arith, one.apart i j (omega arith) (ltb-true j n e) q)))
      (λ e. rw e (none i (omega arith)))))

  found : (y : ℕ) → y < n → inverse y < n
  unfolding inverse
  found y h = dite (dec_lt (inverse y) n) (λ l. l)
      (λ o. absurd (hit y h (λ x l. eqb-false (f x) y ((least_has n (λ x. eqb (f x) y)).before x (omega arith)))))

  redo : (y : ℕ) → y < n → f (inverse y) ≡ y
  unfolding inverse
  redo y h = eqb-true _ _ ((least_has n (λ x. eqb (f x) y)).here (found y h))

pub undone : Undone
undone n f one = (
  inverse n f one,
  record { into = found n f one; apart = λ u v u< v< e. sym (redo n f one u u<) ∙ ap f e ∙ redo n f one v v< },
  (λ v v<. one.apart _ v (found n f one _ (one.into v v<)) v< (redo n f one (f v) (one.into v v<))),
  redo n f one,
)
