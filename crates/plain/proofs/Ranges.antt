-- A search and a count of the numbers below n, as std's `any` and `filter` make them over the range 0..n.
use mathlib.Core.Path.{◌≡◌, refl, sym, ap, ◌∙◌}
use mathlib.Core.Bool.{Bool, cond}
use mathlib.Core.List.{List}
use Prim.Native.Nat.{ℕ, zero, suc, ◌+◌}
use native.Mathlib.Nat.{add-zero, zero-add}
use native.Mathlib.Omega.{arith}
use lib.ListN.{length}
use denote.Param.Members.{Mut}
use denote.Ref.{Bor}
use Rattle.std.specs.declared.ops.Range.{Range}
use Rattle.std.specs.declared.iter.Filter.{Filter}
use Rattle.std.specs.Fn.{Called, CalledAt}
use Rattle.std.specs.Iterator.{ChecksAny, Drains}
use Rattle.std.specs.Iterator.Adapters.{filter_source, filter_callee, filter_steps}
use Rattle.std.specs.List.{list_any, count_by, range_with_len}
use Rattle.std.proofs.iter.Yields.{nat_range_steps}
use Rattle.std.proofs.lemmas.Iterator.{YieldsList-from_range}
use Rattle.std.proofs.lemmas.Iterator.Consumers.{YieldsList-from_filter, count_from_yields_List}
use Rattle.std.proofs.lemmas.Iterator.Search.{any_from_yields_List}
use Rattle.std.proofs.lemmas.List.Sums.{length-filter, sum_by-cons}
use Rattle.plain.specs.Search.{some, count}

-- p, asked from a on, is q
abbrev From : ℕ → (ℕ → Bool) → (ℕ → Bool) → Type 0
From a p q = (k : ℕ) → p (a + k) ≡ q k

first : (a : ℕ) (p q : ℕ → Bool) → From a p q → p a ≡ q zero
first a p q e = ap p (sym (add-zero a)) ∙ e zero

rest : (a : ℕ) (p q : ℕ → Bool) → From a p q → From (a + 1) p (λ k. q (suc k))
rest a p q e k = let s : a + 1 + k ≡ a + suc k = omega arith in ap p s ∙ e (suc k)

some_from : (a n : ℕ) (p q : ℕ → Bool) → From a p q → list_any p (range_with_len a n) ≡ some n q
unfolding some
some_from a zero p q e = refl
some_from a (suc n) p q e = rw (first a p q e, some_from (a + 1) n p (λ k. q (suc k)) (rest a p q e)) refl

count_from : (a n : ℕ) (p q : ℕ → Bool) → From a p q → count_by p (range_with_len a n) ≡ count n q
unfolding count
count_from a zero p q e = refl
count_from a (suc n) p q e =
    sum_by-cons (λ x. cond (p x) 1 0) a (range_with_len (a + 1) n) ∙ rw (first a p q e, count_from (a + 1) n p (λ k. q (suc k)) (rest a p q e)) refl

-- where each call of the closure answers p and leaves it as it was
module _ {F : Type 0} {f : F} {n : ℕ} {p : ℕ → Bool} where
  pub any_some : {g : Mut F (ℕ × Unit {0}) Bool} {u : Range ℕ} {r : Bool} → ChecksAny nat_range_steps g (record { start = 0; end = n }) f r u
      → ((x : ℕ) (b : Bool) (q : F) → Called g f (x, tt) b q → (q ≡ f) × (b ≡ p x)) → r ≡ some n p
  any_some ran e = any_from_yields_List p _ _ _ ran (YieldsList-from_range 0 n n refl (omega arith)) e ∙ some_from 0 n p p (λ k. ap p (zero-add k))

  pub filter_count : {g : Mut F (Bor ℕ × Unit {0}) Bool} {s : Filter (Range ℕ) F} {r : ℕ} → filter_source s ≡ record { start = 0; end = n } → filter_callee s ≡ f
      → ((x : ℕ) (b : Bool) (q : F) → CalledAt g f x b q → (q ≡ f) × (b ≡ p x))
      → (xs : List ℕ) × Drains (filter_steps nat_range_steps g) s xs × (r ≡ length xs) → r ≡ count n p
  filter_count source closure e ran =
      count_from_yields_List _ _ ran (YieldsList-from_filter _ p (YieldsList-from_range 0 n n source (omega arith)) closure e) ∙ length-filter p (range_with_len 0 n)
      ∙ count_from 0 n p p (λ k. ap p (zero-add k))
