-- Counts: whoever counts one or more finds one, whoever counts two or more finds another one; what others cover is no more than they are, and
-- what a map hits is no more than what it is a map of.
use mathlib.Core.Path.{◌≡◌, refl, sym, ap, ◌∙◌}
use mathlib.Core.Bool.{Bool, true, false, cond, ◌&&◌, ◌||◌}
use mathlib.Core.List.{List, [], ◌∷◌}
use mathlib.Core.Logic.{◌≢◌, ◌⊎◌, ⊎_elim}
use Prim.Native.Nat.{ℕ, zero, suc, ◌+◌, ◌<◌, ◌≤◌}
use native.Mathlib.Omega.{arith}
use lib.Dec.{eqb}
use lib.ListN.{length}
use borrow.Author.Tests.{eqb-true, eq-eqb}
use Rattle.std.specs.List.{count_by}
use Rattle.std.proofs.lemmas.List.Sums.{sum_by-cons}
use Rattle.plain.specs.Search.{some, count}
use Rattle.plain.specs.Table.{at}
use Rattle.plain.proofs.Says.{by_cases, says_true, says_or}

count_some : (n : ℕ) (p : ℕ → Bool) → 1 ≤ count n p → (d : ℕ) × (d < n) × (p d ≡ true)
unfolding count
count_some zero p h = absurd (omega arith)
count_some (suc n) p h = by_cases (p zero) (λ e. (zero, omega arith, e)) λ e.
    let (d, l, f) = count_some n (λ k. p (suc k)) (omega (arith, rw e at h)) in (suc d, omega arith, f)

-- of two or more one is not c
pub count_other : (n : ℕ) (p : ℕ → Bool) (c : ℕ) → 2 ≤ count n p → (d : ℕ) × (d < n) × (d ≢ c) × (p d ≡ true)
unfolding count
count_other zero p c h = absurd (omega arith)
count_other (suc n) p zero h =
    let h' : 1 ≤ count n (λ k. p (suc k)) = by_cases (p zero) (λ e. omega (arith, rw e at h)) (λ e. omega (arith, rw e at h)) in
    let (d, l, f) = count_some n (λ k. p (suc k)) h' in (suc d, omega arith, omega arith, f)
count_other (suc n) p (suc c) h = by_cases (p zero) (λ e. (zero, omega arith, omega arith, e)) λ e.
    let (d, l, o, f) = count_other n (λ k. p (suc k)) c (omega (arith, rw e at h)) in (suc d, omega arith, omega arith, f)

count_none : (n : ℕ) (p : ℕ → Bool) → ((k : ℕ) → k < n → p k ≡ false) → count n p ≡ 0
unfolding count
count_none zero p f = refl
count_none (suc n) p f = rw (f zero (omega arith)) (omega (arith, count_none n (λ k. p (suc k)) (λ k h. f (suc k) (omega arith))))

-- one number or none passes
most_one : (n : ℕ) (p : ℕ → Bool) → ((i j : ℕ) → p i ≡ true → p j ≡ true → i ≡ j) → count n p ≤ 1
unfolding count
most_one zero p f = omega arith
most_one (suc n) p f = by_cases (p zero)
    (λ e.
    let none = count_none n (λ k. p (suc k)) (λ k _. by_cases (p (suc k)) (λ i. absurd (omega (arith, f zero (suc k) e i))) (λ i. i)) in
    rw e (omega (arith, none)))
    (λ e. rw e (omega (arith, most_one n (λ k. p (suc k)) (λ i j a b. omega (arith, f (suc i) (suc j) a b)))))

count_has : (n : ℕ) (p : ℕ → Bool) (h : ℕ) → h < n → p h ≡ true → 1 ≤ count n p
unfolding count
count_has zero p h l e = absurd (omega arith)
count_has (suc n) p zero l e = rw e (omega arith)
count_has (suc n) p (suc h) l e = omega (arith, count_has n (λ k. p (suc k)) h (omega arith) e)

-- at most one number is h, and just one where h is below n
pub self_most : (n h : ℕ) → count n (λ k. eqb k h) ≤ 1
self_most n h = most_one n (λ k. eqb k h) (λ i j a b. eqb-true i h a ∙ sym (eqb-true j h b))

pub self_one : (n h : ℕ) → h < n → count n (λ k. eqb k h) ≡ 1
self_one n h l = omega (arith, self_most n h, count_has n (λ k. eqb k h) h l (eq-eqb h h refl))

pub count_cover : (n : ℕ) (p q r : ℕ → Bool) → ((k : ℕ) → k < n → p k ≡ true → (q k ≡ true) ⊎ (r k ≡ true)) → count n p ≤ count n q + count n r
unfolding count
count_cover zero p q r f = omega arith
count_cover (suc n) p q r f =
    let rest = count_cover n (λ k. p (suc k)) (λ k. q (suc k)) (λ k. r (suc k)) (λ k h. f (suc k) (omega arith)) in
    by_cases (p zero)
    (λ e. ⊎_elim (λ (i : q zero ≡ true). rw (e, i) (omega (arith, rest))) (λ (i : r zero ≡ true). rw (e, i) (omega (arith, rest))) (f zero (omega arith) e))
    (λ e. rw e (omega (arith, rest)))

pub count-or : (n : ℕ) (q r : ℕ → Bool) → count n (λ k. q k || r k) ≤ count n q + count n r
count-or n q r = count_cover n (λ k. q k || r k) q r (λ k _. (says_or (says_true (q k)) (says_true (r k))).gives)

-- where one test is the other two together, each time just one of them
pub count-sum : (n : ℕ) (p q r : ℕ → Bool) → ((k : ℕ) → k < n → cond (p k) 1 0 ≡ cond (q k) 1 0 + cond (r k) 1 0) → count n p ≡ count n q + count n r
unfolding count
count-sum zero p q r f = refl
count-sum (suc n) p q r f = omega (arith, f zero (omega arith), count-sum n (λ k. p (suc k)) (λ k. q (suc k)) (λ k. r (suc k)) (λ k h. f (suc k) (omega arith)))

hits_one : (k : ℕ) (b : Bool) (c : ℕ) → count k (λ w. b && eqb c w) ≤ cond b 1 0
hits_one k true c = most_one k (λ w. eqb c w) (λ i j a b. sym (eqb-true c i a) ∙ eqb-true c j b)
hits_one k false c = omega (arith, count_none k (λ w. false) (λ w _. refl))

-- out of n numbers f sends those that pass to no more numbers than they are
pub count_image : (k n : ℕ) (f : ℕ → ℕ) (q : ℕ → Bool) → count k (λ w. some n (λ m. q m && eqb (f m) w)) ≤ count n q
unfolding some count
count_image k zero f q = omega (arith, count_none k (λ w. false) (λ w _. refl))
count_image k (suc n) f q =
    let split = count-or k (λ w. q zero && eqb (f zero) w) (λ w. some n (λ m. q (suc m) && eqb (f (suc m)) w)) in
    omega (arith, split, hits_one k (q zero) (f zero), count_image k n (λ m. f (suc m)) (λ m. q (suc m)))

-- the entries of a list that pass, as a chain counts them
pub count_list : (p : ℕ → Bool) (l : List ℕ) → count_by p l ≡ count (length l) (λ i. p (at l i))
unfolding count
count_list p [] = refl
count_list p (a ∷ l) = sum_by-cons (λ x. cond (p x) 1 0) a l ∙ ap (λ n. cond (p a) 1 0 + n) (count_list p l)
