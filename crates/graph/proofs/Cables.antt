-- Cables counted and taken out. Counting and taking out both go along the list, so each law is an induction over it with a case on each cable.
use mathlib.Core.Path.{◌≡◌, refl, ap, ◌∙◌}
use mathlib.Core.Bool.{true, false, ◌&&◌, or_comm}
use mathlib.Core.List.{[], ◌∷◌, ◌++◌}
use mathlib.Core.HLevel.{×_discrete}
use mathlib.Core.Logic.{◌⊎◌, inl, inr, ⊎_elim, ⊎_map, ◌↔◌}
use Prim.Native.Nat.{ℕ, suc, ◌+◌, ◌≤◌, ◌<◌}
use native.Mathlib.Decide.{ℕ_discrete}
use native.Mathlib.Omega.{arith}
use lib.Dec.{eqb}
use Rattle.plain.specs.Member.{◌∈◌}
use Rattle.plain.proofs.Says.{Says, says_eq, says_and, says_or, by_cases, refutes}
use Rattle.plain.proofs.Decide.{or?, member?}
use Rattle.graph.specs.Cable.{Cables, Within, Linked, joins, between, less, ChokePair}
use Rattle.graph.proofs.Walks.{back}
use Rattle.graph.proofs.Members.{here, there, cases, parts, on-left, on-right}

pub flip : (E : Cables) (a b : ℕ) → Linked E a b → Linked E b a
flip E a b = ⊎_elim inr inl

pub linked? : (E : Cables) (a b : ℕ) → Dec (Linked E a b)
linked? E a b = let d = ×_discrete ℕ_discrete ℕ_discrete in or? (member? d (a, b) E) (member? d (b, a) E)

pub linked_near : {n : ℕ} (E : Cables) → Within n E → (a b : ℕ) → Linked E a b → (a < n) × (b < n)
linked_near E near a b = ⊎_elim (near a b) (λ h. ((near b a h).1, (near b a h).0))

pub linked-append : (E F : Cables) (a b : ℕ) → Linked (E ++ F) a b ↔ (Linked E a b ⊎ Linked F a b)
linked-append E F a b = (
  ⊎_elim (λ h. ⊎_map inl inl (parts E h)) (λ h. ⊎_map inr inr (parts E h)),
  ⊎_elim (⊎_map (on-left F) (on-left F)) (⊎_map (on-right E) (on-right E)),
)

-- x and y are a and b, either way round
abbrev pub Same : ℕ → ℕ → ℕ → ℕ → Type 0
Same a b x y = ((x ≡ a) × (y ≡ b)) ⊎ ((x ≡ b) × (y ≡ a))

pub same_linked : {a b x y : ℕ} (E : Cables) → Same a b x y → Linked E x y → Linked E a b
same_linked E (inl k) l = rw (k.0, k.1) at l
same_linked {a} {b} E (inr k) l = flip E b a (rw (k.0, k.1) at l)

pub linked-cons : {a b x y : ℕ} {E : Cables} → Linked ((a, b) ∷ E) x y → Same a b x y ⊎ Linked E x y
linked-cons (inl m) = ⊎_map (λ e. inl (ap (λ p. p.0) e, ap (λ p. p.1) e)) inl (cases m)
linked-cons (inr m) = ⊎_map (λ e. inr (ap (λ p. p.1) e, ap (λ p. p.0) e)) inr (cases m)

pub linked_more : {p : ℕ × ℕ} {E : Cables} (x y : ℕ) → Linked E x y → Linked (p ∷ E) x y
linked_more x y = ⊎_map there there

pub says_joins : (a b x y : ℕ) → Says (joins a b (x, y)) (Same a b x y)
unfolding joins
says_joins a b x y = says_or (says_and (says_eq x a) (says_eq y b)) (says_and (says_eq x b) (says_eq y a))

-- a cable that joins a and b is counted
counted : {p : ℕ × ℕ} (E : Cables) (a b : ℕ) → joins a b p ≡ true → p ∈ E → 1 ≤ between E a b
unfolding between
counted {p = p} [] a b e h = elim h [ ]
counted (q ∷ E) a b e (here i) = let j : joins a b q ≡ true = rw i at e in rw j (omega arith)
counted (q ∷ E) a b e (there h) = omega (arith, counted E a b e h)

-- and one that is counted is there
found : (E : Cables) (a b : ℕ) → 1 ≤ between E a b → Linked E a b
unfolding between
found [] a b h = absurd (omega arith)
found (p ∷ E) a b h = by_cases (joins a b p)
    (λ e. same_linked (p ∷ E) ((says_joins a b p.0 p.1).gives e) (inl (here refl)))
    (λ e. linked_more a b (found E a b (omega (arith, rw e at h))))

pub linked_between : (E : Cables) (a b : ℕ) → Linked E a b ↔ (1 ≤ between E a b)
linked_between E a b = (⊎_elim (counted E a b ((says_joins a b a b).takes (inl (refl, refl)))) (counted E a b ((says_joins a b b a).takes (inr (refl, refl)))), found E a b)

pub between-append : (E F : Cables) (a b : ℕ) → between (E ++ F) a b ≡ between E a b + between F a b
unfolding between
between-append [] F a b = omega arith
between-append (p ∷ E) F a b = omega (arith, between-append E F a b)

-- the ends may be named either way round
joins_turn : (a b : ℕ) (p : ℕ × ℕ) → joins a b p ≡ joins b a p
unfolding joins
joins_turn a b p = or_comm (eqb p.0 a && eqb p.1 b) (eqb p.0 b && eqb p.1 a)

between_turn : (E : Cables) (a b : ℕ) → between E a b ≡ between E b a
unfolding between
between_turn [] a b = refl
between_turn (p ∷ E) a b = rw (joins_turn a b p, between_turn E a b) refl

less_turn : (E : Cables) (a b : ℕ) → less E a b ≡ less E b a
unfolding less
less_turn [] a b = refl
less_turn (p ∷ E) a b = rw (joins_turn a b p, less_turn E a b) refl

pub pair_turn : (E : Cables) (a b : ℕ) → ChokePair E a b → ChokePair E b a
pair_turn E a b c = record {
  single = between_turn E b a ∙ c.single;
  parted = λ w. c.parted (rw (less_turn E a b) (back (flip (less E b a)) w));
}

-- of two lists the first is looked through first
pub less-append : (E F : Cables) (a b : ℕ) → 1 ≤ between E a b → less (E ++ F) a b ≡ less E a b ++ F
unfolding between less
less-append [] F a b h = absurd (omega arith)
less-append (p ∷ E) F a b h = by_cases (joins a b p) (λ e. rw e refl)
    (λ e. rw e (ap (λ l. p ∷ l) (less-append E F a b (omega (arith, rw e at h)))))

-- one is taken out, where there is one
pub less_between : (E : Cables) (a b : ℕ) → 1 ≤ between E a b → suc (between (less E a b) a b) ≡ between E a b
unfolding between less
less_between [] a b h = absurd (omega arith)
less_between (p ∷ E) a b h = by_cases (joins a b p) (λ e. rw e (omega arith))
    (λ e. rw (e, e) (omega (arith, less_between E a b (omega (arith, rw e at h)))))

-- the last one leaves none
pub less_lone : (E : Cables) (a b : ℕ) → between E a b ≡ 1 → ¬ Linked (less E a b) a b
less_lone E a b e l = omega (arith, (linked_between (less E a b) a b).0 l, less_between E a b (omega arith))

pub less_in : {p : ℕ × ℕ} (E : Cables) (a b : ℕ) → p ∈ less E a b → p ∈ E
unfolding less
less_in [] a b h = h
less_in {p} (q ∷ E) a b h = by_cases (joins a b q)
    (λ e. there (rw e at h))
    (λ e. let h' : p ∈ q ∷ less E a b = rw e at h in elim h' [ here i ↦ here i | there t ↦ there (less_in E a b t) ])

less_keeps_in : {p : ℕ × ℕ} (E : Cables) (a b : ℕ) → joins a b p ≡ false → p ∈ E → p ∈ less E a b
unfolding less
less_keeps_in {p = p} [] a b e h = elim h [ ]
less_keeps_in (q ∷ E) a b e (here i) = let j : joins a b q ≡ false = rw i at e in rw j (here i)
less_keeps_in (q ∷ E) a b e (there h) = by_cases (joins a b q) (λ j. rw j h) (λ j. rw j (there (less_keeps_in E a b e h)))

-- no link is added
pub less-sub : (E : Cables) (a b x y : ℕ) → Linked (less E a b) x y → Linked E x y
less-sub E a b x y = ⊎_map (less_in E a b) (less_in E a b)

-- and another pair stays linked
pub less_keeps : (E : Cables) (a b x y : ℕ) → ¬ Same a b x y → Linked E x y → Linked (less E a b) x y
less_keeps E a b x y o = ⊎_map
    (less_keeps_in E a b (refutes (says_joins a b x y) o))
    (less_keeps_in E a b (refutes (says_joins a b y x) (λ s. o (⊎_elim (λ k. inr (k.1, k.0)) (λ k. inl (k.1, k.0)) s))))
