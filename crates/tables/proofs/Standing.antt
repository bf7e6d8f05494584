-- Links that stand, in plain words: the ends of each are two machines; and a tree alone by its two checks.
use mathlib.Core.Path.{◌≡◌, refl, ap, subst}
use mathlib.Core.Bool.{◌||◌}
use mathlib.Core.List.{List, [], ◌∷◌}
use mathlib.Core.Logic.{inl, inr, ⊎_elim}
use Prim.Native.Nat.{ℕ, suc, ◌+◌, ◌≤◌}
use native.Mathlib.Omega.{arith}
use lib.ListN.{length}
use lib.Dec.{eqb, leb}
use borrow.Author.Tests.{eqb-true, eqb-false, ne_eqb, lt-leb}
use Rattle.plain.proofs.Says.{by_cases, says_le, says_or, refuted}
use Rattle.graph.specs.Cable.{Cables}
use Rattle.graph.proofs.Members.{here, there, cases, empty}
use Rattle.tables.specs.Verdict.{Fault, Sound, Refused}
use Rattle.tables.specs.Tree.{size_verdict, tree_verdict, alone_verdict}
use Rattle.tables.specs.Batch.{ends_verdict}
use Rattle.tables.specs.Links.{Good, AllGood, Stands}
use Rattle.tables.specs.Demand1.{Bad, FirstBad}
use Rattle.tables.proofs.Verdicts.{not_both, all_sound, sound_all, cond_refused}

pub alone_passed : (up : List ℕ) → alone_verdict up ≡ Sound → (size_verdict (length up) ≡ Sound) × (tree_verdict up ≡ Sound)
unfolding alone_verdict
alone_passed up e = let (n, (t, _)) = all_sound _ e in (n, t)

pub alone_sound : (up : List ℕ) → size_verdict (length up) ≡ Sound → tree_verdict up ≡ Sound → alone_verdict up ≡ Sound
unfolding alone_verdict
alone_sound up n t = sound_all _ (n, (t, tt))

pub good_ends : (n i : ℕ) (l : Cables) → AllGood n l → ends_verdict n i l ≡ Sound
unfolding ends_verdict
good_ends n i [] g = refl
good_ends n i (p ∷ l) g =
    let k = g p (here refl) in
    rw (lt-leb n p.0 k.one, lt-leb n p.1 k.two, ne_eqb p.0 p.1 k.apart) (good_ends n (suc i) l (λ q m. g q (there m)))

pub ends_good : (n i : ℕ) (l : Cables) → ends_verdict n i l ≡ Sound → AllGood n l
unfolding ends_verdict
ends_good n i [] e p m = absurd (empty m)
ends_good n i (q ∷ l) e p m =
    let (a, f) = cond_refused (leb n q.0 || leb n q.1) _ _ _ e in
    let (b, g) = cond_refused (eqb q.0 q.1) _ _ _ f in
    let o = refuted (says_or (says_le n q.0) (says_le n q.1)) a in
    let o₁ : ¬ (n ≤ q.0) = λ z. o (inl z) in
    let o₂ : ¬ (n ≤ q.1) = λ z. o (inr z) in
    let k : Good n q = record { one = omega arith; two = omega arith; apart = eqb-false q.0 q.1 b } in
    ⊎_elim (λ z. rw z k) (ends_good n (suc i) l g p) (cases m)

module _ {n : ℕ} {q : ℕ × ℕ} {l : Cables} {why : Fault} where
  bad_here : Bad n q why → FirstBad n (q ∷ l) why 0
  bad_here b = record { before = []; link = q; behind = l; whole = refl; index = refl; good = λ p m. absurd (empty m); bad = b }

  bad_later : {j : ℕ} → Good n q → FirstBad n l why j → FirstBad n (q ∷ l) why (suc j)
  bad_later g r = record {
    before = q ∷ r.before;
    link = r.link;
    behind = r.behind;
    whole = ap (λ m. q ∷ m) r.whole;
    index = ap suc r.index;
    good = λ p m. ⊎_elim (λ (y : p ≡ q). rw y g) (r.good p) (cases m);
    bad = r.bad;
  }

-- a refusal from index i on is of the first link that is not good
pub first_bad : (n i : ℕ) (l : Cables) (why : Fault) (k : ℕ) → ends_verdict n i l ≡ Refused why k → (j : ℕ) × (i + j ≡ k) × FirstBad n l why j
unfolding ends_verdict
first_bad n i [] why k e = not_both e refl
first_bad n i (q ∷ l) why k e = by_cases (leb n q.0 || leb n q.1)
    (λ a.
    let f : Refused Fault.End i ≡ Refused why k = rw a at e in
    let w : Fault.End ≡ why = cc in
    let z : i ≡ k = cc in
    (0, omega (arith, z), bad_here (subst (Bad n q) w (Bad.end ((says_or (says_le n q.0) (says_le n q.1)).gives a)))))
    λ a.
    let o = refuted (says_or (says_le n q.0) (says_le n q.1)) a in
    let o₁ : ¬ (n ≤ q.0) = λ z. o (inl z) in
    let o₂ : ¬ (n ≤ q.1) = λ z. o (inr z) in
    by_cases (eqb q.0 q.1)
    (λ b.
    let f : Refused Fault.Loop i ≡ Refused why k = rw (a, b) at e in
    let w : Fault.Loop ≡ why = cc in
    let z : i ≡ k = cc in
    (0, omega (arith, z), bad_here (subst (Bad n q) w (Bad.loop (omega arith) (omega arith) (eqb-true q.0 q.1 b)))))
    (λ b.
    let (j, z, r) = first_bad n (suc i) l why k (rw (a, b) at e) in
    (suc j, omega (arith, z), bad_later (record { one = omega arith; two = omega arith; apart = eqb-false q.0 q.1 b }) r))

pub record Standing (up : List ℕ) (links : Cables) : Type 0 where
  pub size : size_verdict (length up) ≡ Sound
  pub tree : tree_verdict up ≡ Sound
  pub good : AllGood (length up) links

pub standing : {up : List ℕ} {l : Cables} → Stands up l → Standing up l
standing {up} {l} s = let (n, t) = alone_passed up s.tree in record { size = n; tree = t; good = ends_good (length up) 0 l s.ends }

pub stands : {up : List ℕ} {l : Cables} → Standing up l → Stands up l
stands {up} {l} s = record { tree = alone_sound up s.size s.tree; ends = good_ends (length up) 0 l s.good }
