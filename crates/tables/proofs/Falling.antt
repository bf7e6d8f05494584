-- Labels only go out, since more links make no choke: so the labels that move are those that one report names and a later one does not. For an
-- uplink's label its machine has a mark; for a machine's, other than the hub's, a child of it has mark 2. So marks pay for both.
use mathlib.Core.Path.{◌≡◌, refl, sym, ◌∙◌}
use mathlib.Core.Bool.{Bool, true, cond, ◌&&◌, ◌||◌, not}
use mathlib.Core.List.{List, [], ◌∷◌}
use mathlib.Core.Logic.{◌≢◌, ◌⊎◌, inl, inr, ⊎_elim, ⊎_map, dite}
use Prim.Native.Nat.{ℕ, suc, ◌+◌, ◌<◌, ◌≤◌}
use native.Mathlib.Decide.{ℕ_discrete, dec_lt}
use native.Mathlib.Omega.{arith}
use lib.ListN.{length, get_or-eq_default}
use lib.Dec.{eqb, leb}
use borrow.Author.Tests.{eqb-true, eq-eqb, ne_eqb, leb-true, leb-false}
use Rattle.plain.specs.Search.{some, count}
use Rattle.plain.specs.Table.{at, tabulate, total}
use Rattle.plain.proofs.Count.{self_most, count_cover, count-or, count-sum, count_image}
use Rattle.plain.proofs.Says.{by_cases, Says, says_eq, says_le, says_not, says_and, says_or, says_some}
use Rattle.plain.proofs.Tabulate.{length-tabulate, at-tabulate}
use Rattle.graph.specs.Walk.{Relation}
use Rattle.rings.specs.Network.{Network}
use Rattle.rings.specs.Statements.{Decided}
use Rattle.rings.proofs.More.{escape_map, further_links}
use Rattle.tables.specs.Tree.{hub}
use Rattle.tables.specs.AsTree.{tree_of}
use Rattle.tables.specs.Tables.{Tables}
use Rattle.tables.specs.Report.{machine_byte, link_byte, named, machine_bytes, link_bytes}
use Rattle.tables.specs.Labels.{differing, Falls}
use Rattle.tables.proofs.Told.{Told}
use Rattle.tables.proofs.Reports.{Byte, one, two, nought, byte_is, machine_bytes_lem, choke_child, carried_child}

-- labels that only go out: those that are named are those that moved, and those that are named still
pub differ : {n : ℕ} (was now : List ℕ) → length was ≡ n → length now ≡ n → Falls was now → differing was now + named now ≡ named was
unfolding differing named
differ was now d e f =
    let split = count-sum (length was) (λ v. not (eqb (at was v) 0)) (λ v. not (eqb (at now v) (at was v))) (λ v. not (eqb (at now v) 0)) (λ v _. fell (f v)) in
    rw (e ∙ sym d) (sym split)
  where
    fell : {m k : ℕ} → (k ≡ m) ⊎ (k ≡ 0) → cond (not (eqb m 0)) 1 0 ≡ cond (not (eqb k m)) 1 0 + cond (not (eqb k 0)) 1 0
    fell {m} {k} d = dite (ℕ_discrete k m)
        (λ e. rw (eq-eqb k m e, e) (omega arith))
        (λ o. ⊎_elim (λ e. absurd (o e)) (λ (e : k ≡ 0). rw (ne_eqb k m o, eq-eqb k 0 e, ne_eqb m 0 (λ z. o (e ∙ sym z))) refl) d)

-- a mark counts for what is ringed, and once more for what is carried
mark_counts : (m : ℕ) → cond (leb 1 m) 1 0 + cond (eqb m 2) 1 0 ≤ m
mark_counts m = by_cases (leb 1 m)
    (λ e. by_cases (eqb m 2) (λ f. rw (e, f) (omega (arith, eqb-true m 2 f))) (λ f. rw (e, f) (omega (arith, leb-true 1 m e))))
    (λ e. by_cases (eqb m 2) (λ f. omega (arith, eqb-true m 2 f, leb-false 1 m e)) (λ f. rw (e, f) (omega arith)))

marks_count : (l : List ℕ) → count (length l) (λ v. leb 1 (at l v)) + count (length l) (λ v. eqb (at l v) 2) ≤ total l
unfolding count total
marks_count [] = omega arith
marks_count (m ∷ l) = omega (arith, mark_counts m, marks_count l)

-- entry by entry
falls : (n : ℕ) (f g : ℕ → ℕ) → ((v : ℕ) → v < n → (g v ≡ f v) ⊎ (g v ≡ 0)) → Falls (tabulate n f) (tabulate n g)
falls n f g e v = dite (dec_lt v n)
    (λ h. rw (at-tabulate n f v h, at-tabulate n g v h) (e v h))
    (λ h. inr (get_or-eq_default (tabulate n g) 0 (omega (arith, length-tabulate n g))))

-- what is named is named still, or passes the test
named_cover : (n : ℕ) (f g : ℕ → ℕ) (r : ℕ → Bool) → ((v : ℕ) → v < n → f v ≢ 0 → (g v ≢ 0) ⊎ (r v ≡ true)) → named (tabulate n f) ≤ named (tabulate n g) + count n r
unfolding named
named_cover n f g r e = rw (length-tabulate n f, length-tabulate n g) (count_cover n (λ v. not (eqb (at (tabulate n f) v) 0)) (λ v. not (eqb (at (tabulate n g) v) 0)) r
    (λ v h o. ⊎_map (λ i. (says_not (says_eq (at (tabulate n g) v) 0)).takes (rw (at-tabulate n g v h) i)) (λ i. i)
    (e v h (rw (at-tabulate n f v h) at ((says_not (says_eq (at (tabulate n f) v) 0)).gives o)))))

module _ {up : List ℕ} {L M : Relation} {t u : Tables} (N : Network (tree_of up) L) (l? : Decided L) (k : Told up L t)
    (O : Network (tree_of up) M) (m? : Decided M) (j : Told up M u) (f : (a b : ℕ) → L a b → M a b) where
  -- the machine byte of w by the first tables, and by those with more links
  abbrev was : ℕ → ℕ
  was w = machine_byte (hub up) up t.group t.mark w

  abbrev now : ℕ → ℕ
  now w = machine_byte (hub up) up u.group u.mark w

  machine_falls : (w : ℕ) → w < length up → (now w ≡ was w) ⊎ (now w ≡ 0)
  machine_falls w h = go (byte_is N l? k w h) (byte_is O m? j w h)
    where
      go : {x y : ℕ} → Byte N l? k w x → Byte O m? j w y → (y ≡ x) ⊎ (y ≡ 0)
      go b (nought q) = inr refl
      go (one o c) (one _ _) = inl refl
      go (two e c) (two _ _) = inl refl
      go (one o c) (two e _) = absurd (o e)
      go (two e c) (one o _) = absurd (o e)
      go (nought q) (one _ c) = absurd (q ((further_links (tree_of up) L M f).machine w c))
      go (nought q) (two _ c) = absurd (q ((further_links (tree_of up) L M f).machine w c))

  link_falls : (v : ℕ) → v < length up → (link_byte (hub up) u.mark v ≡ link_byte (hub up) t.mark v) ⊎ (link_byte (hub up) u.mark v ≡ 0)
  link_falls v h = by_cases (not (eqb v (hub up)) && eqb (at u.mark v) 0)
      (λ e.
      let (o, z) = (says_and (says_not (says_eq v (hub up))) (says_eq (at u.mark v) 0)).gives e in
      let rose : 1 ≤ at t.mark v → 1 ≤ at u.mark v = λ r. (j.marked.ringed v h).1 (escape_map f ((k.marked.ringed v h).0 r)) in
      let z' : at t.mark v ≡ 0 = dite (ℕ_discrete (at t.mark v) 0) (λ i. i) (λ i. absurd (omega (arith, rose (omega arith)))) in
      inl (rw (e, (says_and (says_not (says_eq v (hub up))) (says_eq (at t.mark v) 0)).takes (o, z')) refl))
      (λ e. inr (rw e refl))

  pub machines_fall : Falls (machine_bytes up t) (machine_bytes up u)
  unfolding machine_bytes
  machines_fall = falls (length up) was now machine_falls

  pub links_fall : Falls (link_bytes up t) (link_bytes up u)
  unfolding link_bytes
  links_fall = falls (length up) (link_byte (hub up) t.mark) (link_byte (hub up) u.mark) link_falls

  -- w is the hub, or has a carried child
  abbrev pays : ℕ → Bool
  pays w = eqb w (hub up) || some (length up) (λ m. eqb (at u.mark m) 2 && eqb (at up m) w)

  says_pays : (w : ℕ) → Says (pays w) ((w ≡ hub up) ⊎ ((m : ℕ) × (m < length up) × ((at u.mark m ≡ 2) × (at up m ≡ w))))
  says_pays w = says_or (says_eq w (hub up)) (says_some (length up) (λ m _. says_and (says_eq (at u.mark m) 2) (says_eq (at up m) w)))

  -- a machine whose label went out pays
  machine_paid : (w : ℕ) → w < length up → was w ≢ 0 → (now w ≢ 0) ⊎ (pays w ≡ true)
  machine_paid w h o = dite (ℕ_discrete w (hub up)) (λ e. inr ((says_pays w).takes (inl e))) λ other. dite (ℕ_discrete (now w) 0)
      (λ z.
      let (c, r) = choke_child N l? k w h other ((machine_bytes_lem N l? k w h).0 o) in
      let (m, q, e) = carried_child O m? j h other (λ c. (machine_bytes_lem O m? j w h).1 c z) r in
      inr ((says_pays w).takes (inr (m, q.low, (e, q.to)))))
      inl

  machines_paid : named (machine_bytes up t) ≤ named (machine_bytes up u) + suc (count (length up) (λ m. eqb (at u.mark m) 2))
  unfolding machine_bytes
  machines_paid =
      let n = length up in
      let each = count-or n (λ w. eqb w (hub up)) (λ w. some n (λ m. eqb (at u.mark m) 2 && eqb (at up m) w)) in
      omega (arith, named_cover n was now pays machine_paid, each, self_most n (hub up), count_image n n (at up) (λ m. eqb (at u.mark m) 2))

  -- an uplink whose label went out has a mark
  links_paid : named (link_bytes up t) ≤ named (link_bytes up u) + count (length up) (λ v. leb 1 (at u.mark v))
  unfolding link_bytes
  links_paid = named_cover (length up) (link_byte (hub up) t.mark) (link_byte (hub up) u.mark) (λ v. leb 1 (at u.mark v)) (λ v h o.
      dite (ℕ_discrete (at u.mark v) 0)
      (λ z. dite (ℕ_discrete v (hub up))
      (λ e. absurd (o (rw (eq-eqb v (hub up) e) refl)))
      (λ e. inl (rw (ne_eqb v (hub up) e, eq-eqb (at u.mark v) 0 z) (omega arith))))
      (λ z. inr ((says_le 1 (at u.mark v)).takes (omega arith))))

  pub labels_paid : named (machine_bytes up t) + named (link_bytes up t) ≤ named (machine_bytes up u) + named (link_bytes up u) + suc (total u.mark)
  labels_paid =
      let marks = marks_count u.mark in
      omega (arith, machines_paid, links_paid, rw j.marked.size at marks)
