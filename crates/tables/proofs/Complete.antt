-- Tables that break no rule are those of the links that they want: tables that tell of the same links are one, so nothing has to be
-- stepped through.
use mathlib.Core.Path.{◌≡◌, refl, sym, ap, subst}
use mathlib.Core.Bool.{Bool, true, false, cond, not}
use mathlib.Core.List.{List, [], ◌∷◌}
use mathlib.Core.Logic.{◌⊎◌, inl, inr, ⊎_map, dite}
use Prim.Native.Nat.{ℕ, zero, suc, ◌<◌}
use native.Mathlib.Decide.{ℕ_discrete}
use native.Mathlib.Omega.{arith}
use lib.ListN.{length}
use lib.Dec.{eqb, leb}
use Rattle.plain.proofs.Says.{Says, says_eq, says_le, says_not}
use Rattle.plain.specs.Table.{at}
use Rattle.plain.specs.Member.{◌∈◌}
use Rattle.graph.specs.Cable.{Cables, Linked}
use Rattle.graph.proofs.Members.{here, there, empty, cases}
use Rattle.tables.specs.Links.{Good, AllGood, tables_with}
use Rattle.tables.specs.Tables.{Tables}
use Rattle.tables.specs.Tree.{depth_of}
use Rattle.tables.proofs.Links.{told}
use Rattle.tables.proofs.Kept.{Kept}
use Rattle.tables.specs.Demand1.{SoundTree}
use Rattle.tables.proofs.Sound.{depth_up}
use Rattle.tables.proofs.Told.{Told, told_map, told_one}
use Rattle.tables.proofs.Wanted.{Wanted, ring, carry, tie, ringed_other, tied_other, name_up, second, wants_told}

-- p in front of l, where the test holds
maybe : Bool → ℕ × ℕ → Cables → Cables
maybe b p l = cond b (p ∷ l) l

maybe_in : {b : Bool} {v w x y : ℕ} {l : Cables} {P : Type 0} → Says b P → (x, y) ∈ maybe b (v, w) l → (P × (x ≡ v) × (y ≡ w)) ⊎ ((x, y) ∈ l)
unfolding maybe
maybe_in {b = true} s m = ⊎_map (λ e. (s.gives refl, ap (λ q. q.0) e, ap (λ q. q.1) e)) (λ i. i) (cases m)
maybe_in {b = false} s m = inr m

in_maybe : {b : Bool} {p : ℕ × ℕ} (l : Cables) {P : Type 0} → Says b P → P → p ∈ maybe b p l
unfolding maybe
in_maybe l s h = rw (s.takes h) (here refl)

past_maybe : (b : Bool) (p : ℕ × ℕ) {q : ℕ × ℕ} {l : Cables} → q ∈ l → q ∈ maybe b p l
unfolding maybe
past_maybe true p m = there m
past_maybe false p m = m

module _ (up : List ℕ) (t : Tables) where
  -- the wanted links of the machines below n, as a list
  wishes : ℕ → Cables
  wishes zero = []
  wishes (suc v) = maybe (leb 1 (at t.mark v)) (v, at up v) (maybe (eqb (at t.mark v) 2) (v, at up (at up v))
      (maybe (not (eqb (at t.group v) v)) (v, at t.group v) (wishes v)))

  wishes_wanted : (n : ℕ) {a b : ℕ} → (a, b) ∈ wishes n → (a < n) × Wanted up t a b
  unfolding wishes
  wishes_wanted zero m = absurd (empty m)
  wishes_wanted (suc v) m = elim (maybe_in (says_le 1 (at t.mark v)) m) [
    | inl k ↦ (omega (arith, k.1), rw (k.1, k.2) (ring k.0))
    | inr m ↦ elim (maybe_in (says_eq (at t.mark v) 2) m) [
      | inl k ↦ (omega (arith, k.1), rw (k.1, k.2) (carry k.0))
      | inr m ↦ elim (maybe_in (says_not (says_eq (at t.group v) v)) m) [
        | inl k ↦ (omega (arith, k.1), rw (k.1, k.2) (tie k.0))
        | inr m ↦ (let (h, w) = wishes_wanted v m in (omega arith, w))
      ]
    ]
  ]

  newest_wish : {v b : ℕ} → Wanted up t v b → (v, b) ∈ wishes (suc v)
  unfolding wishes
  newest_wish {v} (ring p) = in_maybe _ (says_le 1 (at t.mark v)) p
  newest_wish {v} (carry p) = past_maybe _ _ (in_maybe _ (says_eq (at t.mark v) 2) p)
  newest_wish {v} (tie p) = past_maybe _ _ (past_maybe _ _ (in_maybe _ (says_not (says_eq (at t.group v) v)) p))

  wanted_wishes : (n : ℕ) {a b : ℕ} → a < n → Wanted up t a b → (a, b) ∈ wishes n
  unfolding wishes
  wanted_wishes zero h p = absurd (omega arith)
  wanted_wishes (suc n) {a} {b} h p = dite (ℕ_discrete a n) (λ e. subst (λ v. (a, b) ∈ wishes (suc v)) e (newest_wish p))
      (λ o. past_maybe _ _ (past_maybe _ _ (past_maybe _ _ (wanted_wishes n (omega arith) p))))

module _ {up : List ℕ} {t : Tables} (s : SoundTree up) (k : (v : ℕ) → v < length up → Kept up t v) where
  wanted_good : {v b : ℕ} → v < length up → Wanted up t v b → Good (length up) (v, b)
  wanted_good {v} h (ring m) = record { one = h; two = s.inside v h; apart = λ e. ringed_other s k v h m (s.only v h (sym e)) }
  wanted_good {v} h (carry e) =
      let r = second s k v h e in
      record { one = h; two = s.inside (at up v) (s.inside v h); apart = λ z. omega (arith, depth_up s v h (ringed_other s k v h (omega arith)), depth_up s (at up v) r.low r.other, ap (depth_of up) z) }
  wanted_good {v} h (tie o) = record { one = h; two = (name_up s k v h (tied_other s k v h o)).low; apart = λ e. o (sym e) }

  all_good : AllGood (length up) (wishes up t (length up))
  all_good p m = let (h, w) = wishes_wanted up t (length up) m in wanted_good h w

  -- Good links that leave these tables.
  pub complete : length t.depth ≡ length up → length t.group ≡ length up → length t.mark ≡ length up
      → (l : Cables) × AllGood (length up) l × (tables_with up l ≡ t)
  complete ld lg lm =
      let l = wishes up t (length up) in
      let q : Told up (Linked l) t = told_map
      (λ x y. ⊎_map (λ p. wanted_wishes up t (length up) p.0 p.1) (λ p. wanted_wishes up t (length up) p.0 p.1))
      (λ x y. ⊎_map (wishes_wanted up t (length up)) (wishes_wanted up t (length up)))
      (wants_told s k ld lg lm) in
      (l, all_good, told_one (told s all_good) q)
