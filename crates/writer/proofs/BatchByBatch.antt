-- A plan is checked batch by batch: a length is taken off what is left of the numbers, and a batch that passes hands on to the batches after it.
use mathlib.Core.Path.{◌≡◌, refl, sym, ◌∙◌}
use mathlib.Core.Bool.{Bool, true, false, not}
use mathlib.Core.List.{List, [], ◌∷◌}
use Prim.Native.Nat.{ℕ, zero, suc, ◌+◌, ◌-◌, ◌<◌, ◌≤◌}
use native.Mathlib.Omega.{arith}
use lib.ListN.{length, drop, drop_of_length-le}
use lib.Dec.{eqb}
use borrow.Author.Tests.{eq-eqb, ne_eqb, not-true, not-false}
use Rattle.plain.specs.Table.{at, total}
use Rattle.tables.specs.declared.Fault.{Fault}
use Rattle.tables.specs.declared.Verdict.TheVariants.{the_data as Verdict, Sound, Refused}
use Rattle.tables.specs.Verdict.{checks}
use Rattle.tables.specs.Batch.{batch_verdict}
use Rattle.tables.proofs.Verdicts.{passes, refuses, checks_one}
use Rattle.writer.specs.declared.plan.Plan.{Plan}
use Rattle.writer.specs.Plan.{Part}
use Rattle.writer.specs.Written.{parts_verdict, batches_verdict, plan_verdict}
use Rattle.writer.specs.Lent.{parts}
use Rattle.writer.proofs.Planning.{total_next}

same : (a b k : ℕ) → a + k ≡ b → eqb k 0 ≡ eqb a b
same a b zero e = sym (eq-eqb a b (omega arith))
same a b (suc k) e = rw (ne_eqb (suc k) 0 (λ q. omega arith), ne_eqb a b (λ q. omega arith))

-- of the numbers so many are left for the lengths from b on
pub record Left (lengths : List ℕ) (numbers left b : ℕ) : Type 0 where
  pub low : b ≤ length lengths
  pub rest : total lengths + left ≡ numbers + total (drop b lengths)

module _ {lengths : List ℕ} {numbers left b : ℕ} (l : Left lengths numbers left b) where
  module _ (h : b < length lengths) {k : ℕ} (e : k ≡ at lengths b) where
    pub left_short : left < k → false ≡ eqb (total lengths) numbers
    left_short s = sym (ne_eqb (total lengths) numbers (λ q. omega (arith, total_next lengths b h e, l.rest)))

    pub left_less : k ≤ left → Left lengths numbers (left - k) (b + 1)
    left_less s = record { low = omega arith; rest = omega (arith, total_next lengths b h e, l.rest) }

  pub left_end : length lengths ≤ b → eqb left 0 ≡ eqb (total lengths) numbers
  unfolding total
  left_end h =
      let e : total (drop b lengths) ≡ 0 = rw (drop_of_length-le lengths h) in
      same (total lengths) numbers left (omega (arith, e, l.rest))

-- 27
module _ (numbers : ℕ) (lengths : List ℕ) (reports : ℕ) where
  pub odd_parts : ¬ (reports ≡ length lengths) → parts_verdict numbers lengths reports ≡ Refused Fault.Parts (length lengths)
  unfolding parts_verdict
  odd_parts o = rw (ne_eqb reports (length lengths) o)

  module _ (e : reports ≡ length lengths) {s : Bool} (q : s ≡ eqb (total lengths) numbers) where
    pub wrong_sum : not s ≡ true → parts_verdict numbers lengths reports ≡ Refused Fault.Parts (length lengths)
    unfolding parts_verdict
    wrong_sum f = rw (eq-eqb reports (length lengths) e, ← q, not-true s f)

    pub right_sum : not s ≡ false → parts_verdict numbers lengths reports ≡ Sound
    unfolding parts_verdict
    right_sum f = rw (eq-eqb reports (length lengths) e, ← q, not-false s f)

-- then it is the verdict of the plan, for any number of machines
pub no_plan : (links lengths reports : List ℕ) → parts_verdict (length links) lengths (length reports) ≡ Refused Fault.Parts (length lengths)
    → (n : ℕ) → Refused Fault.Parts (length lengths) ≡ plan_verdict n links lengths reports
unfolding plan_verdict
no_plan links lengths reports e n = sym (refuses e _ ∙ e)

-- every batch that is cut off passed, so the verdict v is that of those that are left
pub record Passed (v : Verdict) (n : ℕ) (left : List Part) : Type 0 where
  pub rest : v ≡ batches_verdict n left

-- at first all are left, for of a plan 27 is never given
pub begun : (n : ℕ) (p : Plan) → Passed (plan_verdict n p.links.now p.lengths.now p.reports.now) n (parts p)
unfolding plan_verdict parts
begun n p =
    let sound = right_sum (length p.links.now) p.lengths.now (length p.reports.now) p.bytes (sym (eq-eqb (total p.lengths.now) (length p.links.now) p.sum)) refl in
    record { rest = passes sound _ ∙ checks_one _ }

module _ {v : Verdict} {n : ℕ} {left : List Part} (p : Passed v n left) where
  pub passed_all : left ≡ [] → Sound ≡ v
  unfolding batches_verdict
  passed_all e = sym (p.rest ∙ rw e)

  module _ {part : Part} {rest : List Part} {c : Verdict} (e : left ≡ part ∷ rest) (g : c ≡ batch_verdict n part.batch) where
    here : v ≡ checks (c ∷ batches_verdict n rest ∷ [])
    unfolding batches_verdict
    here = p.rest ∙ rw (e, g)

    pub refused : {why : Fault} {place : ℕ} → c ≡ Refused why place → c ≡ v
    refused s = sym (here ∙ refuses s _)

    pub passed_more : c ≡ Sound → Passed v n rest
    passed_more s = record { rest = here ∙ passes s _ ∙ checks_one _ }
