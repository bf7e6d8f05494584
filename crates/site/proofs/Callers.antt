-- For callers: what an answer tells, so that none has to open a definition. Code 0 tells that every check passed, so the tree is sound and the
-- tables are those of links that stand; any other code is that of the first check that refused, and what was lent is as it came.
use mathlib.Core.Path.{◌≡◌, refl, sym, ap, ◌∙◌}
use mathlib.Core.List.{List}
use mathlib.Core.Logic.{◌≢◌}
use Prim.Native.Nat.{ℕ}
use Rattle.tables.specs.declared.Answer.{Answer}
use Rattle.tables.specs.declared.Fault.{Fault}
use Rattle.tables.specs.declared.Verdict.TheVariants.{the_data as Verdict, Sound, Refused}
use Rattle.tables.specs.Answer.{refusal}
use Rattle.tables.specs.Tables.{Tables}
use Rattle.tables.specs.Report.{Bytes}
use Rattle.tables.specs.Outcome.{outcome, judged, report_of}
use Rattle.tables.specs.Demand2.{Relied}
use Rattle.tables.proofs.Codes.{numbered}
use Rattle.tables.proofs.Demand2.{demand2}

-- v refuses, and a is the answer to it
pub record Refusal (v : Verdict) (a : Answer) : Type 0 where
  pub why : Fault
  pub place : ℕ
  pub is : v ≡ Refused why place
  pub answered : a ≡ refusal why place

-- what the code of an answer tells of the checks, of its value and of what was lent
module _ {A : Type 0} (came : A) (value : ℕ) (left : A) {a : Answer} {lent : A} where
  pub answer_sound : (v : Verdict) → outcome a lent ≡ judged v came value left → a.code ≡ 0 → (v ≡ Sound) × (a.value ≡ value) × (lent ≡ left)
  unfolding judged
  answer_sound Sound e z = (refl, ap (λ r. r.answer.value) e, ap (λ r. r.lent) e)
  answer_sound (Refused why p) e z = absurd (numbered why (sym (ap (λ r. r.answer.code) e) ∙ z))

  pub answer_refused : (v : Verdict) → a.code ≢ 0 → outcome a lent ≡ judged v came value left → Refusal v a × (lent ≡ came)
  unfolding judged
  answer_refused Sound o e = absurd (o (ap (λ r. r.answer.code) e))
  answer_refused (Refused why p) o e = (record { why = why; place = p; is = refl; answered = ap (λ r. r.answer) e }, ap (λ r. r.lent) e)

-- Report done: it can be relied on
pub report_done : {a : Answer} {o' : Bytes} (up : List ℕ) (t : Tables) (o : Bytes) → a.code ≡ 0 → outcome a o' ≡ report_of up t o → Relied up t (outcome a o')
report_done up t o z e = rw e (demand2.code_zero up t o (ap (λ r. r.answer.code) (sym e) ∙ z))
