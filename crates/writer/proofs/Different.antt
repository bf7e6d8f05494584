-- A file says its plan, and a plan whose lengths add up to the numbers lent has these numbers, these lengths, and where a report is asked. So inputs that give the same
-- bytes are the same.
use mathlib.Core.Path.{◌≡◌, refl, sym, ap, ◌∙◌}
use mathlib.Core.Bool.{Bool, true, false, cond, not}
use mathlib.Core.List.{List, [], ◌∷◌, ◌++◌, map}
use Prim.Native.Nat.{ℕ, ◌≤◌}
use native.Mathlib.Omega.{arith}
use lib.ListN.{length, take, drop, length-drop, take-append-drop}
use lib.Seq.{length-take-le}
use lib.Dec.{eqb}
use Rattle.plain.specs.Table.{total}
use Rattle.writer.specs.Plan.{Part, plan_of}
use Rattle.writer.specs.Said.{Act, asks, says}
use Rattle.writer.specs.Statements.{batches_of, numbers_of, PlanIs, acts, NeverTheSame}
use Rattle.writer.proofs.ReadBack.{front_is, read_back}

same_batch : (b c : Part) → b.batch ≡ c.batch → b.report ≡ c.report → b ≡ c
same_batch b c p q = λ i. record { batch = p i; report = q i }

-- no plan begins with a report
not_first : {A : Type 0} (plan : List Part) {l : List Act} → acts plan ≡ asks ∷ l → A
unfolding acts
not_first [] e = let z : ◌≡◌ {A = ℕ} 0 1 = cc in absurd (omega arith)
not_first (b ∷ plan) e = let z : ◌≡◌ {A = ℕ} 0 1 = cc in absurd (omega arith)

-- a report after the first batch, and the rest
same_rest : (b c : Bool) (p q : List Part) → cond b (asks ∷ []) [] ++ acts p ≡ cond c (asks ∷ []) [] ++ acts q → (b ≡ c) × (acts p ≡ acts q)
same_rest true true p q e = (refl, cc)
same_rest true false p q e = not_first q (sym e)
same_rest false true p q e = not_first p e
same_rest false false p q e = (refl, e)

same_plan : (p q : List Part) → acts p ≡ acts q → p ≡ q
unfolding acts
same_plan [] [] e = refl
same_plan [] (c ∷ q) e = let z : ◌≡◌ {A = ℕ} 0 1 = cc in absurd (omega arith)
same_plan (b ∷ p) [] e = let z : ◌≡◌ {A = ℕ} 0 1 = cc in absurd (omega arith)
same_plan (b ∷ p) (c ∷ q) e =
    let n : b.batch ≡ c.batch = cc in
    let t : cond b.report (asks ∷ []) [] ++ acts p ≡ cond c.report (asks ∷ []) [] ++ acts q = cc in
    let (r, a) = same_rest b.report c.report p q t in
    λ i. same_batch b c n r i ∷ same_plan p q a i

-- the lengths, the links and the reports that a plan was cut from
lengths_of : (lengths links reports : List ℕ) → total lengths ≤ length links → map length (batches_of (plan_of links lengths reports)) ≡ lengths
unfolding plan_of total
lengths_of [] links reports h = refl
lengths_of (k ∷ lengths) links reports h =
    let e = length-take-le k links (omega arith) in
    let f = lengths_of lengths (drop k links) (drop 1 reports) (omega (arith, length-drop k links)) in
    λ i. e i ∷ f i

links_of : (lengths links reports : List ℕ) → total lengths ≡ length links → numbers_of (batches_of (plan_of links lengths reports)) ≡ links
unfolding plan_of total numbers_of
links_of [] [] reports h = refl
links_of [] (x ∷ links) reports h = absurd (omega arith)
links_of (k ∷ lengths) links reports h =
    ap (λ l. take k links ++ l) (links_of lengths (drop k links) (drop 1 reports) (omega (arith, length-drop k links))) ∙ take-append-drop k links

asked_of : (lengths links reports : List ℕ) → length reports ≡ length lengths → map (λ p. p.report) (plan_of links lengths reports) ≡ map (λ b. not (eqb b 0)) reports
unfolding plan_of
asked_of [] links [] h = refl
asked_of [] links (r ∷ reports) h = absurd (omega arith)
asked_of (k ∷ lengths) links [] h = absurd (omega arith)
asked_of (k ∷ lengths) links (r ∷ reports) h = ap (λ l. not (eqb r 0) ∷ l) (asked_of lengths (drop k links) reports (omega arith))

pub plan_is : PlanIs
plan_is links lengths reports b s = record { numbers = links_of lengths links reports s; lengths_are = lengths_of lengths links reports (omega arith); asked = asked_of lengths links reports b }

pub never_the_same : NeverTheSame
never_the_same up links lengths reports out up' links' lengths' reports' out' z z' e =
    let (a, _) = front_is up links lengths reports out z in
    let (a', _) = front_is up' links' lengths' reports' out' z' in
    let said : says up (acts (plan_of links lengths reports)) ≡ says up' (acts (plan_of links' lengths' reports')) =
    sym (read_back up links lengths reports out z) ∙ rw e (read_back up' links' lengths' reports' out' z') in
    let p : plan_of links lengths reports ≡ plan_of links' lengths' reports' = same_plan _ _ cc in
    let c = plan_is links lengths reports a.bytes a.sum in
    let c' = plan_is links' lengths' reports' a'.bytes a'.sum in
    record {
      tree = cc;
      batches = sym c.lengths_are ∙ ap (λ plan. map length (batches_of plan)) p ∙ c'.lengths_are;
      numbers = sym c.numbers ∙ ap (λ plan. numbers_of (batches_of plan)) p ∙ c'.numbers;
      asked = sym c.asked ∙ ap (map (λ p. p.report)) p ∙ c'.asked;
    }
