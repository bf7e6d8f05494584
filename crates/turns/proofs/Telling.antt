-- What an answer tells its caller. A record that is read ends further on in the file, and a report is on machines that the slices have; a turn that is not
-- the last ends further on, and a turn tells of no more bytes than the buffer has.
use mathlib.Core.Path.{◌≡◌, sym, ap, subst, ◌∙◌}
use mathlib.Core.List.{List}
use Prim.Native.Nat.{ℕ, ◌-◌, ◌≤◌, ◌<◌}
use native.Mathlib.Omega.{arith}
use lib.ListN.{length}
use lib.Dec.{ltb}
use Rattle.plain.proofs.Says.{by_cases}
use Rattle.plain.proofs.Laid.{laid_whole}
use Rattle.tables.specs.declared.Fault.{Fault}
use Rattle.tables.specs.Tree.{most_machines}
use Rattle.tables.specs.Answer.{refusal}
use Rattle.tables.specs.Outcome.{outcome}
use Rattle.text.specs.Text.{refusal_text}
use Rattle.sitefile.specs.declared.Reader.{Reader}
use Rattle.sitefile.specs.declared.Step.{Step}
use Rattle.sitefile.specs.declared.Step.TheVariants as steps
use Rattle.sitefile.specs.File.{FileStep}
use Rattle.sitefile.specs.Next.{Room, counts_fit, read_of, step_over, next_of}
use Rattle.sitefile.proofs.ReadNext.{Fit, says_fit}
use Rattle.sitefile.proofs.Stepping.{Leads, onward, reporting, ending, refusing, step_leads}
use Rattle.turns.specs.declared.Turn.{Turn}
use Rattle.turns.specs.declared.Turn.TheVariants as turns
use Rattle.turns.specs.Printed.{most_bytes}
use Rattle.turns.specs.Turn.{desk, told_by, turn_of, shown}
use Rattle.turns.specs.Telling.{TellDue}

pub record Further (file : List ℕ) (r r' : Reader) : Type 0 where
  pub further : r.place < r'.place
  pub within : r'.place ≤ length file

unfoldable StepTells : List ℕ → Reader → Step → Type 0
StepTells file r (steps.Read r') = Further file r r'
StepTells file r (steps.Report r') = Further file r r' × (r'.n ≤ most_machines)
StepTells file r steps.End = Unit {0}
StepTells file r (steps.Refused refusal) = Unit {0}
StepTells file r steps.Unfit = Unit {0}

module _ (file : List ℕ) (r : Reader) (room : Room) where
  over_tells : Fit r → {next : FileStep} → Leads file (read_of r room) next → StepTells file r (step_over next room).answer
  unfolding StepTells read_of
  over_tells f (onward l) = record { further = l.further; within = l.within }
  over_tells f (reporting l w) = (record { further = l.further; within = l.within }, omega (arith, f.0, w.same))
  over_tells f ending = tt
  over_tells f refusing = tt

  next_tells : StepTells file r (next_of file r room).answer
  unfolding next_of StepTells
  next_tells = by_cases (counts_fit r)
      (λ e. rw e (over_tells ((says_fit r).gives e) (step_leads file (read_of r room))))
      (λ e. rw e tt)

  -- a report is on no more machines than the arrays have
  module _ {s : Step} {room' : Room} (e : outcome s room' ≡ next_of file r room) where
    pub tell_due : TellDue s
    unfolding StepTells
    tell_due r' q = let t : StepTells file r (steps.Report r') = subst (λ s. StepTells file r s) (sym (ap (λ o. o.answer) e) ∙ q) next_tells in t.1

-- what a turn tells
unfoldable TurnTells : List ℕ → Reader → Turn → ℕ → Type 0
TurnTells file r (turns.More r' k) size = Further file r r' × (k ≤ size)
TurnTells file r (turns.Done k) size = k ≤ size
TurnTells file r turns.Unfit size = Unit {0}

module _ (file : List ℕ) (r : Reader) (room : Room) (text : List ℕ) where
  by_tells : (s : Step) (room' : Room) → StepTells file r s → TurnTells file r (told_by s room' text).answer (length (told_by s room' text).lent.text)
  unfolding StepTells TurnTells
  by_tells (steps.Read r') room' t = (t, omega arith)
  by_tells (steps.Report r') room' t = (t.0, laid_whole (shown r' room') text)
  by_tells steps.End room' t = omega arith
  by_tells (steps.Refused refusal) room' t = laid_whole (refusal_text refusal) text
  by_tells steps.Unfit room' t = tt

  turn_of_tells : TurnTells file r (turn_of file r (desk room text)).answer (length (turn_of file r (desk room text)).lent.text)
  unfolding turn_of TurnTells
  turn_of_tells = by_cases (ltb most_bytes (length file))
      (λ f. rw f (laid_whole (refusal_text (refusal Fault.Long most_bytes)) text))
      (λ f. rw f (by_tells (next_of file r room).answer (next_of file r room).lent (next_tells file r room)))

  module _ {t : Turn} {room' : Room} {text' : List ℕ} (e : outcome t (desk room' text') ≡ turn_of file r (desk room text)) where
    turn_tells : {u : Turn} → t ≡ u → TurnTells file r u (length text')
    turn_tells {u} q =
        let a : u ≡ (turn_of file r (desk room text)).answer = sym q ∙ ap (λ o. o.answer) e in
        let b : text' ≡ (turn_of file r (desk room text)).lent.text = ap (λ o. o.lent.text) e in
        rw (a, b) turn_of_tells

    pub more_inside : {r' : Reader} {k : ℕ} → t ≡ turns.More r' k → k ≤ length text'
    unfolding TurnTells
    more_inside q = (turn_tells q).1

    -- fewer bytes are left
    pub more_less : {r' : Reader} {k : ℕ} → t ≡ turns.More r' k → length file - r'.place < length file - r.place
    unfolding TurnTells
    more_less q = let f = (turn_tells q).0 in omega arith

    pub done_inside : {k : ℕ} → t ≡ turns.Done k → k ≤ length text'
    unfolding TurnTells
    done_inside q = turn_tells q
