-- A turn as the code takes it: 13 first, and then what the next record came to, in text. The text has room for any.
use mathlib.Core.Path.{◌≡◌, refl, sym, ap, ◌∙◌}
use mathlib.Core.Bool.{true}
use mathlib.Core.List.{List}
use Prim.Native.Nat.{ℕ, ◌+◌, ◌*◌, ◌≤◌, ◌<◌}
use native.Mathlib.Omega.{arith}
use lib.ListN.{length, replicate, take}
use lib.Seq.{length-take-le}
use borrow.Author.Tests.{lt-ltb, le-ltb, le-leb, eq-eqb}
use Rattle.std.specs.Prelude.{Option, Some, IsSome}
use Rattle.tables.specs.declared.Answer.{Answer}
use Rattle.tables.specs.declared.Fault.{Fault}
use Rattle.tables.specs.Tree.{most_machines}
use Rattle.tables.specs.Answer.{refusal}
use Rattle.tables.specs.Report.{bytes_of}
use Rattle.tables.specs.Outcome.{Outcome, outcome}
use Rattle.text.specs.Text.{report_text, refusal_text}
use Rattle.text.specs.Written.{written, refusal_written, report_written}
use Rattle.text.specs.Written as fits
use Rattle.sitefile.specs.declared.Reader.{Reader}
use Rattle.sitefile.specs.declared.Step.{Step}
use Rattle.sitefile.specs.declared.Step.TheVariants as steps
use Rattle.sitefile.specs.declared.Room as code
use Rattle.sitefile.specs.Next.{Room, room_of, empty, next_of}
use Rattle.turns.specs.declared.Desk as code_desk
use Rattle.turns.specs.declared.Turn.{Turn}
use Rattle.turns.specs.declared.Turn.TheVariants as turns
use Rattle.turns.specs.Printed.{most_bytes}
use Rattle.turns.specs.Turn.{Desk, desk, most_text, bare, more, last, shown, told_by, turn_of}

abbrev over : code.Room → code_desk.Desk
over room = record { room = room; text = replicate most_text 0 }

pub bare_is : {room : code.Room} → room ≡ empty → over room ≡ bare
bare_is e = ap over e

-- what is written where there is room
module _ (bytes text : List ℕ) {o : Option ℕ} {text' : List ℕ} (e : outcome o text' ≡ written true bytes text) where
  there : IsSome o
  there = rw (ap (λ x. x.answer) e) refl

  length_is : {k : ℕ} → o ≡ Some k → k ≡ length bytes
  length_is q = let z = sym q ∙ ap (λ x. x.answer) e in cc

-- there is room for the text of a refusal
module _ (a : Answer) (text : List ℕ) (t : length text ≡ most_text) {o : Option ℕ} {text' : List ℕ} (e : outcome o text' ≡ refusal_written a text) where
  refusal_in : outcome o text' ≡ written true (refusal_text a) text
  unfolding refusal_written
  refusal_in = rw (le-leb 64 (length text) (omega arith)) at e

  pub refusal_fits : IsSome o
  refusal_fits = there _ _ refusal_in

  pub refusal_told : {k : ℕ} (room : Room) → o ≡ Some k → outcome (turns.Done k) (desk room text') ≡ last (refusal_text a) room text
  refusal_told room q = rw (length_is _ _ refusal_in q, ap (λ x. x.lent) refusal_in)

-- and for that of a report
module _ (r : Reader) (up machines links text : List ℕ) (few : r.n ≤ most_machines) (u : length up ≡ most_machines)
    (m : length machines ≡ most_machines) (l : length links ≡ most_machines) (t : length text ≡ most_text) {o : Option ℕ} {text' : List ℕ}
    (e : outcome o text' ≡ report_written (take r.n up) (take r.n machines) (take r.n links) text) where
  report_in : outcome o text' ≡ written true (report_text (take r.n up) (bytes_of (take r.n machines) (take r.n links))) text
  unfolding report_written
  report_in =
      let n = r.n in
      let f : fits.report_fits (length (take n up)) (length (take n machines)) (length (take n links)) (length text) ≡ true =
      rw (length-take-le n up (omega arith), length-take-le n machines (omega arith), length-take-le n links (omega arith), le-leb n most_machines few, eq-eqb n n refl, le-leb (24 * n + 64) (length text) (omega arith)) in
      rw f at e

  pub report_fits : IsSome o
  report_fits = there _ _ report_in

  pub report_told : {k : ℕ} (depth group mark batch : List ℕ) → o ≡ Some k
      → outcome (turns.More r k) (desk (room_of up depth group mark batch machines links) text')
      ≡ more (shown r (room_of up depth group mark batch machines links)) r (room_of up depth group mark batch machines links) text
  report_told depth group mark batch q = rw (length_is _ _ report_in q, ap (λ x. x.lent) report_in)

-- what a step comes to, in text
module _ (up depth group mark batch machines links text : List ℕ) where
  abbrev own : Room
  own = room_of up depth group mark batch machines links

  module _ {s : Step} {o : Outcome Turn Desk} where
    pub told_report : {r : Reader} → s ≡ steps.Report r → o ≡ more (shown r own) r own text → o ≡ told_by s own text
    told_report e q = rw e q

    pub told_refused : {a : Answer} → s ≡ steps.Refused a → o ≡ last (refusal_text a) own text → o ≡ told_by s own text
    told_refused e q = rw e q

-- the tests of a turn, in their order
module _ (file : List ℕ) (r : Reader) (room : Room) (text : List ℕ) where
  pub turn_long : {a : Answer} {o : Outcome Turn Desk} → most_bytes < length file → a ≡ refusal Fault.Long most_bytes → o ≡ last (refusal_text a) room text
      → o ≡ turn_of file r (desk room text)
  unfolding turn_of
  turn_long h q e = rw (lt-ltb most_bytes (length file) h) (rw q at e)

  pub turn_taken : {s : Step} {room' : Room} {o : Outcome Turn Desk} → length file ≤ most_bytes → outcome s room' ≡ next_of file r room → o ≡ told_by s room' text
      → o ≡ turn_of file r (desk room text)
  unfolding turn_of
  turn_taken short e q = rw (le-ltb most_bytes (length file) short, ← e) q
