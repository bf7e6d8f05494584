-- The printing: turn by turn the slices hold what the file has read, so each turn writes what its record prints; and where there are more turns than bytes,
-- all of them are what is printed for the file.
use mathlib.Core.Path.{◌≡◌, refl, ap, ◌∙◌}
use mathlib.Core.Bool.{true}
use mathlib.Core.List.{List, ◌++◌}
use Prim.Native.Nat.{ℕ, zero, suc, ◌≤◌}
use native.Mathlib.Omega.{arith}
use lib.ListN.{length, drop}
use lib.Seq.{take_at}
use lib.Dec.{ltb}
use borrow.Author.Tests.{le-ltb, ltb-false}
use Rattle.plain.specs.Laid.{laid}
use Rattle.plain.proofs.Says.{by_cases}
use Rattle.plain.proofs.Laid.{take_laid}
use Rattle.tables.specs.declared.Fault.{Fault}
use Rattle.tables.specs.Answer.{refusal}
use Rattle.tables.specs.Report.{Bytes, bytes_of}
use Rattle.text.specs.Text.{report_text, refusal_text}
use Rattle.sitefile.specs.declared.Reader.{Reader}
use Rattle.sitefile.specs.File.{Read, FileStep, begin, reader_of, step}
use Rattle.sitefile.specs.Next.{Room, holding, step_over}
use Rattle.sitefile.proofs.Stepping.{Led, led_begin, Whole, Leads, onward, reporting, ending, refusing, step_leads}
use Rattle.sitefile.proofs.Holding.{Holds, holds_begin, holds, next_is}
use Rattle.turns.specs.Printed.{most_bytes, prints, printed}
use Rattle.turns.specs.Turn.{Desk, last, shown, told_by, turn_of, of_turn, writes, Printing}
use Rattle.turns.proofs.Fuel.{fuel}

-- the bytes of a report stand in the outputs, so its text is what a turn shows
shown_is : {r₀ r : Read} {o : Bytes} (room : Room) → Whole r₀ r o
    → shown (reader_of r) (holding r room (bytes_of (laid o.machines room.outputs.machines) (laid o.links room.outputs.links))) ≡ report_text r.up o
unfolding holding
shown_is {r = r} {o} room w = rw (take_at r.up (drop (length r.up) room.up) r.n w.tree, take_at o.machines (drop (length o.machines) room.outputs.machines) r.n w.machines, take_at o.links (drop (length o.links) room.outputs.links) r.n w.links)

-- what a turn is given: sizes that a file leads to, and slices that hold what was read
record Ready (r : Read) (d : Desk) : Type 0 where
  led : Led r
  held : Holds r d.room

module _ (file : List ℕ) (short : length file ≤ most_bytes) where
  turn_is : {r : Read} {d : Desk} → Ready r d
      → turn_of file (reader_of r) d ≡ told_by (step_over (step file r) d.room).answer (step_over (step file r) d.room).lent d.text
  unfolding turn_of
  turn_is {r} {d} q = rw (le-ltb most_bytes (length file) short, next_is file d.room q.led q.held)

  abbrev Follows : ℕ → Type 0
  Follows k = (r : Read) (d : Desk) → Ready r d → writes k file (reader_of r) d ≡ prints k file r

  once : (k : ℕ) (r : Read) (d : Desk) {next : FileStep} → Leads file r next → step file r ≡ next → Follows k → Ready r d
      → writes (suc k) file (reader_of r) d ≡ prints (suc k) file r
  unfolding writes of_turn prints
  once k r d (reporting {r'} {o} l w) e rest q =
      let m = l.keeps q.led in
      rw (turn_is q, e, prints, shown_is d.room w, take_laid (report_text r'.up o) d.text)
      (ap (λ x. report_text r'.up o ++ x) (rest r' _ (record { led = m; held = holds d.room m _ })))
  once k r d (onward {r'} l) e rest q =
      let m = l.keeps q.led in
      rw (turn_is q, e, prints)
      (rest r' _ (record { led = m; held = holds d.room m d.room.outputs }))
  once k r d ending e rest q = rw (turn_is q, e, prints)
  once k r d (refusing {a}) e rest q = rw (turn_is q, e, prints) (take_laid (refusal_text a) d.text)

  follows : (k : ℕ) → Follows k
  unfolding writes prints
  follows zero r d q = refl
  follows (suc k) r d q = once k r d (step_leads file r) refl (follows k) q

-- a file that is too long is refused in the first turn
module _ (file : List ℕ) (d : Desk) (long : ltb most_bytes (length file) ≡ true) where
  long_turn : (r : Reader) → turn_of file r d ≡ last (refusal_text (refusal Fault.Long most_bytes)) d.room d.text
  unfolding turn_of
  long_turn r = rw long

  too_long : (k : ℕ) (r : Reader) → writes (suc k) file r d ≡ refusal_text (refusal Fault.Long most_bytes)
  unfolding writes of_turn
  too_long k r = rw (long_turn r) (take_laid (refusal_text (refusal Fault.Long most_bytes)) d.text)

pub printing : Printing
unfolding printed
printing file d zero m = absurd (omega arith)
printing file d (suc k) m = by_cases (ltb most_bytes (length file))
    (λ e. rw e (too_long file d e k (reader_of begin)))
    (λ e. rw e
    (follows file (ltb-false _ _ e) (suc k) begin d (record { led = led_begin; held = holds_begin d.room }) ∙ fuel file (suc k) (suc (length file)) begin (omega arith) (omega arith)))
