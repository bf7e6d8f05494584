-- The text of a refusal is one line, of at most 44 bytes. The text of a report is three parts, one behind the other. The room that is asked for is
-- enough for the whole: 11 bytes for a line `M`, 13 for a line `L`, 44 for the line `T`; so there is room for each part in turn, and the three
-- together are the text.
use mathlib.Core.Path.{◌≡◌, sym, ap, ◌∙◌}
use mathlib.Core.Bool.{Bool, true, false}
use mathlib.Core.List.{List, ◌++◌}
use Rattle.std.specs.Prelude.{Option, Some, None}
use Prim.Native.Nat.{ℕ, ◌+◌, ◌*◌, ◌<◌, ◌≤◌}
use native.Mathlib.Omega.{arith}
use lib.ListN.{length, length-append}
use borrow.Author.Tests.{le-leb, lt-leb}
use mir.Syntax.{w8, w16}
use mir.Val.{Fits}
use Rattle.plain.specs.Table.{at}
use Rattle.plain.proofs.Says.{says_and, says_le, says_eq}
use Rattle.tables.specs.Tree.{most_machines}
use Rattle.tables.specs.declared.Answer.{Answer}
use Rattle.tables.specs.Outcome.{Outcome, outcome}
use Rattle.tables.specs.Report.{bytes_of, named}
use Rattle.text.specs.declared.Page.{Page}
use Rattle.text.specs.Text.{line, machine_lines, uplink_lines, report_text, refusal_text}
use Rattle.text.specs.Written.{refusal_written, report_fits, report_written, Appends, HasRoom}
use Rattle.text.proofs.Appending.{then, reworded, room, room_first, size, over_front}
use Rattle.text.proofs.Widths.{any_line, machine_lines_lem, uplink_lines_lem}

-- room for any line
pub refusal_room : (letter a b : ℕ) (page : Page) → page.at ≡ 0 → 64 ≤ length page.out.now → HasRoom page (line letter a b)
refusal_room letter a b page z h = omega (arith, any_line letter a b)

module _ (refusal : Answer) where
  pub refusal_unfit : (buffer : List ℕ) → length buffer < 64 → outcome None buffer ≡ refusal_written refusal buffer
  unfolding refusal_written
  refusal_unfit buffer h = rw (lt-leb 64 (length buffer))

  pub refused : {p q : Page} {buffer : List ℕ} → Appends p (refusal_text refusal) q → p.out.now ≡ buffer → p.at ≡ 0 → 64 ≤ length buffer → outcome (Some q.at) q.out.now ≡ refusal_written refusal buffer
  unfolding refusal_written
  refused {p} {q} {buffer} a e z h = rw (le-leb 64 (length buffer), sym e) (over_front z (omega (arith, any_line 82 refusal.code refusal.value, ap length e)) a)

-- the page is the buffer that was lent
pub handed_back : (p : Page) {buffer : List ℕ} {o : Outcome (Option ℕ) (List ℕ)} → buffer ≡ p.out.now → outcome (Some p.at) p.out.now ≡ o → outcome (Some p.at) buffer ≡ o
handed_back p b e = ap (outcome (Some p.at)) b ∙ e

-- the three parts, as the code has their lengths
abbrev machine_part : List ℕ → List ℕ
machine_part machines = machine_lines machines 0 (length machines)

abbrev uplink_part : List ℕ → List ℕ → List ℕ
uplink_part up links = uplink_lines up links 0 (length links)

abbrev total_part : List ℕ → List ℕ → List ℕ
total_part machines links = line 84 (named machines) (named links)

pub unfit : (up machines links buffer : List ℕ) {b : Bool} → b ≡ report_fits (length up) (length machines) (length links) (length buffer) → b ≡ false → outcome None buffer ≡ report_written up machines links buffer
unfolding report_written
unfit up machines links buffer {b} e f = rw (sym e ∙ f)

module _ (up machines links buffer : List ℕ) {b : Bool} (e : b ≡ report_fits (length up) (length machines) (length links) (length buffer)) (f : b ≡ true)
    (bytes : (i : ℕ) → Fits w8 (at machines i)) (numbers : (i : ℕ) → Fits w16 (at up i)) (p : Page) (z : p.at ≡ 0) (o : p.out.now ≡ buffer) where
  fit : (length up ≤ most_machines) × ((length machines ≡ length up) × ((length links ≡ length up) × (24 * length up + 64 ≤ length buffer)))
  fit =
      let n = length up in
      (says_and (says_le n most_machines) (says_and (says_eq (length machines) n) (says_and (says_eq (length links) n) (says_le (24 * n + 64) (length buffer))))).gives (sym e ∙ f)

  parts : machine_part machines ++ (uplink_part up links ++ total_part machines links) ≡ report_text up (bytes_of machines links)
  unfolding report_text
  parts = rw (fit.1.0, fit.1.1.0)

  machines_few : length (machine_part machines) ≤ 11 * length up
  machines_few = let k = fit in rw (← k.1.0) (machine_lines_lem (length machines) (omega arith) machines bytes)

  uplinks_few : length (uplink_part up links) ≤ 13 * length up
  uplinks_few = let k = fit in rw (← k.1.1.0) (uplink_lines_lem (length links) (omega arith) up links numbers)

  whole : HasRoom p (machine_part machines ++ (uplink_part up links ++ total_part machines links))
  whole =
      let k = fit in
      omega (arith, z, ap length o, machines_few, uplinks_few, any_line 84 (named machines) (named links), length-append (machine_part machines) (uplink_part up links ++ total_part machines links), length-append (uplink_part up links) (total_part machines links))

  pub room_machines : HasRoom p (machine_part machines)
  room_machines = room_first p (machine_part machines) (uplink_part up links ++ total_part machines links) whole

  module _ {q : Page} (first : Appends p (machine_part machines) q) where
    pub room_uplinks : HasRoom q (uplink_part up links)
    room_uplinks = room_first q (uplink_part up links) (total_part machines links) (room (uplink_part up links ++ total_part machines links) whole first)

    module _ {r : Page} (second : Appends q (uplink_part up links) r) where
      pub room_totals : r.at + 44 ≤ length r.out.now
      room_totals = let s = fit in omega (arith, z, ap length o, machines_few, uplinks_few, first.laid.next, second.laid.next, size first, size second)

      pub reported : {t : Page} → Appends r (total_part machines links) t → outcome (Some t.at) t.out.now ≡ report_written up machines links buffer
      unfolding report_written
      reported third =
          let text : length (report_text up (bytes_of machines links)) ≤ length p.out.now = omega (arith, z, whole, ap length parts) in
          rw (sym e ∙ f, sym o) (over_front z text (reworded parts (then first (then second third))))
