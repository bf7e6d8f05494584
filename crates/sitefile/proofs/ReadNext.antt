-- The whole step: a reader that does not fit is unfit; else what is due tells what the file's step is, and what each kind's function asks
-- follows from the counts, since the arrays have room for any site.
use mathlib.Core.Path.{◌≡◌, refl, sym, ◌∙◌}
use mathlib.Core.Bool.{Bool, true, false, not}
use mathlib.Core.List.{List}
use Prim.Native.Nat.{ℕ, ◌+◌, ◌*◌, ◌%◌, ◌^◌, ◌≤◌, ◌<◌}
use native.Mathlib.Omega.{arith}
use lib.ListN.{length}
use lib.Seq.{length-take-le}
use borrow.Author.Tests.{not-true, not-false}
use Rattle.plain.proofs.Says.{Says, says_and, says_eq, says_le}
use Rattle.tables.specs.Tree.{most_machines}
use Rattle.tables.specs.Batch.{most_links}
use Rattle.tables.specs.declared.Answer.{Answer}
use Rattle.tables.specs.Outcome.{Outcome, outcome}
use Rattle.sitefile.specs.File as file
use Rattle.sitefile.specs.File.{reader_of, due_of}
use Rattle.sitefile.specs.Next.{Room, room_of, counts_fit, read_of, next_of}
use Rattle.sitefile.specs.Reading.{leads, Fronts, UplinkDue, LinkDue, CloseDue, ReportDue}
use Rattle.sitefile.specs.declared.Reader.{Reader}
use Rattle.sitefile.specs.declared.Step.{Step}
use Rattle.sitefile.specs.declared.Step.TheVariants as steps
use Rattle.sitefile.specs.declared.due.Due.{Due}
use Rattle.sitefile.specs.declared.due.Due.TheVariants as due
use Rattle.sitefile.proofs.ReadDue.{DueFacts, told}

-- what fits: the counts
abbrev pub Fit : Reader → Type 0
Fit r = (r.n ≤ most_machines) × ((r.ups ≤ r.n) × ((r.opened ≤ 2 * most_links) × (r.opened % 2 ≡ 0)))

pub says_fit : (r : Reader) → Says (counts_fit r) (Fit r)
says_fit r = says_and (says_le r.n most_machines) (says_and (says_le r.ups r.n) (says_and (says_le r.opened (2 * most_links)) (says_eq (r.opened % 2) 0)))

pub counts : (r : Reader) {b : Bool} → b ≡ counts_fit r → not b ≡ false → counts_fit r ≡ true
counts r {b} e f = sym e ∙ not-false b f

-- what each kind's function asks
module _ (bytes : List ℕ) (r : Reader) {d : Due} {b : Bool} (e : b ≡ counts_fit r) (f : not b ≡ false) (g : d ≡ due_of bytes r) where
  fit : Fit r
  fit = (says_fit r).gives (counts r e f)

  facts : {w : Due} → d ≡ w → DueFacts bytes r w
  facts h = told bytes r (sym g ∙ h)

  pub size_due : d ≡ due.Size → r.place + 3 ≤ length bytes
  unfolding DueFacts
  size_due h = facts h

  pub ups_inside : {up : ℕ} → up ≡ most_machines → r.ups ≤ up
  ups_inside u = let k = fit in omega arith

  pub link_due : {batch : ℕ} → d ≡ due.Link → batch ≡ 2 * most_links → LinkDue bytes r batch
  unfolding DueFacts
  link_due h b = let k = fit in record { body = facts h; inside = omega arith; size = b; pairs = k.1.1.1 }

  -- over arrays that have room for any site
  module _ {up depth group mark : ℕ} (u : up ≡ most_machines) (p : depth ≡ most_machines) (q : group ≡ most_machines) (m : mark ≡ most_machines) where
    fronts : Fronts r.n up depth group mark
    fronts = let k = fit in record { in_up = omega arith; in_depth = omega arith; in_group = omega arith; in_mark = omega arith }

    pub uplink_due : d ≡ due.Uplink → UplinkDue bytes r up depth group mark
    unfolding DueFacts
    uplink_due h = let t : DueFacts bytes r due.Uplink = facts h in record { body = t.0; more = t.1; few = fit.0; fronts = fronts }

    pub close_due : {batch : ℕ} → d ≡ due.Close → length bytes < 2 ^ 64 → batch ≡ 2 * most_links → CloseDue r up depth group mark batch
    unfolding DueFacts
    close_due h s b = let t = facts h in let k = fit in record { low = omega arith; grown = t.1; fronts = fronts; inside = omega arith }

    pub report_due : {machines links : ℕ} → d ≡ due.Report → length bytes < 2 ^ 64 → machines ≡ most_machines → links ≡ most_machines
        → ReportDue r up depth group mark machines links
    unfolding DueFacts
    report_due h s a b = let t = facts h in let k = fit in record { low = omega arith; grown = t.1; fronts = fronts; in_machines = omega arith; in_links = omega arith }

-- the end and a refusal leave the arrays alone
module _ (bytes : List ℕ) (r : Reader) (room : Room) where
  pub end_done : outcome steps.End room ≡ leads bytes r due.End room
  unfolding leads file.done
  end_done = refl

  pub stop_done : (a : Answer) → outcome (steps.Refused a) room ≡ leads bytes r (due.Stop a) room
  unfolding leads file.done
  stop_done a = refl

reader_is : (r : Reader) (room : Room) → r.ups ≤ length room.up → r.opened ≤ length room.batch → reader_of (read_of r room) ≡ r
unfolding read_of
reader_is r room u o = rw (length-take-le r.ups room.up u, length-take-le r.opened room.batch o)

module _ (bytes : List ℕ) (r : Reader) (up depth group mark batch machines links : List ℕ) {b : Bool} (e : b ≡ counts_fit r) where
  abbrev room : Room
  room = room_of up depth group mark batch machines links

  pub next_unfit : not b ≡ true → outcome steps.Unfit room ≡ next_of bytes r room
  unfolding next_of
  next_unfit f = rw (sym e ∙ not-true b f)

  -- what is due is done by the function of its kind
  pub next_done : {d k : Due} {w : Outcome Step Room} → not b ≡ false → length up ≡ most_machines → length batch ≡ 2 * most_links → d ≡ due_of bytes r → d ≡ k
      → w ≡ leads bytes r k room → w ≡ next_of bytes r room
  unfolding leads next_of file.step
  next_done f u l g h q =
      let t = (says_fit r).gives (counts r e f) in
      rw (counts r e f, reader_is r room (omega arith) (omega arith), sym g, h) q
