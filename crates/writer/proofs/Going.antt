-- The reader goes from record to record to the end of a file. What it says and prints on its way adds up, and each record takes a byte, so that more
-- turns than the file has bytes are enough: what the file says and what is printed for it are just that.
use mathlib.Core.Path.{◌≡◌, subst, ap}
use mathlib.Core.Bool.{true, false}
use mathlib.Core.List.{List, [], ◌∷◌, ◌++◌}
use Prim.Native.Nat.{ℕ, zero, suc, ◌-◌, ◌<◌, ◌≤◌}
use native.Mathlib.Omega.{arith}
use lib.ListN.{length}
use lib.Dec.{eqb}
use borrow.Author.Tests.{le-ltb}
use Rattle.plain.specs.Table.{at}
use Rattle.tables.specs.Report.{Bytes}
use Rattle.text.specs.Text.{report_text}
use Rattle.sitefile.specs.File.{Read, FileStep, reads, reports, ends, begin, step}
use Rattle.sitefile.proofs.Stepping.{Leads, onward, reporting, step_leads}
use Rattle.turns.specs.Printed.{most_bytes, prints, printed}
use Rattle.writer.specs.Said.{Act, adds, asks, says, heard, said_by}

-- from r the reader goes to the end: it says this tree and these acts, and prints this text
pub data Goes (file : List ℕ) : Read → List ℕ → List Act → List ℕ → Type 0 where
  ended : {r : Read} → step file r ≡ ends → Goes file r r.up [] []
  reading : {r r' : Read} {up : List ℕ} {acts : List Act} {text : List ℕ} → step file r ≡ reads r' → eqb (at file r.place) 4 ≡ false
      → Goes file r' up acts text → Goes file r up acts text
  closing : {r r' : Read} {up : List ℕ} {acts : List Act} {text : List ℕ} → step file r ≡ reads r' → eqb (at file r.place) 4 ≡ true
      → Goes file r' up acts text → Goes file r up (adds r.opened ∷ acts) text
  asking : {r r' : Read} {o : Bytes} {up : List ℕ} {acts : List Act} {text : List ℕ} → step file r ≡ reports r' o
      → Goes file r' up acts text → Goes file r up (asks ∷ acts) (report_text r'.up o ++ text)

-- fewer bytes are left after a record
abbrev Less : List ℕ → Read → Read → Type 0
Less file r r' = (k : ℕ) → length file - r.place < suc k → length file - r'.place < k

read_less : {file : List ℕ} {r r' : Read} → Leads file r (reads r') → Less file r r'
read_less (onward l) k h = omega (arith, l.further, l.within)

report_less : {file : List ℕ} {r r' : Read} {o : Bytes} → Leads file r (reports r' o) → Less file r r'
report_less (reporting l w) k h = omega (arith, l.further, l.within)

module _ {file : List ℕ} where
  leads_to : {r : Read} {next : FileStep} → step file r ≡ next → Leads file r next
  leads_to {r} e = subst (λ s. Leads file r s) e (step_leads file r)

  says_it : {r : Read} {up : List ℕ} {acts : List Act} {text : List ℕ} → Goes file r up acts text → (k : ℕ) → length file - r.place < k
      → heard k file r ≡ says up acts
  unfolding heard
  says_it g zero h = absurd (omega arith)
  says_it (ended e) (suc k) h = rw (e, heard)
  says_it {r = r} (reading {r' = r'} e c g) (suc k) h = rw (e, heard, c) (says_it {r = r'} g k (read_less (leads_to e) k h))
  says_it {r = r} (closing {r' = r'} e c g) (suc k) h = rw (e, heard, c, says_it {r = r'} g k (read_less (leads_to e) k h))
  says_it {r = r} (asking {r' = r'} e g) (suc k) h = rw (e, heard, says_it {r = r'} g k (report_less (leads_to e) k h))

  prints_it : {r : Read} {up : List ℕ} {acts : List Act} {text : List ℕ} → Goes file r up acts text → (k : ℕ) → length file - r.place < k
      → prints k file r ≡ text
  unfolding prints
  prints_it g zero h = absurd (omega arith)
  prints_it (ended e) (suc k) h = rw (e, prints)
  prints_it {r = r} (reading {r' = r'} e c g) (suc k) h = rw (e, prints) (prints_it {r = r'} g k (read_less (leads_to e) k h))
  prints_it {r = r} (closing {r' = r'} e c g) (suc k) h = rw (e, prints) (prints_it {r = r'} g k (read_less (leads_to e) k h))
  prints_it {r = r} (asking {r' = r'} {o} e g) (suc k) h = rw (e, prints) (ap (λ t. report_text r'.up o ++ t) (prints_it {r = r'} g k (report_less (leads_to e) k h)))

  module _ {up : List ℕ} {acts : List Act} {text : List ℕ} (short : length file ≤ most_bytes) (g : Goes file begin up acts text) where
    pub goes_says : said_by file ≡ says up acts
    unfolding said_by
    goes_says = rw (le-ltb most_bytes (length file) short) (says_it g (suc (length file)) (omega arith))

    pub goes_prints : printed file ≡ text
    unfolding printed
    goes_prints = rw (le-ltb most_bytes (length file) short) (prints_it g (suc (length file)) (omega arith))
