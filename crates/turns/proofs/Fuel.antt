-- The fuel: each record takes a byte, so more records than bytes are left change nothing in what is printed. By induction on the fuel.
use mathlib.Core.Path.{◌≡◌, refl, ap}
use mathlib.Core.List.{List, ◌++◌}
use Prim.Native.Nat.{ℕ, zero, suc, ◌-◌, ◌<◌}
use native.Mathlib.Omega.{arith}
use lib.ListN.{length}
use Rattle.text.specs.Text.{report_text}
use Rattle.sitefile.specs.File.{Read, FileStep, step}
use Rattle.sitefile.proofs.Stepping.{Leads, onward, reporting, ending, refusing, step_leads}
use Rattle.turns.specs.Printed.{prints}

abbrev Same : List ℕ → ℕ → ℕ → Read → Type 0
Same file j k r = length file - r.place < j → length file - r.place < k → prints j file r ≡ prints k file r

-- where the rest prints the same
once : (file : List ℕ) (j k : ℕ) (r : Read) {next : FileStep} → Leads file r next → step file r ≡ next → ((r' : Read) → Same file j k r') → Same file (suc j) (suc k) r
unfolding prints
once file j k r (onward {r'} l) e rest a b = rw (e, prints) (rest r' (omega (arith, l.further, l.within)) (omega (arith, l.further, l.within)))
once file j k r (reporting {r'} {o} l w) e rest a b =
    rw (e, prints) (ap (λ x. report_text r'.up o ++ x) (rest r' (omega (arith, l.further, l.within)) (omega (arith, l.further, l.within))))
once file j k r ending e rest a b = rw (e, prints)
once file j k r refusing e rest a b = rw (e, prints)

pub fuel : (file : List ℕ) (j k : ℕ) (r : Read) → Same file j k r
fuel file zero k r a b = absurd (omega arith)
fuel file (suc j) zero r a b = absurd (omega arith)
fuel file (suc j) (suc k) r a b = once file j k r (step_leads file r) refl (λ r'. fuel file j k r') a b
