-- The numbers of the faults: 1 to 14 and 27, none is 0, so an answer's code tells whether it was refused; and a batch is not refused with 6.
use mathlib.Core.Path.{◌≡◌, refl}
use mathlib.Core.Bool.{◌&&◌}
use mathlib.Core.List.{List}
use mathlib.Core.Logic.{◌≢◌}
use Prim.Native.Nat.{ℕ, ◌*◌, ◌%◌, ◌≤◌}
use native.Mathlib.Omega.{arith}
use lib.ListN.{length}
use lib.Dec.{leb, eqb}
use Rattle.graph.specs.Cable.{Cables}
use Rattle.tables.specs.Verdict.{Fault, number_of, faults, Refused}
use Rattle.tables.specs.Batch.{most_links, pairs, numbers_verdict, ends_verdict, batch_verdict}
use Rattle.tables.specs.Calls.{Codes}
use Rattle.tables.specs.Demand1.{Bad}
use Rattle.tables.proofs.Verdicts.{Avoids, checks_avoid, unless_avoids}
use Rattle.tables.proofs.Standing.{first_bad}

pub numbered : (why : Fault) → number_of why ≢ 0
numbered Fault.Size e = omega arith
numbered Fault.Slice e = omega arith
numbered Fault.Entry e = omega arith
numbered Fault.Hubs e = omega arith
numbered Fault.Stray e = omega arith
numbered Fault.Rule e = omega arith
numbered Fault.Length e = omega arith
numbered Fault.End e = omega arith
numbered Fault.Loop e = omega arith
numbered Fault.Cut e = omega arith
numbered Fault.Unknown e = omega arith
numbered Fault.Misplaced e = omega arith
numbered Fault.Long e = omega arith
numbered Fault.Short e = omega arith
numbered Fault.Parts e = omega arith

pub codes : Codes
unfolding faults
codes = record { zero = λ value. refl; in_order = refl; not_done = numbered }

-- a bad link is refused with 8 or 9
pub bad_number : {n : ℕ} {p : ℕ × ℕ} {why : Fault} → Bad n p why → (8 ≤ number_of why) × (number_of why ≤ 9)
bad_number (Bad.end e) = (omega arith, omega arith)
bad_number (Bad.loop a b e) = (omega arith, omega arith)

pub ends_number : (n : ℕ) (l : Cables) (why : Fault) (p : ℕ) → ends_verdict n 0 l ≡ Refused why p → (8 ≤ number_of why) × (number_of why ≤ 9)
ends_number n l why p e = let (_, _, r) = first_bad n 0 l why p e in bad_number r.bad

pub batch_avoids : (n : ℕ) (batch : List ℕ) → Avoids 6 (batch_verdict n batch)
unfolding batch_verdict numbers_verdict
batch_avoids n batch = checks_avoid _ (
  unless_avoids (eqb (length batch % 2) 0 && leb (length batch) (2 * most_links)) Fault.Length (length batch) (omega arith),
  (λ why p e. let k = ends_number n (pairs batch) why p e in omega (arith, k.0), tt),
)
