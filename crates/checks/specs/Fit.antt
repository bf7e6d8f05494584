-- Which slice is the first that is not as long as up.
-- This is the contract of a private function: the public calls do not cite it, so nothing here has to be believed.
use Rattle.std.specs.Prelude.{List, ℕ, ◌+◌, ◌==◌, not, position, Option, Some, None}
use Rattle.tables.specs.declared.Fault.{Fault}
use Rattle.tables.specs.declared.Verdict.TheVariants.{the_data as Verdict, Sound, Refused}

-- the slice at that index, counted from the number `first`
abbrev pub refused_at : ℕ → Option ℕ → Verdict
refused_at first (Some k) = Refused Fault.Slice (first + k)
refused_at first None = Sound

-- slices of these lengths, numbered from `first` on, for n machines
abbrev pub fit_verdict : ℕ → ℕ → List ℕ → Verdict
fit_verdict n first lengths = refused_at first (position (λ len. not (len == n)) lengths)
