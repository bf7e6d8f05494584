-- Each machine by itself: a table of so few entries that every machine's number fits.
use mathlib.Core.Path.{◌≡◌, ◌∙◌}
use Prim.Native.Nat.{ℕ, ◌%◌, ◌≤◌}
use native.Mathlib.Omega.{arith}
use Rattle.std.proofs.Math.Nat.{mod-eq_of_lt}
use Rattle.plain.specs.Table.{tabulate}
use Rattle.plain.proofs.Tabulate.{length-tabulate, at-tabulate, tabulated}
use Rattle.tables.specs.Tree.{most_machines}

pub alone_few : (n : ℕ) → n ≤ most_machines → tabulate n (λ v. v % 65536) ≡ tabulate n (λ v. v)
alone_few n h = tabulated (tabulate n (λ v. v % 65536)) n (λ v. v) (length-tabulate n (λ v. v % 65536)) (λ k b.
    at-tabulate n (λ v. v % 65536) k b ∙ mod-eq_of_lt (omega arith))
