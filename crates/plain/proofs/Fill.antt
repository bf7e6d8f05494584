-- A slice filled from its front by a rule: the first i entries go by it, and at the end the slice is the list by that rule.
use mathlib.Core.Path.{◌≡◌}
use mathlib.Core.List.{List}
use Prim.Native.Nat.{ℕ, ◌<◌, ◌≤◌}
use native.Mathlib.Omega.{arith}
use lib.ListN.{length}
use Rattle.plain.specs.Table.{at, tabulate}
use Rattle.plain.proofs.Tabulate.{tabulated}

-- the first i entries go by f
abbrev pub Filled : List ℕ → ℕ → (ℕ → ℕ) → Type 0
Filled l i f = (k : ℕ) → k < i → at l k ≡ f k

-- of the slice, at first l₀, the first i entries go by f
pub record Filling (l₀ l : List ℕ) (i : ℕ) (f : ℕ → ℕ) : Type 0 where
  pub le : i ≤ length l₀
  pub size : length l ≡ length l₀
  pub done : Filled l i f

pub fill_end : {l₀ l : List ℕ} {i : ℕ} {f : ℕ → ℕ} → length l₀ ≤ i → Filling l₀ l i f → l ≡ tabulate (length l₀) f
fill_end {l₀} {l} {i} {f} h a = tabulated l (length l₀) f a.size (λ k b. a.done k (omega arith))
