-- The depths of a tree, read from their table.
use mathlib.Core.Path.{◌≡◌, ap, ◌∙◌}
use mathlib.Core.List.{List}
use Prim.Native.Nat.{ℕ, ◌<◌}
use lib.ListN.{length}
use Rattle.plain.specs.Table.{at, tabulate}
use Rattle.plain.proofs.Tabulate.{length-tabulate, at-tabulate}
use Rattle.tables.specs.Tree.{depth_of}

module _ (up : List ℕ) {depth : List ℕ} (e : depth ≡ tabulate (length up) (depth_of up)) where
  pub depth_size : length depth ≡ length up
  depth_size = ap length e ∙ length-tabulate (length up) (depth_of up)

  pub depth_at : (x : ℕ) → x < length up → at depth x ≡ depth_of up x
  depth_at x h = ap (λ d. at d x) e ∙ at-tabulate (length up) (depth_of up) x h
