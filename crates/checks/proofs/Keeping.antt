-- What the test of all rules says of a machine.
use mathlib.Core.Path.{◌≡◌}
use mathlib.Core.Bool.{Bool, not}
use mathlib.Core.List.{List}
use Prim.Native.Nat.{ℕ}
use Rattle.tables.specs.Rules.{keeps, breaks}
use Rattle.tables.specs.Tables.{Tables}
use Rattle.tables.specs.Tree.{hub}

-- r is what the test of all rules says of machine v
pub broken : (up : List ℕ) (t : Tables) (v : ℕ) {h : ℕ} {r b : Bool} → h ≡ hub up → r ≡ keeps h up t v → not r ≡ b → breaks up t v ≡ b
unfolding breaks
broken up t v k e f = rw (← k, ← e) f
