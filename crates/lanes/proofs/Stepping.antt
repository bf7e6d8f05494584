-- A walk down one list: each step stays on lists and goes down in number.
use mathlib.Core.Path.{◌≡◌, sym, ◌∙◌}
use mathlib.Core.List.{List}
use mathlib.Core.Logic.{dite}
use Prim.Native.Nat.{ℕ, suc, ◌-◌, ◌<◌, ◌≤◌}
use native.Mathlib.Decide.{dec_lt}
use native.Mathlib.Omega.{arith}
use lib.ListN.{length}
use Rattle.plain.specs.Table.{at}
use Rattle.lanes.specs.Depths.{Listed, Begins, Falls}

is : {x v : ℕ} → 1 ≤ x → v ≡ x - 1 → x ≡ suc v
is s e = omega arith

module _ (next : List ℕ) {x v : ℕ} (b : Begins next x) (s : 1 ≤ x) (e : v ≡ x - 1) where
  pub step_in : v < length next
  step_in = (b v (is s e)).0

  module _ (f : Falls next) {y : ℕ} (q : y ≡ at next v) where
    to : (w : ℕ) → y ≡ suc w → (w < v) × Listed next w
    to w g = f v w step_in (b v (is s e)).1 (sym q ∙ g)

    pub step_begins : Begins next y
    step_begins w g = let (l, p) = to w g in (omega (arith, l, step_in), p)

    pub step_less : y < x
    step_less = dite (dec_lt y x) (λ l. l) λ n.
        let g : y ≡ suc (y - 1) = omega arith in
        omega (arith, (to (y - 1) g).0)
