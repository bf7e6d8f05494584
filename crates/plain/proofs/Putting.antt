-- An entry of a list after one was put: the new one, or one as it was.
use mathlib.Core.Path.{◌≡◌, ap, ◌∙◌}
use mathlib.Core.List.{List}
use mathlib.Core.Logic.{◌≢◌, dite}
use Prim.Native.Nat.{ℕ, ◌<◌}
use native.Mathlib.Decide.{ℕ_discrete}
use lib.ListN.{length, set}
use lib.Seq.{get_or-set_same, get_or-set_other}
use Rattle.plain.specs.Table.{at}

pub data Put (l : List ℕ) (i v x r : ℕ) : Type 0 where
  here : x ≡ i → r ≡ v → Put l i v x r
  there : x ≢ i → r ≡ at l x → Put l i v x r

pub put : (l : List ℕ) (i v x : ℕ) → i < length l → Put l i v x (at (set l i v) x)
put l i v x h = dite (ℕ_discrete x i)
    (λ e. here e (ap (at (set l i v)) e ∙ get_or-set_same l i v 0 h))
    (λ o. there o (get_or-set_other l i x v 0 o))
