-- What a cross link does for an uplink: it rings it, and may carry past the machine above.
use Rattle.std.specs.Prelude.{ℕ}
use Rattle.graph.specs.Walk.{Relation}
use Rattle.rings.specs.Tree.{Tree, Under}

-- a link leads from under x to what is not under y
pub record Escape (T : Tree) (L : Relation) (x y : ℕ) : Type 0 where
  pub inner : ℕ
  pub outer : ℕ
  pub link : L inner outer
  pub below : Under T x inner
  pub beyond : ¬ Under T y outer

-- x is ringed: a link leads from under x to what is not under x
abbrev pub Rings : Tree → Relation → ℕ → Type 0
Rings T L x = Escape T L x x

-- x is carried: a link leads from under x to what is not under up x
abbrev pub Carries : Tree → Relation → ℕ → Type 0
Carries T L x = Escape T L x (T.up x)
