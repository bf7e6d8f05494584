-- Groups: the children of a machine w, joined by the links between what is under them.
use Rattle.std.specs.Prelude.{◌≢◌, ℕ}
use Rattle.graph.specs.Walk.{Relation, Walk}
use Rattle.rings.specs.Tree.{Tree, Uplink, Under}
use Rattle.rings.specs.Ring.{Carries}

-- a link leads from under x to under y, two children of w
pub record Joins (T : Tree) (L : Relation) (w x y : ℕ) : Type 0 where
  pub left : Uplink T x w
  pub right : Uplink T y w
  pub apart : x ≢ y
  pub one : ℕ
  pub two : ℕ
  pub link : L one two
  pub below_left : Under T x one
  pub below_right : Under T y two

-- x and y are of one group of children of w
abbrev pub SameGroup : Tree → Relation → ℕ → ℕ → ℕ → Type 0
SameGroup T L w = Walk (Joins T L w)

-- c is a child of w whose group has no carried member
abbrev pub Stuck : Tree → Relation → ℕ → ℕ → Type 0
Stuck T L w c = Uplink T c w × ((m : ℕ) → SameGroup T L w c m → ¬ Carries T L m)

-- c and d are children of w in two groups
abbrev pub Split : Tree → Relation → ℕ → ℕ → ℕ → Type 0
Split T L w c d = Uplink T c w × Uplink T d w × ¬ SameGroup T L w c d
