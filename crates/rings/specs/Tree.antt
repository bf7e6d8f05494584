-- A tree of uplinks: each machine but the hub has one, and they lead to the hub.
use Rattle.std.specs.Prelude.{◌≡◌, ◌≢◌, ℕ, ◌<◌}
use Rattle.graph.specs.Walk.{Walk}

pub record Tree : Type 0 where
  pub size : ℕ
  pub hub : ℕ
  pub up : ℕ → ℕ

-- a is a machine other than the hub, and its uplink goes to b
pub record Uplink (T : Tree) (a b : ℕ) : Type 0 where
  pub low : a < T.size
  pub other : a ≢ T.hub
  pub to : T.up a ≡ b

-- a is under x: x is a, or is met on the way up from a
abbrev pub Under : Tree → ℕ → ℕ → Type 0
Under T x a = Walk (Uplink T) a x

-- the laws of a tree: an uplink leads to a machine, and to one of a lower rank
pub record Rooted (T : Tree) (rank : ℕ → ℕ) : Type 0 where
  pub low : {a b : ℕ} → Uplink T a b → b < T.size
  pub falls : {a b : ℕ} → Uplink T a b → rank b < rank a

-- w is the lowest common machine of a and b: both are under it, and it is under whatever both are under
pub record Lowest (T : Tree) (a b w : ℕ) : Type 0 where
  pub left : Under T w a
  pub right : Under T w b
  pub lowest : (z : ℕ) → Under T z a → Under T z b → Under T z w
