-- Groups as a forest inside their own table: an entry is a machine of the same group that is no greater; the name of a group is its own entry.
use Rattle.std.specs.Prelude.{◌≡◌, List, ℕ, ◌<◌, ◌≤◌, length}
use Rattle.plain.specs.Table.{at}
use Rattle.tables.specs.Tree.{most_machines}
use Rattle.tables.specs.Link.{joined}

-- no entry is greater than its machine
pub record Down (g : List ℕ) : Type 0 where
  pub le : (x : ℕ) → x < length g → at g x ≤ x

-- g is such a table of the groups that flat names
pub record Forest (g flat : List ℕ) : Type 0 where
  pub size : length g ≡ length flat
  pub down : Down g
  pub same : (x : ℕ) → x < length g → at flat (at g x) ≡ at flat x
  pub own : (x : ℕ) → x < length g → at g x ≡ x → at flat x ≡ x

-- r is the name of c's group in whatever groups the table has, and it has the same ones after
pub record Found (g g' : List ℕ) (c r : ℕ) : Type 0 where
  pub down : Down g'
  pub small : r ≤ c
  pub self : at g' r ≡ r
  pub keeps : (flat : List ℕ) → Forest g flat → Forest g' flat × (r ≡ at flat c)

-- two machines of a table whose entries go down
pub record Unitable (g : List ℕ) (c d : ℕ) : Type 0 where
  pub few : length g ≤ most_machines
  pub down : Down g
  pub one : c < length g
  pub two : d < length g

-- the groups of c and d are made one
pub record United (g g' : List ℕ) (c d : ℕ) : Type 0 where
  pub down : Down g'
  pub joins : (flat : List ℕ) → Forest g flat → Forest g' (joined c d flat)

-- each entry is the name of its group
abbrev pub Flattened : List ℕ → List ℕ → Type 0
Flattened g g' = (flat : List ℕ) → Forest g flat → g' ≡ flat
