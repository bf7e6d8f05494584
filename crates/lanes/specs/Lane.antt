-- Lanes: a lane is a piece of some machine's line, and known by its top, its highest machine.
use Rattle.std.specs.Prelude.{◌≡◌, List, Option, Some, MatchOption, ℕ, ◌<◌, length}
use Rattle.plain.specs.Table.{at}
use Rattle.rings.specs.Tree.{Uplink, Under}
use Rattle.tables.specs.AsTree.{tree_of}
use Rattle.tables.specs.Link.{meet}

-- v is the top of its lane, or stands in the lane of its up, as the kid of its up there
pub data InLane (up top kid : List ℕ) (v : ℕ) : Type 0 where
  highest : at top v ≡ v → InLane up top kid v
  along : Uplink (tree_of up) v (at up v) → at top (at up v) ≡ at top v → at kid (at up v) ≡ v → InLane up top kid v

-- every machine on the line of v is in a lane
abbrev pub Laned : List ℕ → List ℕ → List ℕ → ℕ → Type 0
Laned up top kid v = (z : ℕ) → Under (tree_of up) z v → InLane up top kid z

-- two machines, with the lanes of both lines
pub record Hops (up top kid : List ℕ) (a b : ℕ) : Type 0 where
  pub one : a < length up
  pub two : b < length up
  pub left : Laned up top kid a
  pub right : Laned up top kid b

-- two machines, with a depth and a kid for each machine
pub record Stand (depth kid : List ℕ) (x y : ℕ) : Type 0 where
  pub left : x < length depth
  pub right : y < length depth
  pub kids : length kid ≡ length depth

-- two climbs that stand in one lane, at x and y, and came by c and d last: the higher of x and y is w, and below it the other's arm ends at the kid
pub data Closes (depth kid : List ℕ) (x : ℕ) (c : Option ℕ) (y : ℕ) (d : Option ℕ) (w : ℕ) (c' d' : Option ℕ) : Type 0 where
  left_higher : at depth x < at depth y → w ≡ x → c' ≡ c → d' ≡ Some (at kid x) → Closes depth kid x c y d w c' d'
  right_higher : at depth y < at depth x → w ≡ y → c' ≡ Some (at kid y) → d' ≡ d → Closes depth kid x c y d w c' d'
  level : at depth x ≡ at depth y → w ≡ x → c' ≡ c → d' ≡ d → Closes depth kid x c y d w c' d'

-- c is the last machine below x on the line of a; none where the climb is at a still
abbrev pub Last : List ℕ → ℕ → ℕ → Option ℕ → Type 0
Last up a x c = MatchOption c (a ≡ x) (λ v. Uplink (tree_of up) v x × Under (tree_of up) v a)

-- the lines of a and b meet at w, and c and d are the highest machines of their arms; none, where an arm is empty
pub record MetAt (up : List ℕ) (a b w : ℕ) (c d : Option ℕ) : Type 0 where
  pub meets : w ≡ meet up a b
  pub left : Last up a w c
  pub right : Last up b w d
