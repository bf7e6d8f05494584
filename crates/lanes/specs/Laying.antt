-- Lanes while they are laid: kids from the deepest machines up, then tops from the hub down. Which kid a machine has matters to speed alone, so
-- nothing is said of it.
use Rattle.std.specs.Prelude.{◌≡◌, List, ◌≢◌, ℕ, ◌<◌, ◌≤◌, length}
use Rattle.plain.specs.Table.{at}
use Rattle.rings.specs.Tree.{Uplink}
use Rattle.tables.specs.Tree.{most_machines, depth_of}
use Rattle.tables.specs.AsTree.{tree_of}
use Rattle.lanes.specs.Depths.{Listed, Lists}
use Rattle.lanes.specs.Lane.{InLane}

-- whole lines of machines on lists: with a machine its up
pub record Ground (up head next : List ℕ) : Type 0 where
  pub lists : Lists (length up) (depth_of up) (length up) head next
  pub upward : {v w : ℕ} → Uplink (tree_of up) v w → Listed next v → Listed next w

-- the lists reach down to so many levels
pub record Levels (up next : List ℕ) (levels : ℕ) : Type 0 where
  pub high : levels ≤ length up
  pub level : (v : ℕ) → v < length up → Listed next v → depth_of up v < levels

-- a machine and its up, with two tables of notes
pub record Noted (up one two : List ℕ) (v : ℕ) : Type 0 where
  pub few : length up ≤ most_machines
  pub here : v < length up
  pub above : at up v < length up
  pub ones : length one ≡ length up
  pub twos : length two ≡ length up

-- a depth k that a list may have, and two tables of notes
pub record ListAt (up one two : List ℕ) (k : ℕ) : Type 0 where
  pub below : k < length up
  pub ones : length one ≡ length up
  pub twos : length two ≡ length up

-- two tables of notes, with an entry a machine
pub record Walkable (up one two : List ℕ) : Type 0 where
  pub ones : length one ≡ length up
  pub twos : length two ≡ length up

-- the top of v's lane is that of its up, where v is the kid there, or v itself
pub data TopFor (up kid top : List ℕ) (v t : ℕ) : Type 0 where
  itself : t ≡ v → TopFor up kid top v t
  as_kid : at up v ≢ v → at kid (at up v) ≡ v → t ≡ at top (at up v) → TopFor up kid top v t

-- the machines on lists that are higher than depth k are in lanes
pub record LanesTo (up next kid top : List ℕ) (k : ℕ) : Type 0 where
  pub tops : length top ≡ length up
  pub lane : (v : ℕ) → v < length up → Listed next v → depth_of up v < k → InLane up top kid v

-- those of depth k are next
pub record LayableAt (up next kid top : List ℕ) (k : ℕ) : Type 0 where
  pub kids : length kid ≡ length up
  pub below : k < length up
  pub lanes : LanesTo up next kid top k
