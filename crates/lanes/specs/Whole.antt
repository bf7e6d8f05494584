-- A batch by lanes, whole: what it takes and leaves, and what its parts do.
use Rattle.std.specs.Prelude.{◌≡◌, List, ℕ, ◌-◌, ◌<◌, ◌≤◌, length}
use Rattle.plain.specs.Table.{at, tabulate, total}
use Rattle.tables.specs.declared.Verdict.TheVariants.{Sound}
use Rattle.tables.specs.Tree.{most_machines, depth_of}
use Rattle.tables.specs.Tables.{tables_of}
use Rattle.tables.specs.Batch.{pairs, batch_verdict, after}
use Rattle.tables.specs.Demand1.{SoundTree}
use Rattle.lanes.specs.Seen.{none, Lookable}
use Rattle.lanes.specs.Depths.{Listed}
use Rattle.lanes.specs.Laying.{Ground, Levels}
use Rattle.lanes.specs.Forest.{Down}
use Rattle.lanes.specs.Hung.{groupings, Lows}

-- each entry is the name of a group: no greater than its machine, and its own entry. The tables of links that stand have such groups
pub record Named (group : List ℕ) : Type 0 where
  pub down : Down group
  pub self : (x : ℕ) → x < length group → at group (at group x) ≡ at group x

-- what a batch takes: a sound tree with right depths, tables of the right lengths, groups by their names, and numbers that are accepted
pub record Applicable (up depth group mark numbers : List ℕ) : Type 0 where
  pub few : length up ≤ most_machines
  pub tree : SoundTree up
  pub depths : depth ≡ tabulate (length up) (depth_of up)
  pub group_size : length group ≡ length up
  pub mark_size : length mark ≡ length up
  pub named : Named group
  pub batch : batch_verdict (length up) numbers ≡ Sound

-- what it leaves: the tables after the batch, and by how much the marks rose
pub record Applied (up depth group mark batch group' mark' : List ℕ) (r : ℕ) : Type 0 where
  pub tables : tables_of depth group' mark' ≡ after up (pairs batch) (tables_of depth group mark)
  pub rise : r ≡ total mark' - total mark

-- a batch that is accepted; nobody is seen, and no machine is on a list
pub record Bare (up batch low head next : List ℕ) : Type 0 where
  pub look : Lookable up low batch
  pub heads : length head ≡ length up
  pub nexts : length next ≡ length up
  pub empty : (k : ℕ) → at head k ≡ 0
  pub free : (v : ℕ) → v < length up → at next v ≡ none

-- the lines of the ends are on lists, and nobody knows of a ring
pub record Looked (up batch low head next : List ℕ) (count : ℕ) : Type 0 where
  pub ground : Ground up head next
  pub levels : Levels up next count
  pub ends : (j : ℕ) → j < length batch → Listed next (at batch j)
  pub lows : length low ≡ length up
  pub fresh : (v : ℕ) → v < length up → depth_of up v ≤ at low v

-- the groups after the batch, and how high its rings reach
pub record Joined (up group batch group' low : List ℕ) : Type 0 where
  pub names : group' ≡ groupings up batch (length (pairs batch)) group
  pub lows : Lows up batch (length (pairs batch)) low
