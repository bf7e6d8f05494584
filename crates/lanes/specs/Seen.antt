-- The machines that a batch can change: those on the lines of its ends. Each of them has an entry among the least depths, at first its own depth.
-- These are the contracts of private functions: nobody has to believe them. So it is with every file here but Whole.
use Rattle.std.specs.Prelude.{◌≡◌, List, ◌≢◌, ◌⊎◌, ℕ, ◌<◌, ◌≤◌, length}
use Rattle.plain.specs.Table.{at}
use Rattle.rings.specs.Tree.{Uplink}
use Rattle.tables.specs.declared.Verdict.TheVariants.{Sound}
use Rattle.tables.specs.Tree.{depth_of}
use Rattle.tables.specs.AsTree.{tree_of}
use Rattle.tables.specs.Batch.{batch_verdict}

-- the entry of a machine that no line has come by
abbrev pub none : ℕ
none = 65535

abbrev pub Seen : List ℕ → ℕ → Type 0
Seen low v = at low v ≢ none

-- whole lines are seen, with a machine its up, and nobody knows of a ring yet
pub record Fresh (up low : List ℕ) : Type 0 where
  pub size : length low ≡ length up
  pub upward : {v w : ℕ} → Uplink (tree_of up) v w → Seen low v → Seen low w
  pub own : (v : ℕ) → v < length up → Seen low v → at low v ≡ depth_of up v

-- a machine v of a tree
pub record Seeable (up low : List ℕ) (v : ℕ) : Type 0 where
  pub fresh : Fresh up low
  pub inside : v < length up

-- the line of v is seen as well, and nobody below v
pub record SeenFrom (up low low' : List ℕ) (v : ℕ) : Type 0 where
  pub fresh : Fresh up low'
  pub here : Seen low' v
  pub kept : (x : ℕ) → Seen low x → Seen low' x
  pub no_deeper : (x : ℕ) → Seen low' x → Seen low x ⊎ (depth_of up x ≤ depth_of up v)

-- a batch that is accepted, and nobody is seen
pub record Lookable (up low batch : List ℕ) : Type 0 where
  pub size : length low ≡ length up
  pub blank : (v : ℕ) → v < length up → at low v ≡ none
  pub accepted : batch_verdict (length up) batch ≡ Sound

-- the lines of the first i numbers of a batch are seen, and the machines seen have at most so many levels
pub record SeenTo (up batch low : List ℕ) (levels i : ℕ) : Type 0 where
  pub far : i ≤ length batch
  pub fresh : Fresh up low
  pub ends : (j : ℕ) → j < i → Seen low (at batch j)
  pub high : levels ≤ length up
  pub level : (x : ℕ) → x < length up → Seen low x → depth_of up x < levels

-- every machine has its depth as its entry, and there are just so many levels
pub record SeenEvery (depth low : List ℕ) (levels : ℕ) : Type 0 where
  pub copied : low ≡ depth
  pub level : (v : ℕ) → v < length depth → at depth v < levels
  pub least : (n : ℕ) → ((v : ℕ) → v < length depth → at depth v < n) → levels ≤ n
