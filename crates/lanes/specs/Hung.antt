-- What one link, and a batch of links, leave of the groups and of the least depths.
use Rattle.std.specs.Prelude.{◌≡◌, List, ◌⊎◌, ℕ, zero, suc, ◌+◌, ◌*◌, ◌<◌, ◌≤◌, length}
use Rattle.plain.specs.Table.{at}
use Rattle.tables.specs.declared.Verdict.TheVariants.{Sound}
use Rattle.tables.specs.Tree.{depth_of}
use Rattle.tables.specs.Link.{meet, grouped}
use Rattle.tables.specs.Batch.{pairs, batch_verdict}
use Rattle.lanes.specs.Lane.{Laned, Hops}
use Rattle.lanes.specs.Forest.{Down, Forest}
use Rattle.lanes.specs.Low.{lowered}

-- a link over a tree with its lanes, groups and least depths
pub record Hangable (up top kid group low : List ℕ) (a b : ℕ) : Type 0 where
  pub hops : Hops up top kid a b
  pub groups : length group ≡ length up
  pub down : Down group
  pub lows : length low ≡ length up

-- the groups of the link are joined, and both ends know how high its ring reaches
pub record Hung (up group group' low low' : List ℕ) (a b : ℕ) : Type 0 where
  pub down : Down group'
  pub joins : (flat : List ℕ) → Forest group flat → Forest group' (grouped up a b flat)
  pub lows : low' ≡ lowered (lowered low a (depth_of up (meet up a b))) b (depth_of up (meet up a b))

-- link j of a batch, and the depth that its ring reaches
abbrev pub one : List ℕ → ℕ → ℕ
one batch j = at batch (2 * j)

abbrev pub two : List ℕ → ℕ → ℕ
two batch j = at batch (2 * j + 1)

abbrev pub reached : List ℕ → List ℕ → ℕ → ℕ
reached up batch j = depth_of up (meet up (one batch j) (two batch j))

-- the groups after the first i links
unfoldable pub groupings : List ℕ → List ℕ → ℕ → List ℕ → List ℕ
groupings up batch zero group = group
groupings up batch (suc i) group = grouped up (one batch i) (two batch i) (groupings up batch i group)

-- l is the depth that one of the first i links reaches, and v is an end of it
pub record Source (up batch : List ℕ) (i v l : ℕ) : Type 0 where
  pub link : ℕ
  pub before : link < i
  pub end : (v ≡ one batch link) ⊎ (v ≡ two batch link)
  pub is : l ≡ reached up batch link

-- each end of the first i links knows how high their rings reach, and nobody knows of more
pub record Lows (up batch : List ℕ) (i : ℕ) (low : List ℕ) : Type 0 where
  pub size : length low ≡ length up
  pub left : (j : ℕ) → j < i → at low (one batch j) ≤ reached up batch j
  pub right : (j : ℕ) → j < i → at low (two batch j) ≤ reached up batch j
  pub source : (v : ℕ) → v < length up → (depth_of up v ≤ at low v) ⊎ Source up batch i v (at low v)

-- a batch that is accepted, over a tree with the lanes of its ends, and nobody knows of a ring
pub record Batched (up top kid group low batch : List ℕ) : Type 0 where
  pub laned : (j : ℕ) → j < length batch → Laned up top kid (at batch j)
  pub groups : length group ≡ length up
  pub forest : Forest group group
  pub lows : length low ≡ length up
  pub fresh : (v : ℕ) → v < length up → depth_of up v ≤ at low v
  pub accepted : batch_verdict (length up) batch ≡ Sound

-- the first i links are hung
pub record Hanging (up batch group₀ group low : List ℕ) (i : ℕ) : Type 0 where
  pub far : 2 * i ≤ length batch
  pub groups : length group ≡ length up
  pub down : Down group
  pub forest : Forest group (groupings up batch i group₀)
  pub lows : Lows up batch i low

-- and all of them
abbrev pub HungAll : List ℕ → List ℕ → List ℕ → List ℕ → List ℕ → Type 0
HungAll up batch group₀ group low = Hanging up batch group₀ group low (length (pairs batch))
