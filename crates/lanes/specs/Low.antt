-- The least depth that rings reach from under each machine, and the marks that it asks.
use Rattle.std.specs.Prelude.{◌≡◌, cond, List, ◌⊎◌, ℕ, ◌+◌, ◌*◌, ◌-◌, ◌<◌, ◌≤◌, max, min, length, set, leb, eqb}
use Rattle.plain.specs.Table.{at, total}
use Rattle.rings.specs.Tree.{Under}
use Rattle.tables.specs.Tree.{depth_of}
use Rattle.tables.specs.AsTree.{tree_of}
use Rattle.lanes.specs.Seen.{none}
use Rattle.lanes.specs.Depths.{Listed, Past}
use Rattle.lanes.specs.Laying.{Walkable}

-- the mark that a ring which reaches depth l asks of a machine at depth d below it
unfoldable pub asked : ℕ → ℕ → ℕ
asked l d = cond (leb d l) 0 (cond (eqb (d - l) 1) 1 2)

-- the entry of v is z, where that is less
abbrev pub lowered : List ℕ → ℕ → ℕ → List ℕ
lowered low v z = set low v (min (at low v) z)

-- the mark of v is k at least, and rose by so much
pub record Lifted (mark mark' : List ℕ) (v k rise : ℕ) : Type 0 where
  pub marks : mark' ≡ set mark v (max (at mark v) k)
  pub is : rise ≡ max (at mark v) k - at mark v

-- v, of depth k, is lifted to what its entry asks, and hands the entry up
pub record Handed (up low low' mark mark' : List ℕ) (v k rise : ℕ) : Type 0 where
  pub lows : low' ≡ lowered low (at up v) (at low v)
  pub lifted : Lifted mark mark' v (asked (at low v) k) rise

-- what a sweep over the lists takes: whoever is on no list knows of no ring
pub record Sweepable (up next low mark : List ℕ) : Type 0 where
  pub walk : Walkable up low mark
  pub unlisted : (v : ℕ) → v < length up → at next v ≡ none → depth_of up v ≤ at low v

-- some machine under v has l as its entry
pub record Known (up low : List ℕ) (v l : ℕ) : Type 0 where
  pub from : ℕ
  pub low_in : from < length up
  pub under : Under (tree_of up) v from
  pub is : l ≡ at low from

-- l is the least entry of a machine under v, of those on lists
pub record LeastUnder (up next low : List ℕ) (v l : ℕ) : Type 0 where
  pub known : Known up low v l
  pub least : (u : ℕ) → u < length up → Listed next u → Under (tree_of up) v u → l ≤ at low u

-- each machine is asked what the least entry under it asks
pub record Swept (up next low mark mark' : List ℕ) (rise : ℕ) : Type 0 where
  pub size : length mark' ≡ length up
  pub marked : (v : ℕ) → v < length up → (l : ℕ) × LeastUnder up next low v l × (at mark' v ≡ max (at mark v) (asked l (depth_of up v)))
  pub sum : total mark' ≡ total mark + rise

-- whoever is on deeper lists is passed, and on the list of depth k whoever the sweep came by
abbrev pub Passed : List ℕ → ℕ → ℕ → ℕ → Type 0
Passed up k x u = (k < depth_of up u) ⊎ Past (depth_of up) k x u

-- the sweep stands on the list of depth k, before the machine that x is one more than; the marks rose by rise so far
pub record Sweeping (up next low₀ mark₀ low mark : List ℕ) (k x rise : ℕ) : Type 0 where
  pub lows : length low ≡ length up
  pub marks : length mark ≡ length up
  pub falls : (v : ℕ) → at low v ≤ at low₀ v
  pub known : (v : ℕ) → v < length up → Known up low₀ v (at low v)
  pub closed : (v : ℕ) → v < length up → Listed next v → Passed up k x v → at low (at up v) ≤ at low v
  pub marked : (v : ℕ) → v < length up → Listed next v → Passed up k x v → at mark v ≡ max (at mark₀ v) (asked (at low v) (depth_of up v))
  pub rest : (v : ℕ) → v < length up → at next v ≡ none ⊎ ¬ Passed up k x v → at mark v ≡ at mark₀ v
  pub blank : (v : ℕ) → v < length up → at next v ≡ none → at low v ≡ at low₀ v
  pub sum : total mark ≡ total mark₀ + rise

-- from x on to the list's end, whatever was swept before
pub record SweptFrom (up next low low' mark mark' : List ℕ) (k x r : ℕ) : Type 0 where
  pub sweeps : (low₀ mark₀ : List ℕ) (rise : ℕ) → Sweeping up next low₀ mark₀ low mark (k + 1) 0 rise → Sweeping up next low₀ mark₀ low' mark' k x (rise + r)
  pub small : r + 2 * x ≤ 2 * length up

abbrev pub LevelSwept : List ℕ → List ℕ → List ℕ → List ℕ → List ℕ → List ℕ → ℕ → ℕ → Type 0
LevelSwept up next low low' mark mark' k r = SweptFrom up next low low' mark mark' k 0 r
