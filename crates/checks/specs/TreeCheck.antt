-- What the tree check's parts are to answer, and the table of known depths that they fill.
-- These are the contracts of private functions: the public calls do not cite them, so nothing here has to be believed.
use Rattle.std.specs.Prelude.{◌≡◌, ◌&&◌, cond, List, [], ◌∷◌, Option, Some, None, ℕ, ◌<◌, ◌≤◌, length, leb, ltb, eqb}
use Rattle.plain.specs.Search.{least}
use Rattle.plain.specs.Table.{at, tabulate}
use Rattle.tables.specs.Verdict.{checks}
use Rattle.tables.specs.declared.Verdict.TheVariants.{the_data as Verdict, Sound}
use Rattle.tables.specs.Tree.{most_machines, hub, Inside, depth_of, entries_verdict, hubs_verdict, tree_verdict}

-- k, where it is below n
abbrev pub below : ℕ → ℕ → Option ℕ
below n k = cond (ltb k n) (Some k) None

-- the least machine, not below from, that names itself; n, if there is none
abbrev pub hub_from : List ℕ → ℕ → ℕ
hub_from up from = least (length up) (λ v. leb from v && eqb (at up v) v)

-- 3 and 4, which take no climb
unfoldable pub ups_verdict : List ℕ → Verdict
ups_verdict up = checks (entries_verdict up ∷ hubs_verdict up ∷ [])

-- a tree's verdict, before another one
abbrev pub stray_first : List ℕ → Verdict → Verdict
stray_first up v = checks (tree_verdict up ∷ v ∷ [])

-- stands in the table for a depth that is not known: no machine is so deep
abbrev pub unknown : ℕ
unknown = 65535

-- x has a depth in the table
abbrev pub Known : List ℕ → ℕ → Type 0
Known known x = at known x < unknown

-- v reaches the hub, d steps up
pub record Depth (up : List ℕ) (v d : ℕ) : Type 0 where
  pub right : d ≡ depth_of up v
  pub reaches : d < length up

-- every depth in the table is right, and the hub's is there
pub record Held (up known : List ℕ) : Type 0 where
  pub size : length known ≡ length up
  pub depth : (x : ℕ) → x < length up → Known known x → Depth up x (at known x)
  pub top : Known known (hub up)

-- what a climb from v asks
pub record Climbing (up known : List ℕ) (v : ℕ) : Type 0 where
  pub inside : Inside up
  pub held : Held up known
  pub machine : v < length up

-- what laying the depths from v up asks
pub record Laying (up known : List ℕ) (v d : ℕ) : Type 0 where
  pub few : length up ≤ most_machines
  pub climbing : Climbing up known v
  pub depth : Depth up v d

-- what it leaves: v has its depth too
pub record Laid (up known : List ℕ) (v : ℕ) (known' : List ℕ) : Type 0 where
  pub held : Held up known'
  pub kept : (x : ℕ) → Known known x → Known known' x
  pub there : Known known' v

-- what the tree check asks: room for the depths
pub record DepthRoom (up known : List ℕ) : Type 0 where
  pub few : length up ≤ most_machines
  pub size : length known ≡ length up

-- and its reach check: every entry a machine, and there is a hub
pub record Climbable (up known : List ℕ) : Type 0 where
  pub room : DepthRoom up known
  pub inside : Inside up
  pub hub_in : hub up < length up

-- what they leave: the verdict r is v, and where all is well the table has the depths
pub record Reached (v : Verdict) (up known : List ℕ) (r : Verdict) : Type 0 where
  pub verdict : r ≡ v
  pub size : length known ≡ length up
  pub depths : r ≡ Sound → known ≡ tabulate (length up) (depth_of up)
