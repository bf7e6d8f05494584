-- Demand 3: a renumbering that keeps the number of cables of each pair carries chokes exactly onto chokes; and where a report on three
-- machines or more names no choke machine, any two machines have two different paths that share only their ends.
use Rattle.std.specs.Prelude.{◌≡◌, List, ◌≢◌, ◌⊎◌, ◌↔◌, ℕ, ◌<◌, ◌≤◌, length}
use Rattle.plain.specs.Table.{at}
use Rattle.graph.specs.Cable.{Cables, Linked}
use Rattle.graph.specs.Path.{TwoPaths}
use Rattle.graph.specs.Renumbering.{OneToOne, KeepsCables}
use Rattle.tables.specs.Links.{Stands}
use Rattle.tables.specs.History.{History, Lived, links}
use Rattle.tables.specs.Answer.{Answer}
use Rattle.tables.specs.Outcome.{Outcome}
use Rattle.tables.specs.Report.{Bytes}
use Rattle.tables.specs.Cables.{cables, ChokeMachine, ChokeEnds}
use Rattle.tables.specs.Demand2.{Reported}

-- two sites of equal size, any trees, hubs and links, and a renumbering that keeps none, one, two and more cables of each pair
pub record Renumbered (up : List ℕ) (links : Cables) (up' : List ℕ) (links' : Cables) (f : ℕ → ℕ) : Type 0 where
  pub same_size : length up ≡ length up'
  pub one_to_one : OneToOne (length up) f
  pub keeps : KeepsCables (length up) f (cables up links) (cables up' links')

-- a and b are the two ends of an uplink that the report names, either way round
pub record NamedEnds (up : List ℕ) (r : Outcome Answer Bytes) (a b : ℕ) : Type 0 where
  pub lower : ℕ
  pub machine : lower < length up
  pub byte : at r.lent.links lower ≡ 1
  pub ends : ((a ≡ lower) × (b ≡ at up lower)) ⊎ ((b ≡ lower) × (a ≡ at up lower))

-- reports go onto each other: machines as machines, uplinks as the pairs that they join
pub record ReportsCarried (up up' : List ℕ) (f : ℕ → ℕ) (r r' : Outcome Answer Bytes) : Type 0 where
  pub machines : (w : ℕ) → w < length up → (at r.lent.machines w ≢ 0) ↔ (at r'.lent.machines (f w) ≢ 0)
  pub uplinks : (a b : ℕ) → a < length up → b < length up → NamedEnds up r a b ↔ NamedEnds up' r' (f a) (f b)

-- chokes go exactly onto chokes, and so do the reports
pub record Carried (up : List ℕ) (links : Cables) (up' : List ℕ) (links' : Cables) (f : ℕ → ℕ) : Type 0 where
  pub machines : (w : ℕ) → w < length up → ChokeMachine up links w ↔ ChokeMachine up' links' (f w)
  pub uplinks : (a b : ℕ) → a < length up → b < length up → ChokeEnds up links a b ↔ ChokeEnds up' links' (f a) (f b)
  pub reports : (r r' : Outcome Answer Bytes) → Reported up links r → Reported up' links' r' → ReportsCarried up up' f r r'

-- where a report on three machines or more names no machine, any two have two different paths that share only their ends
abbrev pub TwoWays : List ℕ → Cables → Type 0
TwoWays up links = 3 ≤ length up → (r : Outcome Answer Bytes) → Reported up links r → ((w : ℕ) → w < length up → at r.lent.machines w ≡ 0)
    → (u v : ℕ) → u < length up → v < length up → u ≢ v → TwoPaths (Linked (cables up links)) u v

pub record Demand3 : Type 0 where
  -- after any runs of batches
  pub after_batches : (up : List ℕ) (h : History) (up' : List ℕ) (h' : History) (f : ℕ → ℕ) → Lived up h → Lived up' h'
      → Renumbered up (links h) up' (links h') f → Carried up (links h) up' (links h') f
  pub two_paths : (up : List ℕ) (h : History) → Lived up h → TwoWays up (links h)
  -- with any links that stand, however they came
  pub with_links : (up : List ℕ) (l : Cables) (up' : List ℕ) (l' : Cables) (f : ℕ → ℕ) → Stands up l → Stands up' l'
      → Renumbered up l up' l' f → Carried up l up' l' f
  pub two_paths_with_links : (up : List ℕ) (l : Cables) → Stands up l → TwoWays up l
