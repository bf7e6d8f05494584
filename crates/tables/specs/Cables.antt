-- The cables of a site, and its chokes by taking out alone: no table is looked at.
use Rattle.std.specs.Prelude.{◌≡◌, cond, List, [], ◌∷◌, ◌++◌, ◌≢◌, ◌⊎◌, ℕ, zero, suc, ◌<◌, length, eqb}
use Rattle.plain.specs.Table.{at}
use Rattle.graph.specs.Walk.{Walk}
use Rattle.graph.specs.Choke.{Choke}
use Rattle.graph.specs.Cable.{Cables, Linked, less}
use Rattle.tables.specs.Tree.{hub}

-- the uplinks of the machines below k; the hub has none
unfoldable pub uplinks : List ℕ → ℕ → Cables
uplinks up zero = []
uplinks up (suc v) = cond (eqb v (hub up)) (uplinks up v) ((v, at up v) ∷ uplinks up v)

-- all cables of the site: the uplinks, then the cross links, each one a cable
abbrev pub cables : List ℕ → Cables → Cables
cables up links = uplinks up (length up) ++ links

-- taking machine w out leaves two other machines with no path between them
abbrev pub ChokeMachine : List ℕ → Cables → ℕ → Type 0
ChokeMachine up links = Choke (length up) (Linked (cables up links))

-- v has an uplink, and taking that one cable out parts its two ends
pub record ChokeUplink (up : List ℕ) (links : Cables) (v : ℕ) : Type 0 where
  pub machine : v < length up
  pub other : v ≢ hub up
  pub parted : ¬ Walk (Linked (less (cables up links) v (at up v))) v (at up v)

-- a and b are the two ends of a choke uplink, either way round
pub record ChokeEnds (up : List ℕ) (links : Cables) (a b : ℕ) : Type 0 where
  pub lower : ℕ
  pub choke : ChokeUplink up links lower
  pub ends : ((a ≡ lower) × (b ≡ at up lower)) ⊎ ((b ≡ lower) × (a ≡ at up lower))
