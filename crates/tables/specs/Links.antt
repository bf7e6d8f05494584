-- A site as it stands: a tree with its cross links, and the tables that these leave.
use Rattle.std.specs.Prelude.{◌≡◌, List, ◌≢◌, ℕ, ◌<◌, length}
use Rattle.plain.specs.Member.{◌∈◌}
use Rattle.graph.specs.Cable.{Cables}
use Rattle.tables.specs.Verdict.{Sound}
use Rattle.tables.specs.Tree.{alone_verdict}
use Rattle.tables.specs.Tables.{Tables, fresh}
use Rattle.tables.specs.Batch.{ends_verdict, after}

-- both ends of a link are machines, and differ
pub record Good (n : ℕ) (p : ℕ × ℕ) : Type 0 where
  pub one : p.0 < n
  pub two : p.1 < n
  pub apart : p.0 ≢ p.1

abbrev pub AllGood : ℕ → Cables → Type 0
AllGood n links = (p : ℕ × ℕ) → p ∈ links → Good n p

-- a tree that is not refused, and links none of which is
pub record Stands (up : List ℕ) (links : Cables) : Type 0 where
  pub tree : alone_verdict up ≡ Sound
  pub ends : ends_verdict (length up) 0 links ≡ Sound

-- the tables that the links leave, from fresh ones
abbrev pub tables_with : List ℕ → Cables → Tables
tables_with up links = after up links (fresh up)

-- links that stand and leave these tables
pub record SiteOf (up : List ℕ) (t : Tables) : Type 0 where
  pub links : Cables
  pub stands : Stands up links
  pub left : tables_with up links ≡ t
