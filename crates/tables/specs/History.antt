-- Histories, batches one after another, and the tables that accepted ones leave.
use Rattle.std.specs.Prelude.{◌≡◌, List, [], ◌∷◌, ◌++◌, ℕ, length}
use Rattle.plain.specs.Member.{◌∈◌}
use Rattle.graph.specs.Cable.{Cables}
use Rattle.tables.specs.Verdict.{Sound}
use Rattle.tables.specs.Tree.{alone_verdict}
use Rattle.tables.specs.Tables.{Tables, fresh}
use Rattle.tables.specs.Batch.{pairs, batch_verdict, after}
use Rattle.tables.specs.Links.{Stands, tables_with}

abbrev pub History : Type 0
History = List (List ℕ)

-- each batch of the history is accepted on a site of n machines
abbrev pub Accepted : ℕ → History → Type 0
Accepted n h = (batch : List ℕ) → batch ∈ h → batch_verdict n batch ≡ Sound

-- all links of the history
unfoldable pub links : History → Cables
links [] = []
links (batch ∷ h) = pairs batch ++ links h

-- the tables after the history, batch by batch
unfoldable pub leaves : List ℕ → History → Tables → Tables
leaves up [] t = t
leaves up (batch ∷ h) t = leaves up h (after up (pairs batch) t)

-- the tables that the history leaves, from fresh ones
abbrev pub tables : List ℕ → History → Tables
tables up h = leaves up h (fresh up)

-- some history of accepted batches leaves these tables
abbrev pub Left : List ℕ → Tables → Type 0
Left up t = (h : History) × Accepted (length up) h × (tables up h ≡ t)

-- a site that has lived: a tree that is not refused, and batches that are accepted on it
pub record Lived (up : List ℕ) (h : History) : Type 0 where
  pub tree : alone_verdict up ≡ Sound
  pub batches : Accepted (length up) h

-- only the links matter: those of a history stand, its tables are theirs, and links that stand are some history's
pub record OnlyLinks : Type 0 where
  pub stand : (up : List ℕ) (h : History) → Lived up h → Stands up (links h)
  pub leave : (up : List ℕ) (h : History) → tables up h ≡ tables_with up (links h)
  pub lived : (up : List ℕ) (l : Cables) → Stands up l → (h : History) × Lived up h × (links h ≡ l)
