-- The calls go from history to history, runs of calls, the limits, and the codes.
use Rattle.std.specs.Prelude.{◌≡◌, List, [], ◌∷◌, ◌++◌, map, ◌≢◌, ◌↔◌, ℕ, ◌*◌, ◌-◌, ◌%◌, ◌≤◌, length}
use Rattle.plain.specs.Table.{total}
use Rattle.graph.specs.Cable.{Cables}
use Rattle.tables.specs.Verdict.{Fault, number_of, faults, Sound, Refused}
use Rattle.tables.specs.Answer.{done, refusal}
use Rattle.tables.specs.Tree.{size_verdict, alone_verdict}
use Rattle.tables.specs.Tables.{Tables, lengths_verdict}
use Rattle.tables.specs.Batch.{pairs, numbers_verdict, batch_verdict}
use Rattle.tables.specs.Links.{Stands, tables_with}
use Rattle.tables.specs.History.{History, Accepted, Lived, tables}
use Rattle.tables.specs.Outcome.{outcome, lent_by, start_of, add_of}

-- over t Add is refused only where the batch is, and leaves t; else it is done, leaves t', and its value is what the marks, added up, rose by
pub record Adds (up batch : List ℕ) (t t' : Tables) : Type 0 where
  pub accepted : batch_verdict (length up) batch ≡ Sound → add_of up batch t ≡ outcome (done (total t'.mark - total t.mark)) t'
  pub refused : (why : Fault) (place : ℕ) → batch_verdict (length up) batch ≡ Refused why place → add_of up batch t ≡ outcome (refusal why place) t
  pub rises : total t.mark ≤ total t'.mark

-- one Add after another, each over what the one before it left
unfoldable pub added : List ℕ → History → Tables → Tables
added up [] t = t
added up (batch ∷ run) t = added up run (add_of up batch t).lent

-- the history of a run: its batches that are accepted on n machines, in their order
unfoldable pub accepted_of : ℕ → History → History
accepted_of n [] = []
accepted_of n (batch ∷ run) = let h = accepted_of n run in lent_by (batch_verdict n batch) h (batch ∷ h)

-- that is: accepted batches are all kept, and a refused one makes no difference
pub record HistoryOfRun : Type 0 where
  pub all_kept : (n : ℕ) (h : History) → Accepted n h → accepted_of n h ≡ h
  pub left_out : (n : ℕ) (g h : History) (batch : List ℕ) (why : Fault) (place : ℕ) → batch_verdict n batch ≡ Refused why place
      → accepted_of n (g ++ (batch ∷ h)) ≡ accepted_of n (g ++ h)

-- what Start, and then an Add for each batch, leave of lent tables
abbrev pub ran : List ℕ → History → Tables → Tables
ran up run t = added up run (start_of up t).lent

-- from nothing to the empty history, from a history to the longer one, and from links to these with those of the batch; so the calls of a
-- run, one after another, leave the tables of its accepted batches
pub record CallsLive : Type 0 where
  pub start : (up : List ℕ) (t : Tables) → alone_verdict up ≡ Sound → lengths_verdict up t ≡ Sound → start_of up t ≡ outcome (done (length up)) (tables up [])
  pub after_batches : (up : List ℕ) (h : History) → Lived up h → (batch : List ℕ) → Adds up batch (tables up h) (tables up (h ++ (batch ∷ [])))
  pub with_links : (up : List ℕ) (l : Cables) → Stands up l → (batch : List ℕ) → Adds up batch (tables_with up l) (tables_with up (l ++ pairs batch))
  pub all_calls : (up : List ℕ) (run : History) (t : Tables) → alone_verdict up ≡ Sound → lengths_verdict up t ≡ Sound → ran up run t ≡ tables up (accepted_of (length up) run)

-- the codes are 1 to 14 and 27; all that is done has 0, and no fault has
pub record Codes : Type 0 where
  pub zero : (value : ℕ) → (done value).code ≡ 0
  pub in_order : map number_of faults ≡ 1 ∷ 2 ∷ 3 ∷ 4 ∷ 5 ∷ 6 ∷ 7 ∷ 8 ∷ 9 ∷ 10 ∷ 11 ∷ 12 ∷ 13 ∷ 14 ∷ 27 ∷ []
  pub not_done : (why : Fault) → number_of why ≢ 0

-- 1 to 4,096 machines; an even number of numbers, at most 2,048. A refusal's value is the length that is refused
pub record Limits : Type 0 where
  pub machines : (n : ℕ) → (size_verdict n ≡ Sound) ↔ ((1 ≤ n) × (n ≤ 4096))
  pub links : (k : ℕ) → (numbers_verdict k ≡ Sound) ↔ ((k % 2 ≡ 0) × (k ≤ 2 * 1024))
  pub machines_value : (n : ℕ) (why : Fault) (place : ℕ) → size_verdict n ≡ Refused why place → (why ≡ Fault.Size) × (place ≡ n)
  pub links_value : (k : ℕ) (why : Fault) (place : ℕ) → numbers_verdict k ≡ Refused why place → (why ≡ Fault.Length) × (place ≡ k)
