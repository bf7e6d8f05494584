-- How often labels can move: the bytes of the report, over a run of batches with a report after Start and after each Add.
use Rattle.std.specs.Prelude.{◌≡◌, not, List, [], ◌∷◌, ◌++◌, ◌⊎◌, ℕ, suc, ◌+◌, ◌≤◌, length, eqb}
use Rattle.plain.specs.Search.{count}
use Rattle.plain.specs.Table.{at}
use Rattle.tables.specs.Verdict.{Sound}
use Rattle.tables.specs.Tree.{alone_verdict}
use Rattle.tables.specs.Tables.{Tables, lengths_verdict}
use Rattle.tables.specs.History.{History}
use Rattle.tables.specs.Report.{Bytes}
use Rattle.tables.specs.Outcome.{start_of, add_of, report_of}
use Rattle.tables.specs.Calls.{ran}
use Rattle.tables.specs.Work.{work}

-- the labels: what Report leaves in its outputs o. It ignores what they held, so the same o serves for every report
abbrev pub labels : List ℕ → Bytes → Tables → Bytes
labels up o t = (report_of up t o).lent

-- how many entries differ
unfoldable pub differing : List ℕ → List ℕ → ℕ
differing was now = count (length was) (λ v. not (eqb (at now v) (at was v)))

-- how many labels differ from one report to the next, those of machines and those of uplinks
abbrev pub moved : Bytes → Bytes → ℕ
moved was now = differing was.machines now.machines + differing was.links now.links

-- one Add after another, with a report before it and one after it: how many labels moved, added up
unfoldable pub moves_of : List ℕ → Bytes → History → Tables → ℕ
moves_of up o [] t = 0
moves_of up o (batch ∷ run) t = let t' = (add_of up batch t).lent in moved (labels up o t) (labels up o t') + moves_of up o run t'

-- each label is as it was, or 0
abbrev pub Falls : List ℕ → List ℕ → Type 0
Falls was now = (v : ℕ) → (at now v ≡ at was v) ⊎ (at now v ≡ 0)

-- from what Start leaves of t, over any run of batches, refused ones among them
pub record LabelsOf (up : List ℕ) (t : Tables) (o : Bytes) : Type 0 where
  -- a label moves at most once, and to 0: in every later report it is as it was, or 0
  pub at_most_once : (run more : History) → (let was = labels up o (ran up run t) in let now = labels up o (ran up (run ++ more) t) in
      Falls was.machines now.machines × Falls was.links now.links)
  -- all labels together move at most once more than the total by which marks rise: the hub's label may move, and the hub's mark never rises
  pub in_all : (run : History) → moves_of up o run (start_of up t).lent ≤ suc (work up run t)

-- for every tree that is not refused, and any tables and outputs of the right lengths
abbrev pub Labels : Type 0
Labels = (up : List ℕ) (t : Tables) (o : Bytes) → alone_verdict up ≡ Sound → lengths_verdict up t ≡ Sound
    → length o.machines ≡ length up → length o.links ≡ length up → LabelsOf up t o
