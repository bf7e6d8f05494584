-- What is to be written: the batches, as they are cut out of the lent slices, and the file that they make.
use Rattle.std.specs.Prelude.{Bool, cond, not, List, [], ◌∷◌, ◌++◌, ℕ, length, take, drop, eqb}
use Rattle.plain.specs.Table.{at}
use Rattle.graph.specs.Cable.{Cables}
use Rattle.tables.specs.Batch.{pairs}
use Rattle.sitefile.specs.Record.{record_of}

-- the numbers of a batch, two for each link, and whether a report is asked after it
pub record Part : Type 0 where
  pub batch : List ℕ
  pub report : Bool

-- batch after batch from the front of the links, each as long as its length says; a report where the byte is not 0
unfoldable pub plan_of : List ℕ → List ℕ → List ℕ → List Part
plan_of links [] reports = []
plan_of links (k ∷ lengths) reports = record { batch = take k links; report = not (eqb (at reports 0) 0) } ∷ plan_of (drop k links) lengths (drop 1 reports)

-- kind 2 for each machine
unfoldable pub uplink_records : List ℕ → List ℕ
uplink_records [] = []
uplink_records (u ∷ up) = record_of 2 (u ∷ []) ++ uplink_records up

-- kind 1 with n before them
abbrev pub tree_records : List ℕ → List ℕ
tree_records up = record_of 1 (length up ∷ []) ++ uplink_records up

-- kind 3 for each link
unfoldable pub link_records : Cables → List ℕ
link_records [] = []
link_records (p ∷ l) = record_of 3 (p.0 ∷ p.1 ∷ []) ++ link_records l

-- kind 4 closes the batch; kind 5 where a report is asked
abbrev pub close_records : Bool → List ℕ
close_records report = record_of 4 [] ++ cond report (record_of 5 []) []

abbrev pub batch_records : List ℕ → Bool → List ℕ
batch_records batch report = link_records (pairs batch) ++ close_records report

-- batch after batch
unfoldable pub plan_records : List Part → List ℕ
plan_records [] = []
plan_records (b ∷ plan) = batch_records b.batch b.report ++ plan_records plan

-- the file: the tree, then the batches
unfoldable pub file_of : List ℕ → List Part → List ℕ
file_of up plan = tree_records up ++ plan_records plan
