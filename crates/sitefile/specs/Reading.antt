-- What the parts of the reader are to answer and to leave, and what they ask of the reader and of the lengths of lent slices.
-- These are the contracts of private functions: the public calls do not cite them, so nothing here has to be believed.
use Rattle.std.specs.Prelude.{◌≡◌, List, ℕ, ◌+◌, ◌*◌, ◌%◌, ◌^◌, ◌<◌, ◌≤◌, length, take}
use Rattle.tables.specs.Tree.{most_machines, tree_verdict}
use Rattle.tables.specs.Tables.{Tables, fresh}
use Rattle.tables.specs.Batch.{most_links}
use Rattle.tables.specs.declared.Answer.{Answer}
use Rattle.tables.specs.Outcome.{Outcome, judged}
use Rattle.sitefile.specs.File as file
use Rattle.sitefile.specs.Next.{Room, read_of, laid_tables, step_over}
use Rattle.sitefile.specs.declared.Step.{Step}
use Rattle.sitefile.specs.declared.Reader.{Reader}
use Rattle.sitefile.specs.declared.due.Due.{Due}

-- what is due, done over the slices
unfoldable pub leads : List ℕ → Reader → Due → Room → Outcome Step Room
leads bytes r d room = step_over (file.done bytes (read_of r room) d) room

-- each table has n entries or more
pub record Fronts (n up depth group mark : ℕ) : Type 0 where
  pub in_up : n ≤ up
  pub in_depth : n ≤ depth
  pub in_group : n ≤ group
  pub in_mark : n ≤ mark

-- a number of machines that Start takes, and tables for them
pub record StartDue (n up depth group mark : ℕ) : Type 0 where
  pub some : 0 < n
  pub few : n ≤ most_machines
  pub fronts : Fronts n up depth group mark

-- Start over the front parts: only the tree can be refused
abbrev pub start_front : ℕ → List ℕ → Tables → Outcome Answer Tables
start_front n up t = judged (tree_verdict (take n up)) t n (laid_tables (fresh (take n up)) t)

-- what the records of kind 2, 3, 4 and 5 are read under
pub record UplinkDue (bytes : List ℕ) (r : Reader) (up depth group mark : ℕ) : Type 0 where
  pub body : r.place + 3 ≤ length bytes
  pub more : r.ups < r.n
  pub few : r.n ≤ most_machines
  pub fronts : Fronts r.n up depth group mark

pub record LinkDue (bytes : List ℕ) (r : Reader) (batch : ℕ) : Type 0 where
  pub body : r.place + 5 ≤ length bytes
  pub inside : r.opened ≤ batch
  pub size : batch ≡ 2 * most_links
  pub pairs : r.opened % 2 ≡ 0

pub record CloseDue (r : Reader) (up depth group mark batch : ℕ) : Type 0 where
  pub low : r.place + 1 < 2 ^ 64
  pub grown : r.ups ≡ r.n
  pub fronts : Fronts r.n up depth group mark
  pub inside : r.opened ≤ batch

pub record ReportDue (r : Reader) (up depth group mark machines links : ℕ) : Type 0 where
  pub low : r.place + 1 < 2 ^ 64
  pub grown : r.ups ≡ r.n
  pub fronts : Fronts r.n up depth group mark
  pub in_machines : r.n ≤ machines
  pub in_links : r.n ≤ links
