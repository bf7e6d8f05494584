-- The next record of a file over lent slices: what it comes to, and every slice as it leaves it.
use Rattle.std.specs.Prelude.{Bool, cond, ◌&&◌, List, ℕ, ◌*◌, ◌%◌, replicate, take, leb, eqb}
use Rattle.plain.specs.Laid.{laid}
use Rattle.tables.specs.Tree.{most_machines}
use Rattle.tables.specs.Batch.{most_links}
use Rattle.tables.specs.Outcome.{Outcome, outcome}
use Rattle.tables.specs.Tables.{Tables, tables_of}
use Rattle.tables.specs.Report.{Bytes, bytes_of}
use Rattle.sitefile.specs.File as file
use Rattle.sitefile.specs.declared.Reader.{Reader}
use Rattle.sitefile.specs.declared.Room as code
use Rattle.sitefile.specs.declared.Step.{Step}
use Rattle.sitefile.specs.declared.Step.TheVariants as steps

-- the lent slices: one entry a machine, but the batch has the numbers of a whole batch
pub record Room : Type 0 where
  pub up : List ℕ
  pub tables : Tables
  pub batch : List ℕ
  pub outputs : Bytes

-- the seven slices as one
abbrev pub room_of : List ℕ → List ℕ → List ℕ → List ℕ → List ℕ → List ℕ → List ℕ → Room
room_of up depth group mark batch machines links = record { up = up; tables = tables_of depth group mark; batch = batch; outputs = bytes_of machines links }

-- the code's room, whose seven arrays have these lengths, is one of them
abbrev pub as_room : code.Room → Room
as_room r = room_of r.up r.depth r.group r.mark r.batch r.machines r.links

-- with nothing in it
abbrev pub empty : code.Room
empty =
    let machines = replicate most_machines 0 in
    record { up = machines; depth = machines; group = machines; mark = machines; batch = replicate (2 * most_links) 0; machines = machines; links = machines }

-- a reader that a file leads to counts no more than the slices hold, and whole links
abbrev pub counts_fit : Reader → Bool
counts_fit r = leb r.n most_machines && (leb r.ups r.n && (leb r.opened (2 * most_links) && eqb (r.opened % 2) 0))

-- the first entries of each table
abbrev pub front : ℕ → Tables → Tables
front n t = tables_of (take n t.depth) (take n t.group) (take n t.mark)

-- what has been read, as the front parts of the slices have it; the tables have their entries once the tree is whole, and none before
unfoldable pub read_of : Reader → Room → file.Read
read_of r room = record {
  place = r.place;
  n = r.n;
  up = take r.ups room.up;
  tables = front (cond (eqb r.ups r.n) r.n 0) room.tables;
  opened = take r.opened room.batch;
}

-- tables laid over the fronts of theirs
abbrev pub laid_tables : Tables → Tables → Tables
laid_tables t slices = tables_of (laid t.depth slices.depth) (laid t.group slices.group) (laid t.mark slices.mark)

-- the slices once this has been read, with these outputs
unfoldable pub holding : file.Read → Room → Bytes → Room
holding r room o = record { up = laid r.up room.up; tables = laid_tables r.tables room.tables; batch = laid r.opened room.batch; outputs = o }

-- a step of the file over the slices, in the reader's numbers: a refusal and the end leave every slice as it came
abbrev pub step_over : file.FileStep → Room → Outcome Step Room
step_over (file.reads r) room = outcome (steps.Read (file.reader_of r)) (holding r room room.outputs)
step_over (file.reports r o) room =
    outcome (steps.Report (file.reader_of r)) (holding r room (bytes_of (laid o.machines room.outputs.machines) (laid o.links room.outputs.links)))
step_over file.ends room = outcome steps.End room
step_over (file.refuses refusal) room = outcome (steps.Refused refusal) room

unfoldable pub next_of : List ℕ → Reader → Room → Outcome Step Room
next_of bytes r room = cond (counts_fit r) (step_over (file.step bytes (read_of r room)) room) (outcome steps.Unfit room)
