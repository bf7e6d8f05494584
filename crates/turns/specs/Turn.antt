-- One turn of the program: the next record of a file over lent slices, and what it prints laid over the front of a lent buffer. And what a loop
-- over the turns writes.
use Rattle.std.specs.Prelude.{◌≡◌, cond, List, [], ◌++◌, ℕ, zero, suc, ◌+◌, ◌*◌, ◌<◌, length, replicate, take, ltb}
use Rattle.plain.specs.Laid.{laid}
use Rattle.tables.specs.declared.Fault.{Fault}
use Rattle.tables.specs.Tree.{most_machines}
use Rattle.tables.specs.Answer.{refusal}
use Rattle.tables.specs.Report.{bytes_of}
use Rattle.tables.specs.Outcome.{Outcome, outcome}
use Rattle.text.specs.Text.{report_text, refusal_text}
use Rattle.sitefile.specs.declared.Reader.{Reader}
use Rattle.sitefile.specs.declared.Step.{Step}
use Rattle.sitefile.specs.declared.Step.TheVariants as steps
use Rattle.sitefile.specs.File.{begin, reader_of}
use Rattle.sitefile.specs.Next.{Room, as_room, empty, next_of}
use Rattle.turns.specs.declared.Desk as code
use Rattle.turns.specs.declared.Turn.{Turn}
use Rattle.turns.specs.declared.Turn.TheVariants as turns
use Rattle.turns.specs.Printed.{most_bytes, printed}

-- what a turn is lent: the slices, and the buffer of the text
pub record Desk : Type 0 where
  pub room : Room
  pub text : List ℕ

abbrev pub desk : Room → List ℕ → Desk
desk room text = record { room = room; text = text }

-- the code's desk, whose arrays have their lengths, is one of them
abbrev pub as_desk : code.Desk → Desk
as_desk d = desk (as_room d.room) d.text

-- so many bytes are room for the text of any report, and of any refusal
abbrev pub most_text : ℕ
most_text = 24 * most_machines + 64

-- with nothing on it
abbrev pub bare : code.Desk
bare = record { room = empty; text = replicate most_text 0 }

-- these bytes are printed, and there is more; or they are the last: they stand over the front of the buffer, and their number is told
abbrev pub more : List ℕ → Reader → Room → List ℕ → Outcome Turn Desk
more bytes r room text = outcome (turns.More r (length bytes)) (desk room (laid bytes text))

abbrev pub last : List ℕ → Room → List ℕ → Outcome Turn Desk
last bytes room text = outcome (turns.Done (length bytes)) (desk room (laid bytes text))

-- the text of the report that stands in the outputs
abbrev pub shown : Reader → Room → List ℕ
shown r room = report_text (take r.n room.up) (bytes_of (take r.n room.outputs.machines) (take r.n room.outputs.links))

-- what the next record came to, in text; a record that is only read has none, and so has the end
abbrev pub told_by : Step → Room → List ℕ → Outcome Turn Desk
told_by (steps.Read r) room text = more [] r room text
told_by (steps.Report r) room text = more (shown r room) r room text
told_by steps.End room text = last [] room text
told_by (steps.Refused refusal) room text = last (refusal_text refusal) room text
told_by steps.Unfit room text = outcome turns.Unfit (desk room text)

-- a turn: first 13, then the next record
unfoldable pub turn_of : List ℕ → Reader → Desk → Outcome Turn Desk
turn_of file r d =
    cond (ltb most_bytes (length file)) (last (refusal_text (refusal Fault.Long most_bytes)) d.room d.text)
    (let o = next_of file r d.room in told_by o.answer o.lent d.text)

-- what is written of a turn: the first bytes of the buffer, as many as it told, and then the rest, from the reader and over the desk that it left
unfoldable pub of_turn : Outcome Turn Desk → (Reader → Desk → List ℕ) → List ℕ
of_turn o rest = elim o.answer [
  | turns.More r k ↦ take k o.lent.text ++ rest r o.lent
  | turns.Done k ↦ take k o.lent.text
  | turns.Unfit ↦ []
]

-- what a loop of at most k turns writes
unfoldable pub writes : ℕ → List ℕ → Reader → Desk → List ℕ
writes zero file r d = []
writes (suc k) file r d = of_turn (turn_of file r d) (writes k file)

-- THE PRINTING: from the start, over any lent slices and any buffer, whatever they hold, a loop of more turns than the file has bytes writes what is
-- printed for the file
abbrev pub Printing : Type 0
Printing = (file : List ℕ) (d : Desk) (k : ℕ) → length file < k → writes k file (reader_of begin) d ≡ printed file
