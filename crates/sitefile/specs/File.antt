-- What a site file means, record by record.
use Rattle.std.specs.Prelude.{Bool, cond, ◌&&◌, not, List, [], ◌∷◌, ◌++◌, ℕ, ◌+◌, length, leb, ltb, eqb}
use Rattle.plain.specs.Table.{at}
use Rattle.tables.specs.declared.Answer.{Answer}
use Rattle.tables.specs.declared.Fault.{Fault}
use Rattle.tables.specs.declared.Verdict.TheVariants.{the_data as Verdict, Sound, Refused}
use Rattle.tables.specs.Answer.{refusal}
use Rattle.tables.specs.Tree.{size_verdict, tree_verdict}
use Rattle.tables.specs.Tables.{Tables, fresh}
use Rattle.tables.specs.Batch.{numbers_verdict}
use Rattle.tables.specs.Report.{Bytes, bytes_of, machine_bytes, link_bytes}
use Rattle.tables.specs.Outcome.{add_verdict, add_of, report_verdict}
use Rattle.sitefile.specs.Record.{known, body_length, body_of, word}
use Rattle.sitefile.specs.declared.Reader.{Reader}
use Rattle.sitefile.specs.declared.due.Due.{Due}
use Rattle.sitefile.specs.declared.due.Due.TheVariants as due

-- what has been read: the place of the next record, n (0 before kind 1), the uplinks so far, the tables (none before the last uplink), the
-- numbers of the links that are not closed
pub record Read : Type 0 where
  pub place : ℕ
  pub n : ℕ
  pub up : List ℕ
  pub tables : Tables
  pub opened : List ℕ

abbrev pub none : Tables
none = record { depth = []; group = []; mark = [] }

abbrev pub begin : Read
begin = record { place = 0; n = 0; up = []; tables = none; opened = [] }

-- how far that is, in numbers
abbrev pub reader_of : Read → Reader
reader_of r = record { place = r.place; n = r.n; ups = length r.up; opened = length r.opened }

-- what the next record comes to: it is read and there is more; it is a report, with these bytes; the file ends as it may; or a refusal
pub data FileStep : Type 0 where
  reads : Read → FileStep
  reports : Read → Bytes → FileStep
  ends : FileStep
  refuses : Answer → FileStep

-- the tree is whole: every uplink is read
abbrev pub grown : Reader → Bool
grown r = ltb 0 r.n && eqb r.ups r.n

-- and no links are open
abbrev pub closed : Reader → Bool
closed r = grown r && eqb r.opened 0

-- kind 1 once, kind 2 n times, then kinds 3, 4 and 5; kind 5 with no open links
abbrev pub in_place : ℕ → Reader → Bool
in_place kind r = cond (eqb kind 1) (eqb r.n 0) (cond (eqb kind 2) (ltb r.ups r.n) (cond (eqb kind 5) (closed r) (grown r)))

-- what a record of this kind asks for
abbrev pub asked : ℕ → Due
asked kind = cond (eqb kind 1) due.Size (cond (eqb kind 2) due.Uplink (cond (eqb kind 3) due.Link (cond (eqb kind 4) due.Close due.Report)))

-- the place behind a record
abbrev pub behind : ℕ → ℕ → ℕ
behind place kind = place + 1 + body_length kind

-- what is due. 10: the file ends before the last kind 2 or with links not closed; 11: an unknown kind; 12: a known kind out of place; 10: the file ends
-- inside the record
unfoldable pub due_of : List ℕ → Reader → Due
due_of file r =
    let kind = at file r.place in
    cond (leb (length file) r.place) (cond (closed r) due.End (due.Stop (refusal Fault.Cut (length file))))
    (cond (not (known kind)) (due.Stop (refusal Fault.Unknown r.place))
    (cond (not (in_place kind r)) (due.Stop (refusal Fault.Misplaced r.place))
    (cond (ltb (length file) (behind r.place kind)) (due.Stop (refusal Fault.Cut (length file))) (asked kind))))

-- what a check leads to
abbrev pub unless_refused : Verdict → FileStep → FileStep
unless_refused Sound next = next
unless_refused (Refused why place) next = refuses (refusal why place)

-- kind 1: n, from 1 to 4,096
unfoldable pub size : Read → ℕ → FileStep
size r m = unless_refused (size_verdict m) (reads (record { place = behind r.place 1; n = m; up = []; tables = none; opened = [] }))

-- kind 2: the up of the next machine; Start runs after the last
unfoldable pub uplink : Read → ℕ → FileStep
uplink r u =
    let up = r.up ++ (u ∷ []) in
    cond (ltb (length up) r.n) (reads (record { place = behind r.place 2; n = r.n; up = up; tables = none; opened = [] }))
    (unless_refused (tree_verdict up) (reads (record { place = behind r.place 2; n = r.n; up = up; tables = fresh up; opened = [] })))

-- kind 3: a link; one over the most that a batch may have is refused with the length that the batch would reach, 2,050
unfoldable pub link : Read → ℕ → ℕ → FileStep
link r a b =
    unless_refused (numbers_verdict (length r.opened + 2))
    (reads (record { place = behind r.place 3; n = r.n; up = r.up; tables = r.tables; opened = r.opened ++ (a ∷ b ∷ []) }))

-- kind 4: the open links are added
unfoldable pub close : Read → FileStep
close r =
    unless_refused (add_verdict r.up r.opened r.tables)
    (reads (record { place = behind r.place 4; n = r.n; up = r.up; tables = (add_of r.up r.opened r.tables).lent; opened = [] }))

-- kind 5: a report
unfoldable pub report : Read → FileStep
report r =
    let o = bytes_of (machine_bytes r.up r.tables) (link_bytes r.up r.tables) in
    unless_refused (report_verdict r.up r.tables o)
    (reports (record { place = behind r.place 5; n = r.n; up = r.up; tables = r.tables; opened = [] }) o)

-- what is due is done; a record is known, in place and whole by then
unfoldable pub done : List ℕ → Read → Due → FileStep
done file r due.End = ends
done file r (due.Stop refusal) = refuses refusal
done file r due.Size = size r (word (body_of file r.place) 0)
done file r due.Uplink = uplink r (word (body_of file r.place) 0)
done file r due.Link = link r (word (body_of file r.place) 0) (word (body_of file r.place) 1)
done file r due.Close = close r
done file r due.Report = report r

-- the next record
unfoldable pub step : List ℕ → Read → FileStep
step file r = done file r (due_of file (reader_of r))
