-- What is proved of the writer: when it is done, what it leaves alone, and what the plan has of what was lent; and of written files: they read back as what was to be
-- written, so different inputs never give the same bytes, and what is printed for one is the reports of its history.
use Rattle.std.specs.Prelude.{◌≡◌, cond, not, List, [], ◌∷◌, ◌++◌, map, ◌≢◌, ◌↔◌, ℕ, ◌≤◌, length, take, drop, eqb}
use Rattle.plain.specs.Table.{total}
use Rattle.tables.specs.declared.Answer.{Answer}
use Rattle.tables.specs.declared.Verdict.TheVariants.{Sound}
use Rattle.tables.specs.Tree.{alone_verdict}
use Rattle.tables.specs.History as history
use Rattle.tables.specs.History.{History, tables}
use Rattle.tables.specs.Report.{bytes_of, machine_bytes, link_bytes}
use Rattle.tables.specs.Outcome.{Outcome}
use Rattle.text.specs.Text.{report_text}
use Rattle.turns.specs.Printed.{printed}
use Rattle.writer.specs.Plan.{Part, plan_of, file_of}
use Rattle.writer.specs.Written.{write_of}
use Rattle.writer.specs.Said.{Act, adds, asks, says, said_by}

-- the batches of a plan
abbrev pub batches_of : List Part → History
batches_of plan = map (λ p. p.batch) plan

-- a tree that is not refused, a report byte for each length, lengths that add up to the numbers lent, batches each of which is accepted, and a file that is not too long
-- and fits the buffer
pub record Accepted (up links lengths reports : List ℕ) (room : ℕ) : Type 0 where
  pub tree : alone_verdict up ≡ Sound
  pub bytes : length reports ≡ length lengths
  pub sum : total lengths ≡ length links
  pub batches : history.Accepted (length up) (batches_of (plan_of links lengths reports))
  pub short : length (file_of up (plan_of links lengths reports)) ≤ 16384
  pub fits : length (file_of up (plan_of links lengths reports)) ≤ room

-- DONE EXACTLY where all of that holds
abbrev pub DoneExactly : Type 0
DoneExactly = (up links lengths reports out : List ℕ) → ((write_of up links lengths reports out).answer.code ≡ 0) ↔ Accepted up links lengths reports (length out)

-- a refusal leaves the buffer as it came, and a file that is written every byte past it
pub record Stays (out : List ℕ) (r : Outcome Answer (List ℕ)) : Type 0 where
  pub refused : r.answer.code ≢ 0 → r.lent ≡ out
  pub past : r.answer.code ≡ 0 → drop r.answer.value r.lent ≡ drop r.answer.value out
  pub size : length r.lent ≡ length out

-- THE REST STAYS
abbrev pub RestStays : Type 0
RestStays = (up links lengths reports out : List ℕ) → Stays out (write_of up links lengths reports out)

-- the numbers of all batches, one batch behind the other
unfoldable pub numbers_of : List (List ℕ) → List ℕ
numbers_of [] = []
numbers_of (batch ∷ h) = batch ++ numbers_of h

-- what a plan was cut from
pub record CutFrom (links lengths reports : List ℕ) (plan : List Part) : Type 0 where
  pub numbers : numbers_of (batches_of plan) ≡ links
  pub lengths_are : map length (batches_of plan) ≡ lengths
  pub asked : map (λ p. p.report) plan ≡ map (λ b. not (eqb b 0)) reports

-- THE PLAN IS WHAT WAS LENT, where 27 is not given
abbrev pub PlanIs : Type 0
PlanIs = (links lengths reports : List ℕ) → length reports ≡ length lengths → total lengths ≡ length links → CutFrom links lengths reports (plan_of links lengths reports)

-- what a call that is done wrote: the front of the buffer, as long as the value says
abbrev pub front : Outcome Answer (List ℕ) → List ℕ
front r = take r.answer.value r.lent

-- the plan's batches and reports in their order
unfoldable pub acts : List Part → List Act
acts [] = []
acts (b ∷ plan) = adds b.batch ∷ (cond b.report (asks ∷ []) [] ++ acts plan)

-- READ BACK: what was written says the same tree, batches and reports
abbrev pub ReadBack : Type 0
ReadBack = (up links lengths reports out : List ℕ) → (let r = write_of up links lengths reports out in
    r.answer.code ≡ 0 → said_by (front r) ≡ says up (acts (plan_of links lengths reports)))

-- inputs are the same, but for which byte it is that asks for a report
pub record SameInput (up links lengths reports up' links' lengths' reports' : List ℕ) : Type 0 where
  pub tree : up ≡ up'
  pub batches : lengths ≡ lengths'
  pub numbers : links ≡ links'
  pub asked : map (λ b. not (eqb b 0)) reports ≡ map (λ b. not (eqb b 0)) reports'

-- INPUTS THAT DIFFER NEVER GIVE THE SAME BYTES
abbrev pub NeverTheSame : Type 0
NeverTheSame = (up links lengths reports out up' links' lengths' reports' out' : List ℕ) → (let r = write_of up links lengths reports out in
    let r' = write_of up' links' lengths' reports' out' in
    r.answer.code ≡ 0 → r'.answer.code ≡ 0 → front r ≡ front r' → SameInput up links lengths reports up' links' lengths' reports')

-- the text of a report on the tables that a history leaves
abbrev pub report_on : List ℕ → History → List ℕ
report_on up h = report_text up (bytes_of (machine_bytes up (tables up h)) (link_bytes up (tables up h)))

-- the reports that a plan asks for, one after another: each on the tables that the history leaves by then, with h before the plan
unfoldable pub reports_of : List ℕ → History → List Part → List ℕ
reports_of up h [] = []
reports_of up h (b ∷ plan) = let h' = h ++ (b.batch ∷ []) in cond b.report (report_on up h') [] ++ reports_of up h' plan

-- PRINTED: what is printed for it is the reports of the history, and never a refusal
abbrev pub PrintedBack : Type 0
PrintedBack = (up links lengths reports out : List ℕ) → (let r = write_of up links lengths reports out in
    r.answer.code ≡ 0 → printed (front r) ≡ reports_of up [] (plan_of links lengths reports))
