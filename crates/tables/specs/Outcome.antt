-- How each call comes out, for every input. Checks run in the order of the codes.
use Rattle.std.specs.Prelude.{List, [], ◌∷◌, ℕ, length}
use Rattle.tables.specs.Verdict.{Verdict, Sound, Refused, checks}
use Rattle.tables.specs.Answer.{Answer, answer_to}
use Rattle.tables.specs.Tree.{tree_verdict}
use Rattle.tables.specs.Tables.{Tables, fresh, sized, lengths_verdict}
use Rattle.tables.specs.Batch.{pairs, batch_verdict, after, rise}
use Rattle.tables.specs.Rules.{tables_verdict}
use Rattle.tables.specs.Report.{Bytes, bytes_of, named, machine_bytes, link_bytes}

-- what a call answers, and what it was lent as it leaves it
pub record Outcome (A B : Type 0) : Type 0 where
  pub answer : A
  pub lent : B

abbrev pub outcome : {A B : Type 0} → A → B → Outcome A B
outcome answer lent = record { answer = answer; lent = lent }

-- where the checks refuse, what was lent is as it came; else as it is left
abbrev pub lent_by : {A : Type 0} → Verdict → A → A → A
lent_by Sound came left = left
lent_by (Refused why place) came left = came

-- a call by its checks
unfoldable pub judged : {A : Type 0} → Verdict → A → ℕ → A → Outcome Answer A
judged v came value left = outcome (answer_to v value) (lent_by v came left)

-- Start uses 1 to 5 and ignores what the three tables held. Its value is n
unfoldable pub start_verdict : List ℕ → Tables → Verdict
start_verdict up t = checks (lengths_verdict up t ∷ tree_verdict up ∷ [])

unfoldable pub start_of : List ℕ → Tables → Outcome Answer Tables
start_of up t = judged (start_verdict up t) t (length up) (fresh up)

-- Add uses 1 to 9. Its value is the total by which marks rose
unfoldable pub add_verdict : List ℕ → List ℕ → Tables → Verdict
add_verdict up batch t = checks (lengths_verdict up t ∷ tables_verdict up t ∷ batch_verdict (length up) batch ∷ [])

unfoldable pub add_of : List ℕ → List ℕ → Tables → Outcome Answer Tables
add_of up batch t =
    let t' = after up (pairs batch) t in
    judged (add_verdict up batch t) t (rise t t') t'

-- code 2 of the report's outputs
unfoldable pub outputs_verdict : ℕ → ℕ → ℕ → Verdict
outputs_verdict n machines links = checks (sized 4 machines n ∷ sized 5 links n ∷ [])

-- Report uses 1 to 6 and ignores what its outputs held. Its value is the number of nonzero machine bytes
unfoldable pub report_verdict : List ℕ → Tables → Bytes → Verdict
report_verdict up t o = checks (lengths_verdict up t ∷ outputs_verdict (length up) (length o.machines) (length o.links) ∷ tables_verdict up t ∷ [])

unfoldable pub report_of : List ℕ → Tables → Bytes → Outcome Answer Bytes
report_of up t o = judged (report_verdict up t o) o (named (machine_bytes up t)) (bytes_of (machine_bytes up t) (link_bytes up t))
