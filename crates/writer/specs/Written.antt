-- How the call comes out, for every input.
use Rattle.std.specs.Prelude.{◌&&◌, List, [], ◌∷◌, ℕ, length, leb, eqb}
use Rattle.plain.specs.Table.{total}
use Rattle.plain.specs.Laid.{laid}
use Rattle.tables.specs.declared.Answer.{Answer}
use Rattle.tables.specs.declared.Fault.{Fault}
use Rattle.tables.specs.declared.Verdict.TheVariants.{the_data as Verdict, Sound}
use Rattle.tables.specs.Verdict.{checks, unless}
use Rattle.tables.specs.Tree.{alone_verdict}
use Rattle.tables.specs.Batch.{batch_verdict}
use Rattle.tables.specs.Outcome.{Outcome, judged}
use Rattle.turns.specs.Printed.{most_bytes}
use Rattle.writer.specs.Plan.{Part, plan_of, file_of}

-- 27: a report byte for each length, and lengths that add up to the numbers lent; the value is how many lengths there are
unfoldable pub parts_verdict : ℕ → List ℕ → ℕ → Verdict
parts_verdict numbers lengths reports = unless (eqb reports (length lengths) && eqb (total lengths) numbers) Fault.Parts (length lengths)

-- 7 to 9 of the first bad batch
unfoldable pub batches_verdict : ℕ → List Part → Verdict
batches_verdict n [] = Sound
batches_verdict n (b ∷ plan) = checks (batch_verdict n b.batch ∷ batches_verdict n plan ∷ [])

unfoldable pub plan_verdict : ℕ → List ℕ → List ℕ → List ℕ → Verdict
plan_verdict n links lengths reports = checks (parts_verdict (length links) lengths (length reports) ∷ batches_verdict n (plan_of links lengths reports) ∷ [])

-- 13: a file over 16,384 bytes; then 14: a buffer that is shorter than the file, with the length needed
unfoldable pub room_verdict : ℕ → ℕ → Verdict
room_verdict file room = checks (unless (leb file most_bytes) Fault.Long most_bytes ∷ unless (leb file room) Fault.Short file ∷ [])

-- Start's 1 and 3 to 5, then 27, Add's 7 to 9, 13, 14
unfoldable pub write_verdict : List ℕ → List ℕ → List ℕ → List ℕ → ℕ → Verdict
write_verdict up links lengths reports room =
    checks (alone_verdict up ∷ plan_verdict (length up) links lengths reports ∷ room_verdict (length (file_of up (plan_of links lengths reports))) room ∷ [])

-- done, the file stands over the front of the buffer, and its length is the value
unfoldable pub write_of : List ℕ → List ℕ → List ℕ → List ℕ → List ℕ → Outcome Answer (List ℕ)
write_of up links lengths reports out =
    let file = file_of up (plan_of links lengths reports) in
    judged (write_verdict up links lengths reports (length out)) out (length file) (laid file out)
