-- What a call that is done wrote is the file of its plan, and the reader goes from its first record to its end.
use mathlib.Core.Path.{◌≡◌, refl}
use mathlib.Core.List.{List}
use Prim.Native.Nat.{ℕ, ◌≤◌}
use lib.ListN.{length}
use Rattle.plain.proofs.Laid.{take_laid, laid_whole}
use Rattle.tables.specs.declared.Answer.{Answer}
use Rattle.tables.specs.Outcome.{outcome}
use Rattle.site.proofs.Callers.{answer_sound}
use Rattle.writer.specs.Plan.{plan_of, file_of}
use Rattle.writer.specs.Written.{write_verdict, write_of}
use Rattle.writer.specs.Statements.{Accepted, front, ReadBack, PrintedBack}
use Rattle.writer.proofs.Accepting.{batches_pass, accepted}
use Rattle.writer.proofs.Going.{goes_says, goes_prints}
use Rattle.writer.proofs.ReadThrough.{file_goes}

pub front_is : (up links lengths reports out : List ℕ) → (let r = write_of up links lengths reports out in
    r.answer.code ≡ 0 → Accepted up links lengths reports (length out) × (front r ≡ file_of up (plan_of links lengths reports)))
unfolding write_of
front_is up links lengths reports out z =
    let file = file_of up (plan_of links lengths reports) in
    let (v, n, l) = answer_sound _ _ _ (write_verdict up links lengths reports (length out)) refl z in
    (accepted up links lengths reports (length out) v, rw (n, l) (take_laid file _))

pub read_back : ReadBack
read_back up links lengths reports out z =
    let (a, f) = front_is up links lengths reports out z in
    rw f (goes_says a.short (file_goes up (plan_of links lengths reports) a.tree (batches_pass (length up) (plan_of links lengths reports) a.batches)))

pub printed_back : PrintedBack
printed_back up links lengths reports out z =
    let (a, f) = front_is up links lengths reports out z in
    rw f (goes_prints a.short (file_goes up (plan_of links lengths reports) a.tree (batches_pass (length up) (plan_of links lengths reports) a.batches)))

-- for callers: a file that was written stands inside the buffer
pub inside : {a : Answer} {out' : List ℕ} (up links lengths reports out : List ℕ) → outcome a out' ≡ write_of up links lengths reports out → a.code ≡ 0 → a.value ≤ length out'
unfolding write_of
inside up links lengths reports out e z =
    let file = file_of up (plan_of links lengths reports) in
    let (_, n, l) = answer_sound _ _ _ (write_verdict up links lengths reports (length out)) e z in
    rw (n, l) (laid_whole file _)
