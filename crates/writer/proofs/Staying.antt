-- What a call leaves alone: a refusal the whole buffer, and a file that is written every byte past it.
use mathlib.Core.Path.{◌≡◌, refl}
use native.Mathlib.Omega.{arith}
use lib.ListN.{length, drop, length-append, length-drop}
use lib.Seq.{drop_at}
use Rattle.plain.specs.Laid.{laid}
use Rattle.tables.specs.declared.Verdict.TheVariants.{the_data as Verdict, Sound, Refused}
use Rattle.tables.specs.Outcome.{lent_by, judged}
use Rattle.site.proofs.Callers.{answer_sound, answer_refused}
use Rattle.writer.specs.Plan.{plan_of, file_of}
use Rattle.writer.specs.Written.{write_verdict, write_of}
use Rattle.writer.specs.Statements.{Accepted, RestStays}
use Rattle.writer.proofs.Accepting.{accepted}

pub rest_stays : RestStays
unfolding write_of judged
rest_stays up links lengths reports out =
    let file = file_of up (plan_of links lengths reports) in
    let v = write_verdict up links lengths reports (length out) in
    record {
      refused = λ o. (answer_refused _ _ _ v o refl).1;
      past = λ z. let (_, n, l) = answer_sound out (length file) (laid file out) v refl z in rw (n, l) (drop_at file (drop (length file) out) (length file) refl);
      size = laid_size v (accepted up links lengths reports (length out));
    }
  where
    laid_size : (v : Verdict) → (v ≡ Sound → Accepted up links lengths reports (length out)) → length (lent_by v out (laid (file_of up (plan_of links lengths reports)) out)) ≡ length out
    laid_size Sound a =
        let file = file_of up (plan_of links lengths reports) in
        let f = (a refl).fits in
        omega (arith, f, length-append file (drop (length file) out), length-drop (length file) out)
    laid_size (Refused why place) a = refl
