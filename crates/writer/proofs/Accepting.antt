-- What is accepted: the checks pass exactly where each of them has nothing to refuse.
use mathlib.Core.Path.{◌≡◌, refl}
use mathlib.Core.List.{List, [], ◌∷◌}
use mathlib.Core.Logic.{⊎_elim}
use Prim.Native.Nat.{ℕ, ◌≤◌}
use lib.ListN.{length}
use lib.Dec.{leb}
use borrow.Author.Tests.{le-leb}
use Rattle.plain.specs.Table.{total}
use Rattle.plain.proofs.Says.{says_and, says_eq, says_le}
use Rattle.graph.proofs.Members.{here, there, empty, single, parts}
use Rattle.tables.specs.declared.Fault.{Fault}
use Rattle.tables.specs.declared.Verdict.TheVariants.{the_data as Verdict, Sound}
use Rattle.tables.specs.Tree.{most_machines, alone_verdict}
use Rattle.tables.specs.Batch.{batch_verdict}
use Rattle.tables.specs.History as history
use Rattle.tables.proofs.Verdicts.{all_sound, sound_all, unless_sound}
use Rattle.tables.proofs.Lengths.{size_exact}
use Rattle.tables.proofs.Standing.{alone_passed}
use Rattle.checks.proofs.Checking.{told}
use Rattle.tables.specs.Outcome.{judged}
use Rattle.site.proofs.Callers.{answer_sound}
use Rattle.turns.specs.Printed.{most_bytes}
use Rattle.writer.specs.Plan.{Part, plan_of, file_of}
use Rattle.writer.specs.Written.{parts_verdict, batches_verdict, plan_verdict, room_verdict, write_verdict, write_of}
use Rattle.writer.specs.Statements.{batches_of, Accepted, DoneExactly}

-- what a check tells where it passes
pub few_up : {c : Verdict} (up : List ℕ) → c ≡ Sound → c ≡ alone_verdict up → length up ≤ most_machines
few_up up e q = ((size_exact (length up)).0 (alone_passed up (told e q)).0).1

pub parts_told : {c : Verdict} (numbers : ℕ) (lengths : List ℕ) (reports : ℕ) → c ≡ Sound → c ≡ parts_verdict numbers lengths reports → (reports ≡ length lengths) × (total lengths ≡ numbers)
unfolding parts_verdict
parts_told numbers lengths reports e q = (says_and (says_eq reports (length lengths)) (says_eq (total lengths) numbers)).gives (unless_sound _ _ _ (told e q))

-- the batches pass exactly where each of them does
batches_told : (n : ℕ) (plan : List Part) → batches_verdict n plan ≡ Sound → history.Accepted n (batches_of plan)
unfolding batches_verdict
batches_told n [] e batch i = absurd (empty i)
batches_told n (p ∷ plan) e batch i =
    let (good, (rest, _)) = all_sound (batch_verdict n p.batch ∷ batches_verdict n plan ∷ []) e in
    ⊎_elim (λ j. let q : batch ≡ p.batch = single j in rw q good) (batches_told n plan rest batch) (parts (p.batch ∷ []) i)

pub batches_pass : (n : ℕ) (plan : List Part) → history.Accepted n (batches_of plan) → batches_verdict n plan ≡ Sound
unfolding batches_verdict
batches_pass n [] a = refl
batches_pass n (p ∷ plan) a = sound_all _ (a p.batch (here refl), (batches_pass n plan (λ b i. a b (there i)), tt))

module _ (up links lengths reports : List ℕ) (room : ℕ) where
  all_pass : Accepted up links lengths reports room → write_verdict up links lengths reports room ≡ Sound
  unfolding write_verdict plan_verdict parts_verdict room_verdict
  all_pass a =
      let plan = plan_of links lengths reports in
      let p : parts_verdict (length links) lengths (length reports) ≡ Sound = rw ((says_and (says_eq (length reports) (length lengths)) (says_eq (total lengths) (length links))).takes (a.bytes, a.sum)) in
      let b = batches_pass (length up) plan a.batches in
      let w : plan_verdict (length up) links lengths reports ≡ Sound = sound_all _ (search (p, b)) in
      let s = le-leb (length (file_of up plan)) most_bytes a.short in
      let f = le-leb (length (file_of up plan)) room a.fits in
      let r : room_verdict (length (file_of up plan)) room ≡ Sound = rw (s, f) (sound_all (Sound ∷ Sound ∷ []) (refl, (refl, tt))) in
      let t = a.tree in
      sound_all _ (search (t, w, r))

  pub accepted : write_verdict up links lengths reports room ≡ Sound → Accepted up links lengths reports room
  unfolding write_verdict plan_verdict room_verdict
  accepted e =
      let plan = plan_of links lengths reports in
      let a = all_sound _ e in
      let p : plan_verdict (length up) links lengths reports ≡ Sound = search a in
      let r : room_verdict (length (file_of up plan)) room ≡ Sound = search a in
      let b = all_sound _ p in
      let f = all_sound _ r in
      let (k, m) = parts_told (length links) lengths (length reports) (search b) refl in
      record {
        tree = search a;
        bytes = k;
        sum = m;
        batches = batches_told (length up) plan (search b);
        short = (says_le _ _).gives (unless_sound (leb (length (file_of up plan)) most_bytes) Fault.Long most_bytes (search f));
        fits = (says_le _ _).gives (unless_sound (leb (length (file_of up plan)) room) Fault.Short (length (file_of up plan)) (search f));
      }

-- done where all of them pass, and only there
is_done : (up links lengths reports out : List ℕ) → Accepted up links lengths reports (length out) → (write_of up links lengths reports out).answer.code ≡ 0
unfolding write_of judged
is_done up links lengths reports out a = rw (all_pass up links lengths reports (length out) a)

done_tells : (up links lengths reports out : List ℕ) → (write_of up links lengths reports out).answer.code ≡ 0 → Accepted up links lengths reports (length out)
unfolding write_of
done_tells up links lengths reports out z =
    accepted up links lengths reports (length out) (answer_sound _ _ _ (write_verdict up links lengths reports (length out)) refl z).0

pub done_exactly : DoneExactly
done_exactly up links lengths reports out = (done_tells up links lengths reports out, is_done up links lengths reports out)
