-- The whole file: the tree, then the batches. Checks that have passed tell that there is room for both; and the answer is that of the checks.
use Rattle.std.proofs.Common.{None, Some}
use mathlib.Core.Path.{◌≡◌, refl, ap, ◌∙◌}
use mathlib.Core.List.{List}
use Prim.Native.Nat.{ℕ, ◌+◌, ◌*◌, ◌≤◌}
use lib.ListN.{length}
use Rattle.tables.specs.declared.Answer.{Answer}
use Rattle.tables.specs.declared.Fault.{Fault}
use Rattle.tables.specs.declared.Verdict.TheVariants.{the_data as Verdict, Sound, Refused}
use Rattle.tables.specs.Answer.{refusal, answer_to}
use Rattle.tables.specs.Tree.{most_machines, alone_verdict}
use Rattle.tables.specs.Outcome.{outcome}
use Rattle.checks.proofs.Checking.{told, stops, goes_on, ends}
use Rattle.site.proofs.Answers.{refused, accepted as answered}
use Rattle.writer.specs.declared.plan.Plan.{Plan}
use Rattle.writer.specs.Plan.{plan_of, plan_records, file_of}
use Rattle.writer.specs.Written.{plan_verdict, room_verdict, write_verdict, write_of}
use Rattle.writer.specs.Filling.{Fills, Measured}
use Rattle.writer.specs.Lent.{parts, Planned}
use Rattle.writer.proofs.Accepting.{few_up, accepted}
use Rattle.writer.proofs.Measuring.{file_length, room_is}

module _ (up links lengths reports out : List ℕ) {t : Verdict} (q : t ≡ alone_verdict up) where
  pub bad_tree : {why : Fault} {place : ℕ} {r : Answer} → t ≡ Refused why place → r ≡ answer_to t 0 → outcome r out ≡ write_of up links lengths reports out
  unfolding write_of write_verdict
  bad_tree e a = refused out _ _ e (stops q _ e) a

  module _ (e : t ≡ Sound) where
    pub few : length up ≤ most_machines
    few = few_up up e q

    pub bad_parts : {r : Answer} → Planned links lengths reports None → r ≡ refusal Fault.Parts (length lengths) → outcome r out ≡ write_of up links lengths reports out
    unfolding write_of write_verdict
    bad_parts k a = refused out _ _ {c = Refused Fault.Parts (length lengths)} refl (goes_on q _ e (stops (k (length up)) _ refl)) a

    module _ (p : Plan) (k : Planned links lengths reports (Some p)) {b : Verdict} (s : b ≡ plan_verdict (length up) p.links.now p.lengths.now p.reports.now) where
      plan_is : b ≡ plan_verdict (length up) links lengths reports
      plan_is = rw (k.0, k.1, k.2) at s

      pub bad_batch : {why : Fault} {place : ℕ} {r : Answer} → b ≡ Refused why place → r ≡ answer_to b 0 → outcome r out ≡ write_of up links lengths reports out
      unfolding write_of write_verdict
      bad_batch f a = refused out _ _ f (goes_on q _ e (stops plan_is _ f)) a

      parts_are : parts p ≡ plan_of links lengths reports
      unfolding parts
      parts_are = rw (k.0, k.1, k.2)

      -- the length is judged by its sum
      module _ (f : b ≡ Sound) {sum : ℕ} (m : Measured (3 + 3 * length up + length (plan_records (parts p))) sum) {c : Verdict} (z : c ≡ room_verdict sum (length out)) where
        verdict_is : c ≡ write_verdict up links lengths reports (length out)
        unfolding write_verdict
        verdict_is = goes_on q _ e (goes_on plan_is _ f (ends (rw (← parts_are, file_length up (parts p)) (z ∙ room_is (length out) m))))

        pub bad_room : {why : Fault} {place : ℕ} {r : Answer} → c ≡ Refused why place → r ≡ answer_to c 0 → outcome r out ≡ write_of up links lengths reports out
        unfolding write_of
        bad_room g a = refused out _ _ g verdict_is a

        module _ (g : c ≡ Sound) where
          pub room : length (file_of up (parts p)) ≤ length out
          room = rw parts_are ((accepted up links lengths reports (length out) (told g verdict_is)).fits)

          pub written : {r : Answer} {out' : List ℕ} {len : ℕ} → Fills (file_of up (parts p)) out out' len → r ≡ answer_to c len → outcome r out' ≡ write_of up links lengths reports out
          unfolding write_of
          written w a =
              let w' : Fills (file_of up (plan_of links lengths reports)) out _ _ = rw parts_are at w in
              rw w'.filled (answered out _ _ g verdict_is (a ∙ ap (answer_to c) w'.number))
