-- The length of the file, summed up batch by batch: 3 bytes for n and for each machine, 5 for each link, one or two for the close. A sum that has passed the
-- most that a file may have only grows, so that it may stop there.
use mathlib.Core.Path.{◌≡◌, refl, ap, ◌∙◌}
use mathlib.Core.Bool.{Bool, true, false}
use mathlib.Core.List.{List, [], ◌∷◌}
use Prim.Native.Nat.{ℕ, ◌+◌, ◌*◌, ◌/◌, ◌^◌, ◌<◌, ◌≤◌}
use native.Mathlib.Omega.{arith}
use lib.ListN.{length, length-append}
use lib.Dec.{leb}
use borrow.Author.Tests.{le-leb, lt-leb, leb-true}
use Rattle.plain.proofs.Says.{by_cases}
use Rattle.tables.specs.declared.Fault.{Fault}
use Rattle.tables.specs.declared.Verdict.TheVariants.{Sound, Refused}
use Rattle.tables.specs.Verdict.{checks}
use Rattle.tables.specs.Batch.{pairs}
use Rattle.sitefile.specs.Record.{words}
use Rattle.turns.specs.Printed.{most_bytes}
use Rattle.writer.specs.Plan.{Part, uplink_records, link_records, close_records, batch_records, plan_records, file_of}
use Rattle.writer.specs.Written.{room_verdict}
use Rattle.writer.specs.Filling.{Measured}
use Rattle.writer.proofs.Planning.{plan_next, plan_end}

-- 13, then 14
module _ (file room : ℕ) where
  pub too_long : most_bytes < file → Refused Fault.Long most_bytes ≡ room_verdict file room
  unfolding room_verdict checks
  too_long h = rw (lt-leb file most_bytes h)

  pub too_short : file ≤ most_bytes → room < file → Refused Fault.Short file ≡ room_verdict file room
  unfolding room_verdict checks
  too_short h k = rw (le-leb file most_bytes h, lt-leb file room k)

  pub fits : file ≤ most_bytes → file ≤ room → Sound ≡ room_verdict file room
  unfolding room_verdict checks
  fits h k = rw (le-leb file most_bytes h, le-leb file room k)

-- the batches that are left are still to be counted
pub record Measuring (n : ℕ) (plan left : List Part) (sum : ℕ) : Type 0 where
  pub few : sum ≤ 2 ^ 24
  pub rest : sum + length (plan_records left) ≡ 3 + 3 * n + length (plan_records plan)

module _ {n : ℕ} {plan left : List Part} {sum : ℕ} (m : Measuring n plan left sum) where
  -- one that has passed the most
  pub passed : most_bytes < sum → Measured (3 + 3 * n + length (plan_records plan)) sum
  passed h = record { short = λ k. absurd (omega arith); long = λ k. absurd (omega (arith, m.rest)) }

  pub summed_all : left ≡ [] → Measured (3 + 3 * n + length (plan_records plan)) sum
  summed_all e =
      let q : sum ≡ 3 + 3 * n + length (plan_records plan) = omega (arith, ap length (plan_end e), m.rest) in
      record { short = λ _. q; long = λ _. q }

  pub summed_more : {p : Part} {rest : List Part} {r : ℕ} → left ≡ p ∷ rest → sum ≤ most_bytes → r ≡ length (batch_records p.batch p.report) → r ≤ 5 * 2 ^ 16 → Measuring n plan rest (sum + r)
  summed_more {p} {rest} e s q f =
      let l = ap length (plan_next e) ∙ length-append (batch_records p.batch p.report) (plan_records rest) in
      record { few = omega arith; rest = omega (arith, l, q, m.rest) }

-- how long the records are
uplinks-length : (up : List ℕ) → length (uplink_records up) ≡ 3 * length up
unfolding uplink_records words
uplinks-length [] = refl
uplinks-length (u ∷ up) = omega (arith, uplinks-length up)

links-length : (ns : List ℕ) → length (link_records (pairs ns)) ≡ 5 * (length ns / 2)
unfolding link_records pairs words
links-length [] = refl
links-length (a ∷ []) = refl
links-length (a ∷ b ∷ ns) = omega (arith, links-length ns)

-- a batch and its close
module _ (batch : List ℕ) where
  pub bare_batch : {report : Bool} → report ≡ false → 5 * (length batch / 2) + 1 ≡ length (batch_records batch report)
  unfolding words
  bare_batch e = rw e (omega (arith, links-length batch, length-append (link_records (pairs batch)) (close_records false)))

  pub asked_batch : {report : Bool} → report ≡ true → 5 * (length batch / 2) + 2 ≡ length (batch_records batch report)
  unfolding words
  asked_batch e = rw e (omega (arith, links-length batch, length-append (link_records (pairs batch)) (close_records true)))

pub file_length : (up : List ℕ) (plan : List Part) → length (file_of up plan) ≡ 3 + 3 * length up + length (plan_records plan)
unfolding file_of words
file_length up plan = omega (arith, uplinks-length up, length-append (uplink_records up) (plan_records plan))

-- a sum that may have stopped is judged as the length
pub room_is : {size r : ℕ} (room : ℕ) → Measured size r → room_verdict r room ≡ room_verdict size room
unfolding room_verdict checks
room_is {size} {r} room m = by_cases (leb size most_bytes)
    (λ e. rw (m.long (leb-true _ _ e)))
    (λ e. by_cases (leb r most_bytes) (λ f. rw (m.short (leb-true _ _ f))) (λ f. rw (e, f)))
