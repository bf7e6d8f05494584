-- A batch is checked link by link: a link that passes hands on to the links after it, and the first that is refused settles the batch.
use mathlib.Core.Path.{◌≡◌, refl, sym, ◌∙◌}
use mathlib.Core.Bool.{Bool, true, false, cond, ◌||◌}
use mathlib.Core.List.{List, [], ◌∷◌}
use Prim.Native.Nat.{ℕ, suc, ◌+◌, ◌*◌, ◌/◌, ◌<◌, ◌≤◌}
use native.Mathlib.Omega.{arith}
use native.Mathlib.Numerals.{add-one}
use lib.ListN.{length, drop}
use lib.Dec.{leb, eqb}
use Rattle.plain.specs.Table.{at}
use Rattle.tables.specs.Batch.{pairs, ends_verdict}
use Rattle.tables.specs.Verdict.{checks}
use Rattle.tables.specs.declared.Fault.{Fault}
use Rattle.tables.specs.declared.Verdict.TheVariants.{the_data as Verdict, Sound, Refused}
use Rattle.tables.proofs.Verdicts.{passes, checks_one}
use Rattle.tables.proofs.Pairing.{pairs_next, pairs_end}
use Rattle.checks.proofs.Checking.{told, stops}

link_then : (n i : ℕ) (p : ℕ × ℕ) (l : List (ℕ × ℕ)) → ends_verdict n i (p ∷ l) ≡ checks (ends_verdict n i (p ∷ []) ∷ ends_verdict n (suc i) l ∷ [])
unfolding ends_verdict checks
link_then n i p l = go (leb n p.0 || leb n p.1) (eqb p.0 p.1) (ends_verdict n (suc i) l)
  where
    go : (bad loop : Bool) (rest : Verdict) → cond bad (Refused Fault.End i) (cond loop (Refused Fault.Loop i) rest) ≡ checks (cond bad (Refused Fault.End i) (cond loop (Refused Fault.Loop i) Sound) ∷ rest ∷ [])
    go true loop rest = refl
    go false true rest = refl
    go false false Sound = refl
    go false false (Refused c v) = refl

-- the links before i pass
pub record LinksPassed (n : ℕ) (batch : List ℕ) (i : ℕ) : Type 0 where
  pub rest : ends_verdict n 0 (pairs batch) ≡ ends_verdict n i (pairs (drop (2 * i) batch))

module _ {n : ℕ} {batch : List ℕ} {i : ℕ} (p : LinksPassed n batch i) where
  link_next : i < length batch / 2 → ends_verdict n 0 (pairs batch) ≡ checks (ends_verdict n i ((at batch (2 * i), at batch (2 * i + 1)) ∷ []) ∷ ends_verdict n (i + 1) (pairs (drop (2 * (i + 1)) batch)) ∷ [])
  link_next h =
      let f : 2 * i + 2 ≡ 2 * (i + 1) = omega arith in
      p.rest ∙ rw (pairs_next batch (2 * i) (omega arith), f, add-one i) (link_then n i _ _)

  module _ {a b : ℕ} {c : Verdict} (h : i < length batch / 2) (e : a ≡ at batch (2 * i)) (f : b ≡ at batch (2 * i + 1)) (g : c ≡ ends_verdict n i ((a, b) ∷ [])) where
    -- link i passes
    pub passed_more : c ≡ Sound → LinksPassed n batch (i + 1)
    passed_more s = record { rest = link_next h ∙ rw (← e, ← f) (passes (told s g) _ ∙ checks_one _) }

    -- link i is refused
    pub refused : {why : Fault} {place : ℕ} → c ≡ Refused why place → c ≡ ends_verdict n 0 (pairs batch)
    refused s = rw (link_next h, ← e, ← f) (stops g _ s)

  pub passed_all : length batch / 2 ≤ i → Sound ≡ ends_verdict n 0 (pairs batch)
  unfolding ends_verdict
  passed_all h = sym (p.rest ∙ rw (pairs_end batch (2 * i) (omega arith)))
