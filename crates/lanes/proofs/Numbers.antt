-- The links of a batch that is accepted: link i stands at 2 i and 2 i + 1, each number is a machine, and one link more is applied last.
use mathlib.Core.Path.{◌≡◌, refl, ap}
use mathlib.Core.List.{List, [], ◌∷◌}
use Prim.Native.Nat.{ℕ, zero, suc, ◌+◌, ◌*◌, ◌<◌, ◌≤◌, ◌%◌, ◌/◌, ◌-◌}
use native.Mathlib.Nat.{div-add-mod}
use native.Mathlib.Omega.{arith}
use lib.ListN.{length, get_or, take}
use Rattle.plain.specs.Member.{◌∈◌}
use Rattle.plain.specs.Table.{at}
use Rattle.graph.proofs.Members.{here, there}
use Rattle.plain.proofs.Says.{says_and, says_eq, says_le}
use Rattle.tables.specs.Tables.{Tables}
use Rattle.tables.specs.Link.{linked}
use Rattle.tables.specs.declared.Verdict.TheVariants.{Sound}
use Rattle.tables.specs.Batch.{most_links, pairs, numbers_verdict, batch_verdict, after}
use Rattle.tables.specs.Links.{Good, AllGood}
use Rattle.tables.proofs.Verdicts.{all_sound, unless_sound}
use Rattle.tables.proofs.Histories.{batch_good}

-- the tables after one link more
pub after_more : (up : List ℕ) (l : List (ℕ × ℕ)) (i : ℕ) (t : Tables) → i < length l
    → after up (take (suc i) l) t ≡ linked up (get_or l i (0, 0)).0 (get_or l i (0, 0)).1 (after up (take i l) t)
unfolding after
after_more up [] i t h = absurd (omega arith)
after_more up (p ∷ l) zero t h = refl
after_more up (p ∷ l) (suc i) t h = after_more up l i (linked up p.0 p.1 t) (omega arith)

pub after_all : (up : List ℕ) (l : List (ℕ × ℕ)) (i : ℕ) (t : Tables) → length l ≤ i → after up (take i l) t ≡ after up l t
unfolding after
after_all up [] zero t h = refl
after_all up [] (suc i) t h = refl
after_all up (p ∷ l) zero t h = absurd (omega arith)
after_all up (p ∷ l) (suc i) t h = after_all up l i (linked up p.0 p.1 t) (omega arith)

-- link i stands at 2 i and 2 i + 1
pairs-at : (batch : List ℕ) (i : ℕ) → 2 * i + 1 < length batch → get_or (pairs batch) i (0, 0) ≡ (at batch (2 * i), at batch (2 * i + 1))
unfolding pairs
pairs-at [] i h = absurd (omega arith)
pairs-at (a ∷ []) i h = absurd (omega arith)
pairs-at (a ∷ (b ∷ l)) zero h = refl
pairs-at (a ∷ (b ∷ l)) (suc i) h =
    let e : 2 * suc i ≡ suc (suc (2 * i)) = omega arith in
    let f : 2 * suc i + 1 ≡ suc (suc (2 * i + 1)) = omega arith in
    rw (f, e) (pairs-at l i (omega arith))

pairs-length : (batch : List ℕ) (m : ℕ) → length batch ≡ 2 * m → length (pairs batch) ≡ m
unfolding pairs
pairs-length [] m e = omega arith
pairs-length (a ∷ []) m e = absurd (omega arith)
pairs-length (a ∷ (b ∷ l)) zero e = absurd (omega arith)
pairs-length (a ∷ (b ∷ l)) (suc m) e = ap suc (pairs-length l m (omega arith))

member-at : (l : List (ℕ × ℕ)) (i : ℕ) → i < length l → get_or l i (0, 0) ∈ l
member-at [] i h = absurd (omega arith)
member-at (p ∷ l) zero h = here refl
member-at (p ∷ l) (suc i) h = there (member-at l i (omega arith))

number_good : {n : ℕ} (batch : List ℕ) (m : ℕ) → length batch ≡ 2 * m → AllGood n (pairs batch) → (i : ℕ) → i < length batch → at batch i < n
unfolding pairs
number_good [] m e g i h = absurd (omega arith)
number_good (a ∷ []) m e g i h = absurd (omega arith)
number_good (a ∷ (b ∷ l)) m e g zero h = (g (a, b) (here refl)).one
number_good (a ∷ (b ∷ l)) m e g (suc zero) h = (g (a, b) (here refl)).two
number_good (a ∷ (b ∷ l)) m e g (suc (suc i)) h = number_good l (m - 1) (omega arith) (λ p k. g p (there k)) i (omega arith)

-- a batch that is accepted has an even length, and at most 1,024 links
pub even : (n : ℕ) (batch : List ℕ) → batch_verdict n batch ≡ Sound → (length batch % 2 ≡ 0) × (length batch ≤ 2 * most_links)
unfolding batch_verdict numbers_verdict
even n batch e = (says_and (says_eq (length batch % 2) 0) (says_le (length batch) (2 * most_links))).gives (unless_sound _ _ _ (all_sound _ e).0)

module _ (n : ℕ) (batch : List ℕ) (s : batch_verdict n batch ≡ Sound) where
  pub in_pairs : length batch ≡ 2 * length (pairs batch)
  in_pairs =
      let e : length batch ≡ 2 * (length batch / 2) = omega (arith, (even n batch s).0, div-add-mod (length batch) 2) in
      omega (arith, pairs-length batch (length batch / 2) e)

  pub number_in : (i : ℕ) → i < length batch → at batch i < n
  number_in = number_good batch (length (pairs batch)) in_pairs (batch_good n batch s)

  module _ (i : ℕ) (h : i < length (pairs batch)) where
    pub link_at : get_or (pairs batch) i (0, 0) ≡ (at batch (2 * i), at batch (2 * i + 1))
    link_at = pairs-at batch i (omega (arith, in_pairs))

    pub link_good : Good n (at batch (2 * i), at batch (2 * i + 1))
    link_good = rw link_at at (batch_good n batch s (get_or (pairs batch) i (0, 0)) (member-at (pairs batch) i h))
