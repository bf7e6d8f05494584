-- What is counted can be listed: the numbers below n that p holds of, each once, as many as the count.
use mathlib.Core.Path.{◌≡◌, refl}
use mathlib.Core.Bool.{Bool, true, false, not}
use mathlib.Core.List.Memᴰ
use mathlib.Core.List.{List, [], ◌∷◌, map}
use mathlib.Core.Logic.{⊎_elim, dite}
use Prim.Native.Nat.{ℕ, zero, suc, ◌<◌}
use native.Mathlib.Omega.{arith}
use native.Mathlib.Decide.{dec_lt}
use lib.ListN.{length, length-map, get_or-eq_default}
use lib.Dec.{eqb}
use Rattle.plain.specs.Member.{◌∈◌}
use Rattle.plain.specs.Search.{count}
use Rattle.plain.specs.Table.{at}
use Rattle.plain.proofs.Says.{by_cases, clash, says_not, says_eq}
use Rattle.graph.specs.Path.{Once}
use Rattle.graph.proofs.Members.{here, there, cases, empty}
use Rattle.tables.specs.Report.{named}
use Rattle.tables.specs.Demand2.{Counted}

record Listing (n : ℕ) (p : ℕ → Bool) : Type 0 where
  list : List ℕ
  once : Once list
  in_list : (w : ℕ) → w < n → p w ≡ true → w ∈ list
  of_list : (w : ℕ) → w ∈ list → (w < n) × (p w ≡ true)
  size : length list ≡ count n p

zero_off : (l : List ℕ) → ¬ (0 ∈ map suc l)
zero_off l m = let (y, i, e) = Memᴰ.of_map suc l m in absurd (omega arith)

suc_on : {w : ℕ} (l : List ℕ) → suc w ∈ map suc l → w ∈ l
suc_on {w} l m = let (y, i, e) = Memᴰ.of_map suc l m in let q : y ≡ w = omega arith in rw q at i

once-suc : (l : List ℕ) → Once l → Once (map suc l)
once-suc [] o = tt
once-suc (x ∷ l) o = (λ m. o.0 (suc_on l m), once-suc l o.1)

listing : (n : ℕ) (p : ℕ → Bool) → Listing n p
unfolding count
listing zero p = record { list = []; once = tt; in_list = λ w h e. absurd (omega arith); of_list = λ w m. absurd (empty m); size = refl }
listing (suc n) p =
    let k = listing n (λ j. p (suc j)) in
    by_cases (p zero)
    (λ t. record {
      list = zero ∷ map suc k.list;
      once = (zero_off k.list, once-suc k.list k.once);
      in_list = first k.list k.in_list;
      of_list = λ w m. ⊎_elim (λ (e : w ≡ zero). rw e (omega arith, t)) (further k.list k.of_list w) (cases m);
      size = rw t (omega (arith, length-map k.list suc, k.size));
    })
    (λ t. record {
      list = map suc k.list;
      once = once-suc k.list k.once;
      in_list = later t k.list k.in_list;
      of_list = further k.list k.of_list;
      size = rw t (omega (arith, length-map k.list suc, k.size));
    })
  where
    first : (l : List ℕ) → ((w : ℕ) → w < n → p (suc w) ≡ true → w ∈ l) → (w : ℕ) → w < suc n → p w ≡ true → w ∈ zero ∷ map suc l
    first l f zero h e = here refl
    first l f (suc w) h e = there (Memᴰ.map suc (f w (omega arith) e))

    later : p zero ≡ false → (l : List ℕ) → ((w : ℕ) → w < n → p (suc w) ≡ true → w ∈ l) → (w : ℕ) → w < suc n → p w ≡ true → w ∈ map suc l
    later t l f zero h e = clash e t
    later t l f (suc w) h e = Memᴰ.map suc (f w (omega arith) e)

    further : (l : List ℕ) → ((w : ℕ) → w ∈ l → (w < n) × (p (suc w) ≡ true)) → (w : ℕ) → w ∈ map suc l → (w < suc n) × (p w ≡ true)
    further l f zero m = absurd (zero_off l m)
    further l f (suc w) m = let (h, e) = f w (suc_on l m) in (omega (arith, h), e)

-- the bytes that are not 0
pub named_list : (bytes : List ℕ) → Counted bytes (named bytes)
unfolding named
named_list bytes =
    let k = listing (length bytes) (λ w. not (eqb (at bytes w) 0)) in
    record {
      list = k.list;
      once = k.once;
      those = λ w. (
        λ m. (says_not (says_eq (at bytes w) 0)).gives (k.of_list w m).1,
        λ o. k.in_list w
            (dite (dec_lt w (length bytes)) (λ h. h) (λ h. absurd (o (get_or-eq_default bytes 0 (omega arith)))))
            ((says_not (says_eq (at bytes w) 0)).takes o),
      );
      size = k.size;
    }
