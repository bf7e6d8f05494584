-- Laying texts over a buffer. A text is stored byte by byte, so the stores of two texts, one behind the other, are those of both together;
-- where there is room for both, there is room for the second once the first is written.
use mathlib.Core.Path.{◌≡◌, refl, sym, ap, subst, ◌∙◌}
use mathlib.Core.List.{List, [], ◌∷◌, ◌++◌}
use Prim.Native.Nat.{ℕ, suc, ◌+◌, ◌≤◌}
use native.Mathlib.Omega.{arith}
use lib.ListN.{length, set, length-append}
use lib.Seq.{sets, length-sets}
use Rattle.text.specs.Written.{Lays}

sets-append : (l : List ℕ) (i : ℕ) (s t : List ℕ) → sets l i (s ++ t) ≡ sets (sets l i s) (i + length s) t
sets-append l i [] t = let q : i ≡ i + 0 = omega arith in ap (λ k. sets l k t) q
sets-append l i (a ∷ s) t =
    let q : suc i + length s ≡ i + suc (length s) = omega arith in
    sets-append (set l i a) (suc i) s t ∙ ap (λ k. sets (sets (set l i a) (suc i) s) k t) q

pub none_yet : (l : List ℕ) (i : ℕ) → Lays l i [] l i
none_yet l i = record { bytes = refl; next = omega arith }

-- a byte that is stored
pub stored : (l : List ℕ) (i a : ℕ) → Lays l i (a ∷ []) (set l i a) (i + 1)
stored l i a = record { bytes = refl; next = omega arith }

pub size : {l m s : List ℕ} {i j : ℕ} → Lays l i s m j → length m ≡ length l
size {l} {m} {s} {i} a = ap length a.bytes ∙ length-sets l i s

-- one text, then another
pub then : {l m o s t : List ℕ} {i j k : ℕ} → Lays l i s m j → Lays m j t o k → Lays l i (s ++ t) o k
then {l} {m} {o} {s} {t} {i} {j} {k} a b = record {
  bytes = b.bytes ∙ ap (λ x. sets x j t) a.bytes ∙ ap (λ x. sets (sets l i s) x t) a.next ∙ sym (sets-append l i s t);
  next = omega (arith, a.next, b.next, length-append s t);
}

pub room : {l m s : List ℕ} {i j : ℕ} (t : List ℕ) → i + length (s ++ t) ≤ length l → Lays l i s m j → j + length t ≤ length m
room {l} {m} {s} t h a = omega (arith, h, a.next, size a, length-append s t)

-- room for the first of two
pub room_first : (i n : ℕ) (s t : List ℕ) → i + length (s ++ t) ≤ n → i + length s ≤ n
room_first i n s t h = omega (arith, h, length-append s t)

-- the same text in other words
pub reworded : {l m s t : List ℕ} {i j : ℕ} → s ≡ t → Lays l i s m j → Lays l i t m j
reworded {l} {m} {s} {t} {i} {j} e a = subst (λ x. Lays l i x m j) e a

pub room_reworded : (i n : ℕ) {s t : List ℕ} → s ≡ t → i + length s ≤ n → i + length t ≤ n
room_reworded i n e h = subst (λ x. i + length x ≤ n) e h
