-- A list laid over the front of a slice stands there whole. The front part laid back as it was changes nothing, and with a few entries more behind it, it
-- is what stores one by one leave.
use mathlib.Core.Path.{◌≡◌, refl, ap, ◌∙◌}
use mathlib.Core.List.{List, [], ◌∷◌, ◌++◌}
use Prim.Native.Nat.{ℕ, zero, suc, ◌+◌, ◌≤◌}
use native.Mathlib.Omega.{arith}
use lib.ListN.{length, take, drop, length-append}
use lib.Seq.{length-take-le, take-append_seam, sets, sets-eq}
use Rattle.plain.specs.Laid.{laid}

pub take_laid : (l slice : List ℕ) → take (length l) (laid l slice) ≡ l
take_laid l slice = take-append_seam l (drop (length l) slice)

pub laid_whole : (l slice : List ℕ) → length l ≤ length (laid l slice)
laid_whole l slice = omega (arith, length-append l (drop (length l) slice))

pub laid_front : (n : ℕ) (l : List ℕ) → laid (take n l) l ≡ l
laid_front zero l = refl
laid_front (suc n) [] = refl
laid_front (suc n) (x ∷ l) = ap (λ k. x ∷ k) (laid_front n l)

pub length_more : (l m : List ℕ) (i : ℕ) → i ≤ length l → length (take i l ++ m) ≡ i + length m
length_more l m i h = length-append (take i l) m ∙ ap (λ k. k + length m) (length-take-le i l h)

pub laid_more : (l m : List ℕ) (i : ℕ) → i + length m ≤ length l → sets l i m ≡ laid (take i l ++ m) l
laid_more l m i h = rw (length_more l m i (omega arith)) (sets-eq m l i h)
