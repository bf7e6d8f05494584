-- The decimal digits of a number. Places beyond those that it needs change nothing, so its digits are those of a tenth of it and one more;
-- by induction on the places.
use mathlib.Core.Path.{◌≡◌, sym, ap}
use mathlib.Core.Bool.{Bool, true, false, cond}
use mathlib.Core.List.{List, [], ◌∷◌, ◌++◌}
use Prim.Native.Nat.{ℕ, zero, suc, ◌+◌, ◌/◌, ◌%◌, ◌^◌, ◌<◌, ◌≤◌}
use native.Mathlib.Omega.{arith}
use native.Mathlib.Nat.{pow-succ'}
use lib.ListN.{length, length-append}
use lib.Dec.{ltb}
use borrow.Author.Tests.{lt-ltb, le-ltb}
use Rattle.text.specs.Text.{digits, decimal}
use Rattle.text.specs.Written.{Lays}
use Rattle.text.proofs.Laying.{then, reworded, room, room_first, room_reworded}

tenth_below : (j n : ℕ) → n < 10 ^ suc (suc j) → n / 10 < 10 ^ suc j
tenth_below j n h = omega (arith, h, pow-succ' 10 (suc j))

enough : (k n : ℕ) → n < 10 ^ suc k → digits (suc k) n ≡ digits (suc (suc k)) n
unfolding digits
enough zero n h = let l : n < 10 = h in rw (lt-ltb n 10 l)
enough (suc k) n h = ap (λ l. cond (ltb n 10) ((48 + n) ∷ []) (l ++ ((48 + n % 10) ∷ []))) (enough k (n / 10) (tenth_below k n h))

pub one_digit : (n : ℕ) → n < 10 → (48 + n) ∷ [] ≡ decimal n
unfolding digits
one_digit n h = rw (lt-ltb n 10 h)

last_digit : (n : ℕ) → 10 ≤ n → n < 2 ^ 64 → decimal (n / 10) ++ ((48 + n % 10) ∷ []) ≡ decimal n
unfolding digits
last_digit n h b = rw (le-ltb n 10 h) (ap (λ l. l ++ ((48 + n % 10) ∷ [])) (sym (enough 18 (n / 10) (omega arith))))

-- there is room for each digit in turn
module _ (i n : ℕ) (l : List ℕ) (h : i + length (decimal n) ≤ length l) where
  pub room_one : n < 10 → i < length l
  room_one b = omega (arith, b, room_reworded i (length l) (sym (one_digit n b)) h)

  module _ (big : 10 ≤ n) (fits : n < 2 ^ 64) where
    room_both : i + length (decimal (n / 10) ++ ((48 + n % 10) ∷ [])) ≤ length l
    room_both = room_reworded i (length l) (sym (last_digit n big fits)) h

    pub room_tenth : i + length (decimal (n / 10)) ≤ length l
    room_tenth = room_first i (length l) (decimal (n / 10)) ((48 + n % 10) ∷ []) room_both

    pub room_last : {m : List ℕ} {j : ℕ} → Lays l i (decimal (n / 10)) m j → j < length m
    room_last a = omega (arith, room ((48 + n % 10) ∷ []) room_both a)

pub all_digits : {l m o : List ℕ} {i j k : ℕ} (n : ℕ) → 10 ≤ n → n < 2 ^ 64 → Lays l i (decimal (n / 10)) m j → Lays m j ((48 + n % 10) ∷ []) o k → Lays l i (decimal n) o k
all_digits n h b p q = reworded (last_digit n h b) (then p q)

one_more : (b : Bool) (x y j : ℕ) (l : List ℕ) → length l ≤ j → length (cond b (x ∷ []) (l ++ (y ∷ []))) ≤ suc j
one_more true x y j l h = omega arith
one_more false x y j l h = omega (arith, h, length-append l (y ∷ []))

-- no more digits than places, and a number below a power of ten has no more than its exponent
pub length_places : (k n : ℕ) → length (digits k n) ≤ k
unfolding digits
length_places zero n = omega arith
length_places (suc k) n = one_more (ltb n 10) (48 + n) (48 + n % 10) k (digits k (n / 10)) (length_places k (n / 10))

pub length_below : (k j n : ℕ) → n < 10 ^ suc j → length (digits k n) ≤ suc j
unfolding digits
length_below zero j n h = omega arith
length_below (suc k) zero n h = let l : n < 10 = h in rw (lt-ltb n 10 l) (omega arith)
length_below (suc k) (suc j) n h = one_more (ltb n 10) (48 + n) (48 + n % 10) (suc j) (digits k (n / 10)) (length_below k j (n / 10) (tenth_below j n h))
