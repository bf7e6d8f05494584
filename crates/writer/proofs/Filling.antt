-- A buffer that is filled piece by piece. What is still to be written, laid over what is still free, makes the whole; so a piece that fills the front of the
-- free part leaves less to write, and nothing left is the whole.
use mathlib.Core.Path.{◌≡◌, refl, sym, ap, ◌∙◌}
use mathlib.Core.List.{List, [], ◌∷◌, ◌++◌, append-nil, append_assoc}
use Prim.Native.Nat.{ℕ, suc, ◌+◌, ◌*◌, ◌-◌, ◌/◌, ◌%◌, ◌^◌, ◌<◌, ◌≤◌}
use native.Mathlib.Omega.{arith}
use lib.ListN.{length, take, drop, set, length-set, length-append, length-drop, drop_of_length-le, take-append-drop}
use lib.Seq.{length-take-le, take_all, take_at, drop_at, drop-drop, drop-set-lt}
use Rattle.std.proofs.lemmas.List.{take_more_set}
use Rattle.plain.specs.Laid.{laid}
use Rattle.plain.specs.Table.{at}
use Rattle.plain.proofs.Loops.{from_next}
use Rattle.sitefile.specs.Record.{words, record_of}
use Rattle.writer.specs.Filling.{Fills}

-- of the whole the rest is still to be written, from this place on; the buffer was `before` at first
pub record Writing (whole rest before now : List ℕ) (place : ℕ) : Type 0 where
  pub next : place + length rest ≡ length whole
  pub size : length now ≡ length before
  pub room : length whole ≤ length before
  pub left : take place now ++ laid rest (drop place now) ≡ laid whole before

-- the part of the buffer that is still free, as it is lent; and the buffer once this part is back
abbrev pub free : ℕ → List ℕ → List ℕ
free place now = take (length now - place) (drop place now)

abbrev pub back : ℕ → List ℕ → List ℕ → List ℕ
back place now part = take place now ++ (part ++ drop (length now - place) (drop place now))

free_is : (place : ℕ) (now : List ℕ) → free place now ≡ drop place now
free_is place now = take_all (length now - place) (drop place now) (omega (arith, length-drop place now))

-- what is left begins with a piece
module _ {whole left before now : List ℕ} {place : ℕ} (w : Writing whole left before now place) (piece rest : List ℕ) (e : left ≡ piece ++ rest) where
  inside : place + length piece + length rest ≤ length now
  inside = omega (arith, w.next, w.size, w.room, ap length e, length-append piece rest)

  pub piece_room : length piece ≤ length (free place now)
  piece_room = omega (arith, inside, ap length (free_is place now), length-drop place now)

  module _ {part : List ℕ} {k : ℕ} (f : Fills piece (free place now) part k) where
    came : back place now part ≡ (take place now ++ piece) ++ drop (length piece) (drop place now)
    came =
        let e : drop (length now - place) (drop place now) ≡ [] = drop_of_length-le (drop place now) {i = length now - place} (omega (arith, length-drop place now)) in
        rw (e, f.filled, free_is place now) (ap (λ l. take place now ++ l) (append-nil (piece ++ drop (length piece) (drop place now))) ∙ sym (append_assoc (take place now) piece (drop (length piece) (drop place now))))

    front_size : length (take place now ++ piece) ≡ place + k
    front_size = omega (arith, f.number, length-append (take place now) piece, length-take-le place now (omega (arith, inside)))

    pub piece_next : Writing whole rest before (back place now part) (place + k)
    piece_next =
        let x : List ℕ = take place now ++ piece in
        let y : List ℕ = drop (length piece) (drop place now) in
        let d : drop (length (piece ++ rest)) (drop place now) ≡ drop (length rest) y =
        ap (λ n. drop n (drop place now)) (length-append piece rest) ∙ sym (drop-drop (length rest) (length piece) (drop place now)) in
        let l : take place now ++ laid (piece ++ rest) (drop place now) ≡ laid whole before = rw e at w.left in
        record {
          next = omega (arith, w.next, f.number, ap length e, length-append piece rest);
          size = ap length came ∙ omega (arith, w.size, inside, front_size, f.number, length-append x y, length-drop (length piece) (drop place now), length-drop place now);
          room = w.room;
          left = rw (came, take_at x y (place + k) front_size, drop_at x y (place + k) front_size)
              (append_assoc (take place now) piece (laid rest y) ∙ ap (λ l. take place now ++ l) (sym (append_assoc piece rest (drop (length rest) y)) ∙ ap (λ l. (piece ++ rest) ++ l) (sym d)) ∙ l);
        }

-- nothing is left
pub all_written : {whole left before now : List ℕ} {place : ℕ} → Writing whole left before now place → left ≡ [] → Fills whole before now place
all_written {whole} {left} {before} {now} {place} w e =
    let l : take place now ++ laid [] (drop place now) ≡ laid whole before = rw e at w.left in
    record { filled = sym (take-append-drop place now) ∙ l; number = omega (arith, w.next, ap length e) }

-- two pieces: the first goes into the whole buffer, the second behind it
pub first_room : (piece rest l : List ℕ) → length (piece ++ rest) ≤ length l → length piece ≤ length l
first_room piece rest l h = omega (arith, h, length-append piece rest)

module _ (piece rest : List ℕ) {before now : List ℕ} {k : ℕ} (h : length (piece ++ rest) ≤ length before) (f : Fills piece before now k) where
  pub first_written : Writing (piece ++ rest) rest before now k
  first_written =
      let l : length piece + length rest ≤ length before = omega (arith, h, length-append piece rest) in
      let y : List ℕ = drop (length piece) before in
      record {
        next = omega (arith, f.number, length-append piece rest);
        size = ap length f.filled ∙ omega (arith, l, length-append piece y, length-drop (length piece) before);
        room = h;
        left = rw (f.filled, take_at piece y k (sym f.number), drop_at piece y k (sym f.number))
            (sym (append_assoc piece rest (drop (length rest) y)) ∙ ap (λ l. (piece ++ rest) ++ l) (drop-drop (length rest) (length piece) before ∙ ap (λ n. drop n before) (sym (length-append piece rest))));
      }

  pub second_room : length rest ≤ length (free k now)
  second_room = piece_room first_written rest [] (sym (append-nil rest))

  module _ {part : List ℕ} {m : ℕ} (g : Fills rest (free k now) part m) where
    pub second_done : Fills (piece ++ rest) before (back k now part) (k + m)
    second_done = all_written (piece_next first_written rest [] (sym (append-nil rest)) g) refl

-- one byte is stored
module _ {whole rest before now : List ℕ} {place b : ℕ} (w : Writing whole (b ∷ rest) before now place) where
  byte_inside : place < length now
  byte_inside = omega (arith, w.next, w.size, w.room)

  byte_stored : Writing whole rest before (set now place b) (place + 1)
  byte_stored =
      let e : drop (place + 1) (set now place b) ≡ drop (place + 1) now = drop-set-lt (place + 1) now place b (omega arith) in
      let n : place + 1 + length rest ≡ place + suc (length rest) = omega arith in
      let d : drop (length rest) (drop (place + 1) now) ≡ drop (suc (length rest)) (drop place now) =
      drop-drop (length rest) (place + 1) now ∙ ap (λ n. drop n now) n ∙ sym (drop-drop (suc (length rest)) place now) in
      record {
        next = omega (arith, w.next);
        size = length-set now place b ∙ w.size;
        room = w.room;
        left = rw (take_more_set now place b byte_inside, e) (append_assoc (take place now) (b ∷ []) (laid rest (drop (place + 1) now)) ∙ ap (λ l. take place now ++ (b ∷ (rest ++ l))) d ∙ w.left);
      }

-- of a record of n numbers those from i on are still to be written
pub record NumbersLeft (n kind : ℕ) (numbers before now : List ℕ) (i : ℕ) : Type 0 where
  pub all : length numbers ≡ n
  pub left : Writing (record_of kind numbers) (words (drop i numbers)) before now (1 + 2 * i)

module _ {n kind i : ℕ} {numbers before now : List ℕ} (l : NumbersLeft n kind numbers before now i) where
  pub numbers_done : n ≤ i → i ≤ n → Fills (record_of kind numbers) before now (1 + 2 * n)
  unfolding words
  numbers_done h k =
      let e : i ≡ n = omega arith in
      rw (← e) (all_written l.left (ap words (drop_of_length-le numbers (omega (arith, l.all)))))

  module _ (h : i < n) where
    here : Writing (record_of kind numbers) (at numbers i % 256 ∷ at numbers i / 256 ∷ words (drop (i + 1) numbers)) before now (1 + 2 * i)
    unfolding words
    here = let w = l.left in rw (from_next numbers i (omega (arith, l.all))) at w

    pub low_inside : 1 + 2 * i < length now
    low_inside = byte_inside here

    behind : (low : ℕ) → low ≡ at numbers i % 256 → Writing (record_of kind numbers) (at numbers i / 256 ∷ words (drop (i + 1) numbers)) before (set now (1 + 2 * i) low) (2 + 2 * i)
    behind low e = let z : 1 + 2 * i + 1 ≡ 2 + 2 * i = omega arith in let w = byte_stored here in rw (e, ← z) w

    pub high_inside : (low : ℕ) → 2 + 2 * i < length (set now (1 + 2 * i) low)
    high_inside low = rw (length-set now (1 + 2 * i) low) (omega (arith, here.next, here.size, here.room))

    pub number_stored : {bytes : List ℕ} → at numbers i < 2 ^ 16 → bytes ≡ at numbers i % 256 ∷ at numbers i / 256 % 256 ∷ []
        → NumbersLeft n kind numbers before (set (set now (1 + 2 * i) (at bytes 0)) (2 + 2 * i) (at bytes 1)) (i + 1)
    number_stored f e =
        let q : at numbers i / 256 % 256 ≡ at numbers i / 256 = omega (arith, f) in
        let z : 2 + 2 * i + 1 ≡ 1 + 2 * (i + 1) = omega arith in
        rw (e, q) (record { all = l.all; left = let w = byte_stored (behind _ refl) in rw (← z) w })
