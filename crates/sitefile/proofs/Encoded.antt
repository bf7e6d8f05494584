-- A record that stands at the reader's place is read as it was put: its kind, its numbers, and what stands behind it. So the next step is that of its
-- kind, with these numbers.
use mathlib.Core.Path.{◌≡◌, refl, sym, ap, ◌∙◌}
use mathlib.Core.Bool.{true}
use mathlib.Core.List.{List, [], ◌∷◌, ◌++◌}
use Prim.Native.Nat.{ℕ, ◌+◌, ◌-◌, ◌*◌, ◌/◌, ◌%◌}
use native.Mathlib.Omega.{arith}
use lib.ListN.{length, drop, length-append, length-drop}
use lib.Seq.{get_or-drop, drop-drop, drop_at, take_at}
use borrow.Author.Tests.{lt-leb, le-leb, lt-ltb, le-ltb}
use Rattle.plain.specs.Table.{at}
use Rattle.sitefile.specs.Record.{known, body_length, whole, body_of, words, record_of}
use Rattle.sitefile.specs.File.{Read, ends, reader_of, closed, in_place, asked, behind, due_of, size, uplink, link, close, report, done, step}

-- a number is its two bytes
two_bytes : (n : ℕ) → n % 256 + 256 * (n / 256) ≡ n
two_bytes n = omega arith

module _ (file : List ℕ) (r : Read) where
  module _ (kind : ℕ) (numbers post : List ℕ) (size : length (words numbers) ≡ body_length kind) (here : drop r.place file ≡ record_of kind numbers ++ post) where
    room : length file - r.place ≡ 1 + body_length kind + length post
    room = sym (length-drop r.place file) ∙ ap length here ∙ omega (arith, length-append (words numbers) post)

    pub kind_is : at file r.place ≡ kind
    kind_is =
        let z : r.place + 0 ≡ r.place = omega arith in
        let q : at file (r.place + 0) ≡ kind = sym (get_or-drop r.place file 0 0) ∙ ap (λ l. at l 0) here in
        rw z at q

    rest_is : drop (r.place + 1) file ≡ words numbers ++ post
    rest_is = sym (drop-drop 1 r.place file) ∙ ap (drop 1) here

    pub behind_is : drop (behind r.place kind) file ≡ post
    behind_is = sym (drop-drop (body_length kind) (r.place + 1) file) ∙ ap (drop (body_length kind)) rest_is ∙ drop_at (words numbers) post (body_length kind) size

    body_is : body_of file r.place ≡ words numbers
    unfolding body_of whole
    body_is =
        let k = room in
        rw (kind_is, lt-ltb r.place (length file) (omega arith), le-leb (r.place + 1 + body_length kind) (length file) (omega arith), rest_is)
        (take_at (words numbers) post (body_length kind) size)

    step_is : known kind ≡ true → in_place kind (reader_of r) ≡ true → step file r ≡ done file r (asked kind)
    unfolding step due_of
    step_is known fits =
        let k = room in
        rw (lt-leb (length file) r.place (omega arith), kind_is, known, fits, le-ltb (length file) (behind r.place kind) (omega arith))

  abbrev Stands : ℕ → List ℕ → List ℕ → Type 0
  Stands kind numbers post = drop r.place file ≡ record_of kind numbers ++ post

  abbrev Fits : ℕ → Type 0
  Fits kind = in_place kind (reader_of r) ≡ true

  pub size_read : (n : ℕ) (post : List ℕ) → Stands 1 (n ∷ []) post → Fits 1 → step file r ≡ size r n
  unfolding done words body_length
  size_read n post here fits = rw (step_is 1 (n ∷ []) post refl here refl fits, body_is 1 (n ∷ []) post refl here) (ap (size r) (two_bytes n))

  pub uplink_read : (u : ℕ) (post : List ℕ) → Stands 2 (u ∷ []) post → Fits 2 → step file r ≡ uplink r u
  unfolding done words body_length
  uplink_read u post here fits = rw (step_is 2 (u ∷ []) post refl here refl fits, body_is 2 (u ∷ []) post refl here) (ap (uplink r) (two_bytes u))

  pub link_read : (a b : ℕ) (post : List ℕ) → Stands 3 (a ∷ b ∷ []) post → Fits 3 → step file r ≡ link r a b
  unfolding done words body_length
  link_read a b post here fits =
      rw (step_is 3 (a ∷ b ∷ []) post refl here refl fits, body_is 3 (a ∷ b ∷ []) post refl here, two_bytes a, two_bytes b)

  pub close_read : (post : List ℕ) → Stands 4 [] post → Fits 4 → step file r ≡ close r
  unfolding done words body_length
  close_read post here fits = rw (step_is 4 [] post refl here refl fits)

  pub report_read : (post : List ℕ) → Stands 5 [] post → Fits 5 → step file r ≡ report r
  unfolding done words body_length
  report_read post here fits = rw (step_is 5 [] post refl here refl fits)

  -- nothing is left
  pub end_read : drop r.place file ≡ [] → closed (reader_of r) ≡ true → step file r ≡ ends
  unfolding done step due_of
  end_read here fits =
      let k : length file - r.place ≡ 0 = sym (length-drop r.place file) ∙ ap length here in
      rw (le-leb (length file) r.place (omega arith), fits)
