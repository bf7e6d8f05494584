-- The body of a record, by the two tests that find it: the kind alone fixes the length, so each case is the definition with its tests known.
use mathlib.Core.Path.{◌≡◌}
use mathlib.Core.List.{List, []}
use Prim.Native.Nat.{ℕ, ◌+◌, ◌-◌, ◌<◌, ◌≤◌}
use native.Mathlib.Omega.{arith}
use lib.ListN.{length, take, drop}
use borrow.Author.Tests.{lt-ltb, le-ltb, le-leb, lt-leb}
use Rattle.plain.specs.Table.{at}
use Rattle.sitefile.specs.Record.{body_length, whole, body_of}

-- no bytes from anywhere
nothing : (a : ℕ) (l : List ℕ) → take (a - a) l ≡ []
nothing a l = let q : a - a ≡ 0 = omega arith in rw q

module _ (file : List ℕ) (place len : ℕ) (kind : len ≡ body_length (at file place)) where
  pub body_whole : place < length file → len ≤ length file - (place + 1) → take (place + 1 + len - (place + 1)) (drop (place + 1) file) ≡ body_of file place
  unfolding body_of whole
  body_whole h l =
      let q : place + 1 + len - (place + 1) ≡ len = omega arith in
      let b : place + 1 + len ≤ length file = omega arith in
      rw (q, ← kind, lt-ltb place (length file) h, le-leb (place + 1 + len) (length file) b)

  pub body_short : place < length file → length file - (place + 1) < len → take (place + 1 - (place + 1)) (drop (place + 1) file) ≡ body_of file place
  unfolding body_of whole
  body_short h l =
      let b : length file < place + 1 + len = omega arith in
      rw (nothing (place + 1), ← kind, lt-ltb place (length file) h, lt-leb (place + 1 + len) (length file) b)

pub body_past : (file : List ℕ) (place : ℕ) → length file ≤ place → [] ≡ body_of file place
unfolding body_of whole
body_past file place h = rw (le-ltb place (length file) h)
