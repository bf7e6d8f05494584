-- Records of the site file: one byte of kind, then a body whose length the kind fixes. Numbers are little-endian, 16 bits.
use Rattle.std.specs.Prelude.{Bool, cond, ◌&&◌, List, [], ◌∷◌, ℕ, ◌+◌, ◌*◌, ◌/◌, ◌%◌, length, take, drop, leb, ltb, eqb}
use Rattle.plain.specs.Table.{at}

-- 1 n, 2 the up of the next machine, 3 a link, 4 close the batch, 5 report
abbrev pub known : ℕ → Bool
known kind = leb 1 kind && leb kind 5

-- an unknown kind has no body
unfoldable pub body_length : ℕ → ℕ
body_length kind = cond (eqb kind 1) 2 (cond (eqb kind 2) 2 (cond (eqb kind 3) 4 0))

-- the record at this place is whole
unfoldable pub whole : List ℕ → ℕ → Bool
whole file place = ltb place (length file) && leb (place + 1 + body_length (at file place)) (length file)

-- its body: that part of the file, and an empty part for an unknown kind, a record cut short, or a place at or past the end
unfoldable pub body_of : List ℕ → ℕ → List ℕ
body_of file place = cond (whole file place) (take (body_length (at file place)) (drop (place + 1) file)) []

-- number i of a body
abbrev pub word : List ℕ → ℕ → ℕ
word body i = at body (2 * i) + 256 * at body (2 * i + 1)

-- numbers as a body has them
unfoldable pub words : List ℕ → List ℕ
words [] = []
words (n ∷ numbers) = n % 256 ∷ n / 256 ∷ words numbers

-- the record of this kind with these numbers
abbrev pub record_of : ℕ → List ℕ → List ℕ
record_of kind numbers = kind ∷ words numbers
