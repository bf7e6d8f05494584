-- For loops that count up: what is left of a list, and what a search keeps, number by number.
use mathlib.Core.Path.{◌≡◌}
use mathlib.Core.Bool.{Bool, false}
use mathlib.Core.List.{List, ◌∷◌}
use Prim.Native.Nat.{ℕ, ◌+◌, ◌<◌}
use native.Mathlib.Numerals.{add-one}
use lib.ListN.{length, drop}
use lib.Seq.{drop-cons}
use borrow.Author.Count.{below_more}
use Rattle.plain.specs.Table.{at}

-- what is left of a list from i on
pub from_next : (l : List ℕ) (i : ℕ) → i < length l → drop i l ≡ at l i ∷ drop (i + 1) l
from_next l i h = rw (drop-cons l i 0 h, add-one i)

-- p fails for every number below i
abbrev pub NoneBelow : (ℕ → Bool) → ℕ → Type 0
NoneBelow p i = (k : ℕ) → k < i → p k ≡ false

pub none_more : (p : ℕ → Bool) (i : ℕ) → NoneBelow p i → p i ≡ false → NoneBelow p (i + 1)
none_more p i none e = below_more (λ k. p k ≡ false) i none e
