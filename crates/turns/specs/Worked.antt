-- Site files worked by hand, with what the program prints for each.
use Rattle.std.specs.Prelude.{◌≡◌, List, [], ◌∷◌, ◌++◌, map, ℕ, replicate}
use Prim.Native.String.{String}
use Rattle.text.specs.Text.{ascii}
use Rattle.turns.specs.Printed.{printed}

-- a file as bytes: of each record its kind and then its numbers, the low byte first; and what the program prints for it
pub record Row : Type 0 where
  pub name : String
  pub file : List ℕ
  pub prints : String

-- four machines: 1 under the hub 0, 2 and 3 under 1
abbrev tree : List ℕ
tree = 1 ∷ 4 ∷ 0 ∷ 2 ∷ 0 ∷ 0 ∷ 2 ∷ 0 ∷ 0 ∷ 2 ∷ 1 ∷ 0 ∷ 2 ∷ 1 ∷ 0 ∷ []

unfoldable pub files : List Row
files =
    record { name = "the document's example"; file = tree ++ (3 ∷ 0 ∷ 0 ∷ 2 ∷ 0 ∷ 4 ∷ 5 ∷ []); prints = "M 1 1\nL 3 1\nT 1 1\n" }
    ∷ record { name = "an empty file ends before the last uplink"; file = []; prints = "R 10 0\n" }
    ∷ record { name = "a lone last byte 2 after a whole tree is out of place"; file = tree ++ (2 ∷ []); prints = "R 12 15\n" }
    ∷ record { name = "within a record 12 comes before 10"; file = 1 ∷ 2 ∷ 0 ∷ 5 ∷ []; prints = "R 12 3\n" }
    ∷ record { name = "and 11 before both"; file = 1 ∷ 2 ∷ 0 ∷ 6 ∷ []; prints = "R 11 3\n" }
    ∷ record { name = "a record cut short"; file = 1 ∷ 2 ∷ []; prints = "R 10 2\n" }
    ∷ record { name = "n of 0"; file = 1 ∷ 0 ∷ 0 ∷ []; prints = "R 1 0\n" }
    ∷ record { name = "n of 4,097"; file = 1 ∷ 1 ∷ 16 ∷ []; prints = "R 1 4097\n" }
    ∷ record { name = "a tree that is refused"; file = 1 ∷ 2 ∷ 0 ∷ 2 ∷ 1 ∷ 0 ∷ 2 ∷ 0 ∷ 0 ∷ []; prints = "R 4 2\n" }
    ∷ record { name = "a bad link is refused when the batch is closed"; file = tree ++ (3 ∷ 0 ∷ 0 ∷ 9 ∷ 0 ∷ 4 ∷ []); prints = "R 8 0\n" }
    ∷ record { name = "and not before: the file ends with links not closed"; file = tree ++ (3 ∷ 0 ∷ 0 ∷ 9 ∷ 0 ∷ []); prints = "R 10 20\n" }
    ∷ record { name = "a report with open links is out of place"; file = tree ++ (3 ∷ 0 ∷ 0 ∷ 9 ∷ 0 ∷ 5 ∷ []); prints = "R 12 20\n" }
    ∷ record { name = "a sound file with no report prints nothing"; file = tree; prints = "" }
    ∷ record { name = "lines of earlier reports stand before a refusal"; file = tree ++ (5 ∷ 9 ∷ []); prints = "M 1 1\nL 1 0\nL 2 1\nL 3 1\nT 1 3\nR 11 16\n" }
    ∷ record { name = "as long as may be"; file = replicate 16384 1; prints = "R 12 3\n" }
    ∷ record { name = "and a byte longer"; file = replicate 16385 1; prints = "R 13 16384\n" }
    ∷ []

-- every file prints what was worked out by hand
abbrev pub FilesWorked : Type 0
FilesWorked = map (λ r. printed r.file) files ≡ map (λ r. ascii r.prints) files
