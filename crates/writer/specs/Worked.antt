-- Worked by hand: plans, with what the writer answers and leaves, a row or more for every code and for which check goes first; and files, with what each says.
use Rattle.std.specs.Prelude.{◌≡◌, List, [], ◌∷◌, ◌++◌, map, ℕ, replicate}
use Prim.Native.String.{String}
use Rattle.tables.specs.declared.Answer.{Answer}
use Rattle.tables.specs.Outcome.{Outcome, outcome}
use Rattle.tables.specs.Worked.{list}
use Rattle.writer.specs.Written.{write_of}
use Rattle.writer.specs.Said.{adds, asks, Said, says, nothing, said_by}

-- what is lent, how long the buffer is (it holds nines), and the answer with what is written over its front
pub record Row : Type 0 where
  pub name : String
  pub up : List ℕ
  pub links : List ℕ
  pub lengths : List ℕ
  pub reports : List ℕ
  pub buffer : ℕ
  pub by_hand : Outcome Answer (List ℕ)

-- code 0, the length, and these bytes before so many nines
abbrev done : ℕ → List ℕ → ℕ → Outcome Answer (List ℕ)
done len bytes rest = outcome (record { code = 0; value = len }) (bytes ++ replicate rest 9)

-- a code and a value, and the buffer of so many nines as it came
abbrev refuses : ℕ → ℕ → ℕ → Outcome Answer (List ℕ)
refuses code value buffer = outcome (record { code = code; value = value }) (replicate buffer 9)

-- four machines: 1 under the hub 0, 2 and 3 under 1; and their records
abbrev tree : List ℕ
tree = list "0,0,1,1"

abbrev tree_file : List ℕ
tree_file = list "1,4,0,2,0,0,2,0,0,2,1,0,2,1,0"

unfoldable pub plans : List Row
plans =
    record { name = "document 01's example"; up = tree; links = list "0,2"; lengths = list "2"; reports = list "1"; buffer = 22; by_hand = done 22 (tree_file ++ list "3,0,0,2,0,4,5") 0 }
    ∷ record { name = "bytes past the file stay"; up = tree; links = list "0,2"; lengths = list "2"; reports = list "1"; buffer = 25; by_hand = done 22 (tree_file ++ list "3,0,0,2,0,4,5") 3 }
    ∷ record { name = "no batch"; up = tree; links = []; lengths = []; reports = []; buffer = 15; by_hand = done 15 tree_file 0 }
    ∷ record { name = "empty batches, and bytes 0, 1 and 255"; up = tree; links = []; lengths = list "0,0,0"; reports = 0 ∷ 1 ∷ 255 ∷ []; buffer = 20; by_hand = done 20 (tree_file ++ list "4,4,5,4,5") 0 }
    ∷ record { name = "batches of two links, none and one"; up = tree; links = list "0,2,2,3,3,0"; lengths = list "4,0,2"; reports = list "0,0,1"; buffer = 34; by_hand = done 34 (tree_file ++ list "3,0,0,2,0,3,2,0,3,0,4,4,3,3,0,0,0,4,5") 0 }
    ∷ record { name = "1, no machine"; up = []; links = []; lengths = []; reports = []; buffer = 3; by_hand = refuses 1 0 3 }
    ∷ record { name = "3, an entry that is no machine"; up = list "0,2"; links = []; lengths = []; reports = []; buffer = 3; by_hand = refuses 3 1 3 }
    ∷ record { name = "4, no hub"; up = list "1,0"; links = []; lengths = []; reports = []; buffer = 3; by_hand = refuses 4 2 3 }
    ∷ record { name = "4, two hubs, before 27"; up = list "0,1"; links = []; lengths = []; reports = list "1"; buffer = 3; by_hand = refuses 4 1 3 }
    ∷ record { name = "5, machines that never reach the hub"; up = list "0,2,1"; links = []; lengths = []; reports = []; buffer = 3; by_hand = refuses 5 1 3 }
    ∷ record { name = "27, a report too few"; up = tree; links = list "0,2"; lengths = list "0,2"; reports = list "1"; buffer = 3; by_hand = refuses 27 2 3 }
    ∷ record { name = "27, a report too many"; up = tree; links = []; lengths = []; reports = list "1"; buffer = 3; by_hand = refuses 27 0 3 }
    ∷ record { name = "27, lengths over the numbers lent"; up = tree; links = list "0,2"; lengths = list "3"; reports = list "1"; buffer = 3; by_hand = refuses 27 1 3 }
    ∷ record { name = "27, lengths below the numbers lent, before 7"; up = tree; links = list "0,2,1,1"; lengths = list "3"; reports = list "1"; buffer = 3; by_hand = refuses 27 1 3 }
    ∷ record { name = "27, lengths below the numbers lent, before 8"; up = tree; links = list "0,4,0"; lengths = list "2"; reports = list "1"; buffer = 3; by_hand = refuses 27 1 3 }
    ∷ record { name = "7, an odd length"; up = tree; links = list "0,2"; lengths = list "1,1"; reports = list "0,0"; buffer = 3; by_hand = refuses 7 1 3 }
    ∷ record { name = "7, a batch too long, after a good one"; up = tree; links = replicate 2050 0; lengths = 0 ∷ 2050 ∷ []; reports = list "0,0"; buffer = 3; by_hand = refuses 7 2050 3 }
    ∷ record { name = "8 of the first batch before 7 of the second"; up = tree; links = list "0,4,0"; lengths = list "2,1"; reports = list "0,0"; buffer = 3; by_hand = refuses 8 0 3 }
    ∷ record { name = "8, by its index within its batch"; up = tree; links = list "0,2,0,1,5,3"; lengths = list "2,4"; reports = list "0,0"; buffer = 3; by_hand = refuses 8 1 3 }
    ∷ record { name = "9, by its index within its batch"; up = tree; links = list "0,2,0,1,3,3"; lengths = list "2,4"; reports = list "0,0"; buffer = 3; by_hand = refuses 9 1 3 }
    ∷ record { name = "9, before 13"; up = list "0"; links = list "0,0"; lengths = 2 ∷ replicate 16378 0; reports = replicate 16379 0; buffer = 3; by_hand = refuses 9 0 3 }
    ∷ record { name = "13, a file of 16,385 bytes, before 14"; up = list "0"; links = []; lengths = replicate 16379 0; reports = replicate 16379 0; buffer = 3; by_hand = refuses 13 16384 3 }
    ∷ record { name = "14, a file of 16,384 bytes"; up = list "0"; links = []; lengths = replicate 16378 0; reports = replicate 16378 0; buffer = 3; by_hand = refuses 14 16384 3 }
    ∷ record { name = "14, a buffer a byte too short"; up = tree; links = list "0,2"; lengths = list "2"; reports = list "1"; buffer = 21; by_hand = refuses 14 22 21 }
    ∷ []

-- every plan comes out as it was worked out by hand
abbrev pub PlansWorked : Type 0
PlansWorked = map (λ r. write_of r.up r.links r.lengths r.reports (replicate r.buffer 9)) plans ≡ map (λ r. r.by_hand) plans

-- a file, and what it says
pub record FileRow : Type 0 where
  pub name : String
  pub file : List ℕ
  pub said : Said

unfoldable pub files : List FileRow
files =
    record { name = "document 01's example"; file = tree_file ++ list "3,0,0,2,0,4,5"; said = says tree (adds (list "0,2") ∷ asks ∷ []) }
    ∷ record { name = "a report before any batch, and an empty batch"; file = tree_file ++ list "5,4"; said = says tree (asks ∷ adds [] ∷ []) }
    ∷ record { name = "a tree alone"; file = tree_file; said = says tree [] }
    ∷ record { name = "links that are not closed"; file = tree_file ++ list "3,0,0,2,0"; said = nothing }
    ∷ record { name = "an unknown kind at the end, which the reader refuses"; file = tree_file ++ list "3,0,0,2,0,4,5,6"; said = nothing }
    ∷ record { name = "a bad link"; file = tree_file ++ list "3,0,0,9,0,4"; said = nothing }
    ∷ record { name = "a file of 16,385 bytes"; file = list "1,1,0,2,0,0" ++ replicate 16379 4; said = nothing }
    ∷ []

-- every file says what was worked out by hand
abbrev pub SaidWorked : Type 0
SaidWorked = map (λ r. said_by r.file) files ≡ map (λ r. r.said) files
