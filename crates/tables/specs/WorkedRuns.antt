-- Runs of batches worked by hand: what Add's values sum to, the most that they can on that tree, and how many labels moved.
use Rattle.std.specs.Prelude.{◌≡◌, List, [], ◌∷◌, map, ℕ, length}
use Rattle.tables.specs.History.{History}
use Rattle.tables.specs.Outcome.{start_of}
use Rattle.tables.specs.Calls.{accepted_of}
use Rattle.tables.specs.Work.{work, most_work, fullest}
use Rattle.tables.specs.Labels.{moves_of}
use Rattle.tables.specs.Worked.{nines, nine_bytes, list}

abbrev pub Run : Type 0
Run = record { up : List ℕ; run : History; sum : ℕ; most : ℕ; moves : ℕ }

-- what the definitions say of the same tree and batches
abbrev pub said_of : Run → Run
said_of r =
    let t = nines (length r.up) in
    record { up = r.up; run = r.run; sum = work r.up r.run t; most = most_work r.up; moves = moves_of r.up (nine_bytes (length r.up)) r.run (start_of r.up t).lent }

-- P1, P3, P5, P7 and P8; P8 in parts, with batches among them that are refused with 8 and 7; a batch again; P8's tree at its most; a hub that is not 0
unfoldable pub runs : List Run
unfolding list
runs =
    record { up = list "0"; run = []; sum = 0; most = 0; moves = 0 }
    ∷ record { up = list "0,0"; run = list "0,1" ∷ []; sum = 1; most = 1; moves = 1 }
    ∷ record { up = list "0,0,0"; run = list "1,2" ∷ []; sum = 2; most = 2; moves = 3 }
    ∷ record { up = list "0,0,1"; run = list "0,2" ∷ []; sum = 3; most = 3; moves = 3 }
    ∷ record { up = list "0,0,1,2,3,0"; run = list "1,5 1,3 2,4" ∷ []; sum = 7; most = 8; moves = 8 }
    ∷ record { up = list "0,0,1,2,3,0"; run = list "1,5" ∷ list "1,5 7,7" ∷ list "1,3 2" ∷ list "1,3 2,4" ∷ []; sum = 7; most = 8; moves = 8 }
    ∷ record { up = list "0,0,1"; run = list "0,2" ∷ list "0,2" ∷ list "2,1" ∷ []; sum = 3; most = 3; moves = 3 }
    ∷ record { up = list "0,0,1,2,3,0"; run = list "5,0" ∷ list "4,2" ∷ list "3,1" ∷ list "2,0" ∷ list "1,0" ∷ []; sum = 8; most = 8; moves = 8 }
    ∷ record { up = list "1,1,1,0"; run = list "3,1" ∷ list "2,1" ∷ list "0,1" ∷ []; sum = 4; most = 4; moves = 4 }
    ∷ []

-- every run comes to what was worked out; the last two are the fullest of their trees; and of P8 in parts two batches are accepted
pub record RunsWorked : Type 0 where
  pub said : map said_of runs ≡ runs
  pub fullest_six : fullest (list "0,0,1,2,3,0") ≡ list "5,0" ∷ list "4,2" ∷ list "3,1" ∷ list "2,0" ∷ list "1,0" ∷ []
  pub accepted : accepted_of 6 (list "1,5" ∷ list "1,5 7,7" ∷ list "1,3 2" ∷ list "1,3 2,4" ∷ []) ≡ list "1,5" ∷ list "1,3 2,4" ∷ []
  pub fullest_four : fullest (list "1,1,1,0") ≡ list "3,1" ∷ list "2,1" ∷ list "0,1" ∷ []
