-- A list laid over the front of a slice.
use Rattle.std.specs.Prelude.{List, ◌++◌, ℕ, length, drop}

-- the rest of the slice stays
abbrev pub laid : List ℕ → List ℕ → List ℕ
laid l slice = l ++ drop (length l) slice
