-- The up table as a tree of the theory of rings. The laws and the proofs speak of it; no demand does.
use Rattle.std.specs.Prelude.{List, length, ℕ}
use Rattle.plain.specs.Table.{at}
use Rattle.rings.specs.Tree.{Tree}
use Rattle.tables.specs.Tree.{hub}

abbrev pub tree_of : List ℕ → Tree
tree_of up = record { size = length up; hub = hub up; up = λ v. at up v }
