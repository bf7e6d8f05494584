-- A choke machine: taking it out leaves two other machines with no path between them.
use Rattle.std.specs.Prelude.{◌≢◌, ℕ, ◌<◌}
use Rattle.graph.specs.Walk.{Relation, Walk}

-- R with machine w taken out: what is left is between other machines
abbrev pub Without : Relation → ℕ → ℕ → ℕ → Type 0
Without R w a b = (a ≢ w) × (b ≢ w) × R a b

-- of the n machines two others have no walk between them without w
pub record Choke (n : ℕ) (R : Relation) (w : ℕ) : Type 0 where
  pub one : ℕ
  pub two : ℕ
  pub one_in : one < n
  pub two_in : two < n
  pub one_other : one ≢ w
  pub two_other : two ≢ w
  pub parted : ¬ Walk (Without R w) one two
