-- A network as a relation between machines, and the walks along it.
use Rattle.std.specs.Prelude.{ℕ}

-- which machines are next to which
abbrev pub Relation : Type 1
Relation = ℕ → ℕ → Type 0

-- from a to c by steps of R, any number of them
pub data Walk (R : Relation) : ℕ → ℕ → Type 0 where
  stay : {a : ℕ} → Walk R a a
  step : {a b c : ℕ} → R a b → Walk R b c → Walk R a c
