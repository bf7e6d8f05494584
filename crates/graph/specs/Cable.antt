-- Cables: a list of pairs, each one cable, either way round. A pair may stand on it more than once: that is one more cable.
use Rattle.std.specs.Prelude.{◌≡◌, Bool, cond, ◌&&◌, ◌||◌, List, [], ◌∷◌, ◌⊎◌, ℕ, ◌+◌, ◌<◌, eqb}
use Rattle.plain.specs.Member.{◌∈◌}
use Rattle.graph.specs.Walk.{Walk}

abbrev pub Cables : Type 0
Cables = List (ℕ × ℕ)

-- both ends of every cable are among the n machines
abbrev pub Within : ℕ → Cables → Type 0
Within n E = (a b : ℕ) → (a, b) ∈ E → (a < n) × (b < n)

-- some cable joins a and b
abbrev pub Linked : Cables → ℕ → ℕ → Type 0
Linked E a b = ((a, b) ∈ E) ⊎ ((b, a) ∈ E)

-- the cable p joins a and b
unfoldable pub joins : ℕ → ℕ → ℕ × ℕ → Bool
joins a b p = eqb p.0 a && eqb p.1 b || eqb p.0 b && eqb p.1 a

-- how many cables join a and b
unfoldable pub between : Cables → ℕ → ℕ → ℕ
between [] a b = 0
between (p ∷ E) a b = cond (joins a b p) 1 0 + between E a b

-- E with one cable between a and b taken out
unfoldable pub less : Cables → ℕ → ℕ → Cables
less [] a b = []
less (p ∷ E) a b = cond (joins a b p) E (p ∷ less E a b)

-- a and b are joined by one cable, and taking it out parts them
pub record ChokePair (E : Cables) (a b : ℕ) : Type 0 where
  pub single : between E a b ≡ 1
  pub parted : ¬ Walk (Linked (less E a b)) a b
