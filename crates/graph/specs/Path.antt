-- Paths without a repeated machine, each with the list of its machines; and two of them that share only their ends.
use Rattle.std.specs.Prelude.{◌≡◌, List, [], ◌∷◌, ◌≢◌, ◌⊎◌, ℕ}
use Rattle.plain.specs.Member.{◌∈◌}
use Rattle.graph.specs.Walk.{Relation}

-- from a to c along R through the machines of the list, each once
pub data Path (R : Relation) : ℕ → ℕ → List ℕ → Type 0 where
  done : {a : ℕ} → Path R a a (a ∷ [])
  hop : {a b c : ℕ} {l : List ℕ} → R a b → ¬ (a ∈ l) → Path R b c l → Path R a c (a ∷ l)

-- the list's first machine is a
abbrev pub Starts : ℕ → List ℕ → Type 0
Starts a [] = ⊥
Starts a (x ∷ l) = x ≡ a

-- its last is c
abbrev pub Ends : ℕ → List ℕ → Type 0
Ends c [] = ⊥
Ends c (x ∷ []) = x ≡ c
Ends c (x ∷ y ∷ l) = Ends c (y ∷ l)

-- b stands on it right after a
pub data Next (a b : ℕ) : List ℕ → Type 0 where
  now : {x y : ℕ} {l : List ℕ} → a ≡ x → b ≡ y → Next a b (x ∷ y ∷ l)
  further : {x : ℕ} {l : List ℕ} → Next a b l → Next a b (x ∷ l)

-- nothing stands on it twice
abbrev pub Once : List ℕ → Type 0
Once [] = Unit {0}
Once (x ∷ l) = ¬ (x ∈ l) × Once l

-- what a path is, in plain words
pub record InWords (R : Relation) (a c : ℕ) (l : List ℕ) : Type 0 where
  pub starts : Starts a l
  pub ends : Ends c l
  pub linked : (x y : ℕ) → Next x y l → R x y
  pub once : Once l

-- two different paths from u to v that share only their ends
pub record TwoPaths (R : Relation) (u v : ℕ) : Type 0 where
  pub on : List ℕ
  pub by : List ℕ
  pub one : Path R u v on
  pub two : Path R u v by
  pub share : (m : ℕ) → m ∈ on → m ∈ by → (m ≡ u) ⊎ (m ≡ v)
  pub differ : on ≢ by
