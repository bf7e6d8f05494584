-- Renumberings of n machines, and what they may keep.
use Rattle.std.specs.Prelude.{◌≡◌, ◌≢◌, ◌↔◌, ℕ, ◌<◌, min}
use Rattle.graph.specs.Walk.{Relation}
use Rattle.graph.specs.Cable.{Cables, between}

-- f sends the n machines to the n machines, no two of them to one
pub record OneToOne (n : ℕ) (f : ℕ → ℕ) : Type 0 where
  pub into : (v : ℕ) → v < n → f v < n
  pub apart : (u v : ℕ) → u < n → v < n → f u ≡ f v → u ≡ v

-- each two different machines are linked just where their images are
abbrev pub KeepsLinks : ℕ → (ℕ → ℕ) → Relation → Relation → Type 0
KeepsLinks n f R Q = (a b : ℕ) → a < n → b < n → a ≢ b → R a b ↔ Q (f a) (f b)

-- none, one, two and more
abbrev pub class : ℕ → ℕ
class k = min k 2

-- the number of cables of each pair is kept: none, one, two and more
abbrev pub KeepsCables : ℕ → (ℕ → ℕ) → Cables → Cables → Type 0
KeepsCables n f E F = (a b : ℕ) → a < n → b < n → a ≢ b → class (between E a b) ≡ class (between F (f a) (f b))
