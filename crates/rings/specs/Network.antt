-- A network: a tree and its cross links, which are a relation.
use Rattle.std.specs.Prelude.{◌≢◌, ℕ, ◌<◌}
use Rattle.graph.specs.Walk.{Relation}
use Rattle.rings.specs.Tree.{Tree, Uplink, Rooted}

-- a cable from a to b: an uplink, either way, or a cross link
pub data Cable (U L : Relation) (a b : ℕ) : Type 0 where
  rising : U a b → Cable U L a b
  falling : U b a → Cable U L a b
  cross : L a b → Cable U L a b

-- a and b are joined by a cable of the network
abbrev pub Cabled : Tree → Relation → ℕ → ℕ → Type 0
Cabled T L = Cable (Uplink T) L

-- by one other than the uplink of v; a cross link over the same pair is one more cable, and stays
abbrev pub CabledBut : Tree → Relation → ℕ → ℕ → ℕ → Type 0
CabledBut T L v = Cable (λ a b. (a ≢ v) × Uplink T a b) L

-- the laws of a network: its tree is one, and its cross links join machines, either way round
pub record Network (T : Tree) (L : Relation) : Type 0 where
  pub rank : ℕ → ℕ
  pub rooted : Rooted T rank
  pub flip : (a b : ℕ) → L a b → L b a
  pub near : (a b : ℕ) → L a b → a < T.size
