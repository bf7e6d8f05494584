-- What is proved of networks, as statements. Their proofs are in proofs/.
use Rattle.std.specs.Prelude.{◌≡◌, List, ◌≢◌, ◌⊎◌, ◌↔◌, ℕ, ◌≤◌, ◌<◌}
use Rattle.graph.specs.Walk.{Relation}
use Rattle.graph.specs.Choke.{Choke}
use Rattle.graph.specs.Cable.{Cables, Within, Linked, ChokePair}
use Rattle.graph.specs.Path.{Path, InWords, TwoPaths}
use Rattle.graph.specs.Renumbering.{OneToOne, KeepsLinks, class, KeepsCables}

-- a path is what it is in plain words
abbrev pub PathsInWords : Type 1
PathsInWords = (R : Relation) (a c : ℕ) (l : List ℕ) → Path R a c l ↔ InWords R a c l

-- on three machines or more none is a choke exactly where any two have two different paths that share only their ends
abbrev pub TwoPathsExactly : Type 0
TwoPathsExactly = (n : ℕ) (E : Cables) → 3 ≤ n → Within n E
    → ((w : ℕ) → w < n → ¬ Choke n (Linked E) w) ↔ ((u v : ℕ) → u < n → v < n → u ≢ v → TwoPaths (Linked E) u v)

-- a one-to-one renumbering has one that undoes it
abbrev pub Undone : Type 0
Undone = (n : ℕ) (f : ℕ → ℕ) → OneToOne n f
    → (g : ℕ → ℕ) × OneToOne n g × ((v : ℕ) → v < n → g (f v) ≡ v) × ((v : ℕ) → v < n → f (g v) ≡ v)

-- where it keeps linked pairs it carries choke machines exactly onto choke machines
abbrev pub MachinesCarried : Type 0
MachinesCarried = (n : ℕ) (f : ℕ → ℕ) (E F : Cables) → Within n E → Within n F → OneToOne n f → KeepsLinks n f (Linked E) (Linked F)
    → (w : ℕ) → w < n → Choke n (Linked E) w ↔ Choke n (Linked F) (f w)

-- the classes are none, one, two and more
abbrev pub Classes : Type 0
Classes = (k j : ℕ) → (class k ≡ class j) ↔ ((k ≡ j) ⊎ ((2 ≤ k) × (2 ≤ j)))

-- where it keeps none, one, two and more it keeps linked pairs
abbrev pub CablesLinks : Type 0
CablesLinks = (n : ℕ) (f : ℕ → ℕ) (E F : Cables) → KeepsCables n f E F → KeepsLinks n f (Linked E) (Linked F)

-- and carries the pairs with one cable whose removal parts them exactly onto such pairs
abbrev pub PairsCarried : Type 0
PairsCarried = (n : ℕ) (f : ℕ → ℕ) (E F : Cables) → Within n E → Within n F → OneToOne n f → KeepsCables n f E F
    → (a b : ℕ) → a < n → b < n → a ≢ b → ChokePair E a b ↔ ChokePair F (f a) (f b)
