-- The machines seen, in lists by their depth. An entry is one more than a machine, 0 where the list ends; a list goes down in number. Whoever is on
-- no list has no next.
use Rattle.std.specs.Prelude.{◌≡◌, List, ◌≢◌, ℕ, suc, ◌<◌, ◌≤◌, length, Option, MatchOption}
use Rattle.plain.specs.Table.{at}
use Rattle.tables.specs.Tree.{most_machines}
use Rattle.lanes.specs.Seen.{none, Seen}

abbrev pub Listed : List ℕ → ℕ → Type 0
Listed next v = at next v ≢ none

-- whoever is listed of the machines below i of n stands on the list of its depth, which d tells: the head is past all of them, the next past all lesser ones
pub record Lists (n : ℕ) (d : ℕ → ℕ) (i : ℕ) (head next : List ℕ) : Type 0 where
  pub far : i ≤ n
  pub heads : length head ≡ n
  pub nexts : length next ≡ n
  pub first : (v : ℕ) → v < i → Listed next v → v < at head (d v)
  pub more : (u v : ℕ) → u < v → v < i → Listed next u → Listed next v → d u ≡ d v → u < at next v
  pub head_on : (k v : ℕ) → at head k ≡ suc v → (v < i) × Listed next v × (d v ≡ k)
  pub next_on : (u v : ℕ) → u < i → Listed next u → at next u ≡ suc v → (v < u) × Listed next v × (d v ≡ d u)

-- the machines below i that are seen are listed, and only they
pub record Listing (depth low : List ℕ) (i : ℕ) (head next : List ℕ) : Type 0 where
  pub lists : Lists (length depth) (at depth) i head next
  pub seen : (v : ℕ) → v < i → Seen low v → Listed next v
  pub only : (v : ℕ) → v < i → Listed next v → Seen low v
  pub rest : (v : ℕ) → i ≤ v → v < length depth → at next v ≡ none

-- depths below n
pub record Sorted (depth low : List ℕ) : Type 0 where
  pub few : length depth ≤ most_machines
  pub inside : (v : ℕ) → v < length depth → at depth v < length depth
  pub lows : length low ≡ length depth

-- with the lists of the machines below i
pub record ListableAt (depth low head next : List ℕ) (i : ℕ) : Type 0 where
  pub sorted : Sorted depth low
  pub here : i < length depth
  pub listing : Listing depth low i head next

-- with empty lists
pub record Listable (depth low head next : List ℕ) : Type 0 where
  pub sorted : Sorted depth low
  pub heads : length head ≡ length depth
  pub nexts : length next ≡ length depth
  pub empty : (k : ℕ) → at head k ≡ 0
  pub free : (v : ℕ) → v < length depth → at next v ≡ none

-- x is one more than a machine on the list of depth k, or 0
abbrev pub OnList : ℕ → (ℕ → ℕ) → List ℕ → ℕ → ℕ → Type 0
OnList n d next k x = (v : ℕ) → x ≡ suc v → (v < n) × Listed next v × (d v ≡ k)

-- a walk of the list of depth k that stands before the machine that x is one more than came by u there
abbrev pub Past : (ℕ → ℕ) → ℕ → ℕ → ℕ → Type 0
Past d k x u = (d u ≡ k) × (x ≤ u)

-- x is one more than a machine on a list, or 0
abbrev pub Begins : List ℕ → ℕ → Type 0
Begins next x = (v : ℕ) → x ≡ suc v → (v < length next) × Listed next v

-- whoever is on a list leads to a lesser one
abbrev pub Falls : List ℕ → Type 0
Falls next = (u w : ℕ) → u < length next → Listed next u → at next u ≡ suc w → (w < u) × Listed next w

-- one step of a walk from x gives the machine that x is one more than, and stands at y then; none where the list ends
abbrev pub Stepped : List ℕ → ℕ → Option ℕ → List ℕ → ℕ → Type 0
Stepped next x r next' y = (next' ≡ next) × MatchOption r (x ≡ 0) (λ v. (x ≡ suc v) × (y ≡ at next v))
