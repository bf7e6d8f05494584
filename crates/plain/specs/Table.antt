-- Lists read as tables: an entry, a list by its rule, the sum of the entries.
use Rattle.std.specs.Prelude.{List, [], ◌∷◌, ℕ, zero, suc, ◌+◌, get_or}

-- entry i of the table
abbrev pub at : List ℕ → ℕ → ℕ
at l i = get_or l i 0

-- the list of f 0, f 1, .., n of them
unfoldable pub tabulate : ℕ → (ℕ → ℕ) → List ℕ
tabulate zero f = []
tabulate (suc n) f = f zero ∷ tabulate n (λ k. f (suc k))

-- all entries added up
unfoldable pub total : List ℕ → ℕ
total [] = 0
total (m ∷ ms) = m + total ms
