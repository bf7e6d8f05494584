-- A batch of links: when it is accepted, and the tables after it.
use Rattle.std.specs.Prelude.{cond, ◌&&◌, ◌||◌, List, [], ◌∷◌, ℕ, suc, ◌*◌, ◌-◌, ◌%◌, length, leb, eqb}
use Rattle.plain.specs.Table.{at, tabulate, total}
use Rattle.graph.specs.Cable.{Cables}
use Rattle.tables.specs.Verdict.{Fault, Verdict, Sound, Refused, checks, unless}
use Rattle.tables.specs.Tables.{Tables}
use Rattle.tables.specs.Link.{linked}

-- a batch has at most so many links
abbrev pub most_links : ℕ
most_links = 1024

-- two numbers for each link
unfoldable pub pairs : List ℕ → Cables
pairs [] = []
pairs (a ∷ []) = []
pairs (a ∷ b ∷ l) = (a, b) ∷ pairs l

-- a link as a batch of its own
abbrev pub alone : ℕ × ℕ → List ℕ
alone p = p.0 ∷ (p.1 ∷ [])

-- code 7: a batch of so many numbers, an odd number or over 2,048
unfoldable pub numbers_verdict : ℕ → Verdict
numbers_verdict k = unless (eqb (k % 2) 0 && leb k (2 * most_links)) Fault.Length k

-- link by link, from index i on: 8, an end is n or more; 9, a machine is joined to itself
unfoldable pub ends_verdict : ℕ → ℕ → Cables → Verdict
ends_verdict n i [] = Sound
ends_verdict n i (p ∷ l) =
    cond (leb n p.0 || leb n p.1) (Refused Fault.End i) (cond (eqb p.0 p.1) (Refused Fault.Loop i) (ends_verdict n (suc i) l))

unfoldable pub batch_verdict : ℕ → List ℕ → Verdict
batch_verdict n batch = checks (numbers_verdict (length batch) ∷ ends_verdict n 0 (pairs batch) ∷ [])

-- the tables after some links, one by one
unfoldable pub after : List ℕ → Cables → Tables → Tables
after up [] t = t
after up (p ∷ l) t = after up l (linked up p.0 p.1 t)

-- the total by which marks rose: the differences between the tables after and before, added up
unfoldable pub rise : Tables → Tables → ℕ
rise t t' = total (tabulate (length t.mark) (λ x. at t'.mark x - at t.mark x))
