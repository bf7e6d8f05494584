-- The three tables beside up: depth, group and mark.
use Rattle.std.specs.Prelude.{List, [], ◌∷◌, ℕ, length, replicate, eqb}
use Rattle.plain.specs.Table.{tabulate}
use Rattle.tables.specs.Verdict.{Fault, Verdict, checks, unless}
use Rattle.tables.specs.Tree.{depth_of, size_verdict}

pub record Tables : Type 0 where
  pub depth : List ℕ
  pub group : List ℕ
  pub mark : List ℕ

-- three lent slices as the tables
abbrev pub tables_of : List ℕ → List ℕ → List ℕ → Tables
tables_of depth group mark = record { depth = depth; group = group; mark = mark }

-- right depths, each machine its own group, every mark 0
unfoldable pub fresh : List ℕ → Tables
fresh up = tables_of (tabulate (length up) (depth_of up)) (tabulate (length up) (λ v. v)) (replicate (length up) 0)

-- code 2: the slice of that number has a length other than n
abbrev pub sized : ℕ → ℕ → ℕ → Verdict
sized which size n = unless (eqb size n) Fault.Slice which

-- codes 1 and 2: n machines, and an entry for each in each table
unfoldable pub sizes_verdict : ℕ → ℕ → ℕ → ℕ → Verdict
sizes_verdict n depth group mark = checks (size_verdict n ∷ sized 1 depth n ∷ sized 2 group n ∷ sized 3 mark n ∷ [])

abbrev pub lengths_verdict : List ℕ → Tables → Verdict
lengths_verdict up t = sizes_verdict (length up) (length t.depth) (length t.group) (length t.mark)
