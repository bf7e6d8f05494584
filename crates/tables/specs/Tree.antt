-- The up table: climbing, the hub, depths, and what is refused of a tree.
use Rattle.std.specs.Prelude.{◌≡◌, ◌&&◌, List, [], ◌∷◌, ℕ, zero, suc, ◌<◌, length, leb, ltb, eqb}
use Rattle.plain.specs.Search.{least}
use Rattle.plain.specs.Table.{at}
use Rattle.tables.specs.Verdict.{Fault, Verdict, checks, unless, refuse_least}

-- a site has at most so many machines
abbrev pub most_machines : ℕ
most_machines = 4096

-- the machine k steps up from v
unfoldable pub climb : List ℕ → ℕ → ℕ → ℕ
climb up zero v = v
climb up (suc k) v = climb up k (at up v)

-- the machine that names itself: the least, if there are several; n, if there is none
unfoldable pub hub : List ℕ → ℕ
hub up = least (length up) (λ v. eqb (at up v) v)

-- every entry is a machine
abbrev pub Inside : List ℕ → Type 0
Inside up = (v : ℕ) → v < length up → at up v < length up

-- v reaches the hub: some number of steps leads there
abbrev pub Reaches : List ℕ → ℕ → Type 0
Reaches up v = (k : ℕ) × (climb up k v ≡ hub up)

-- steps to the hub; n, if fewer than n steps never lead there (then none do: demand 1)
unfoldable pub depth_of : List ℕ → ℕ → ℕ
depth_of up v = least (length up) (λ k. eqb (climb up k v) (hub up))

-- code 1: up has length 0 or over 4,096
unfoldable pub size_verdict : ℕ → Verdict
size_verdict n = unless (ltb 0 n && leb n most_machines) Fault.Size n

-- 3: an up entry is n or more
abbrev pub entries_verdict : List ℕ → Verdict
entries_verdict up = refuse_least Fault.Entry (length up) (λ v. leb (length up) (at up v))

-- 4: hubs are not exactly one: there is none, or one behind the first
abbrev pub hubs_verdict : List ℕ → Verdict
hubs_verdict up =
    checks (unless (ltb (hub up) (length up)) Fault.Hubs (length up)
    ∷ refuse_least Fault.Hubs (length up) (λ v. ltb (hub up) v && eqb (at up v) v)
    ∷ [])

-- 5: a machine never reaches the hub
abbrev pub reach_verdict : List ℕ → Verdict
reach_verdict up = refuse_least Fault.Stray (length up) (λ v. leb (length up) (depth_of up v))

-- 3 to 5
unfoldable pub tree_verdict : List ℕ → Verdict
tree_verdict up = checks (entries_verdict up ∷ hubs_verdict up ∷ reach_verdict up ∷ [])

-- a tree by itself: 1 and 3 to 5
unfoldable pub alone_verdict : List ℕ → Verdict
alone_verdict up = checks (size_verdict (length up) ∷ tree_verdict up ∷ [])
