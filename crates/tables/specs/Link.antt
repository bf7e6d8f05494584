-- What one link does to the tables.
use Rattle.std.specs.Prelude.{Bool, cond, ◌&&◌, ◌||◌, not, List, map, ℕ, max, min, length, eqb}
use Rattle.plain.specs.Search.{least, some}
use Rattle.plain.specs.Table.{at, tabulate}
use Rattle.tables.specs.Tree.{climb}
use Rattle.tables.specs.Tables.{Tables}

-- x is on the line of a: a itself, or met on the way up from a to the hub. A machine counts as its own ancestor
unfoldable pub over : List ℕ → ℕ → ℕ → Bool
over up x a = some (length up) (λ k. eqb (climb up k a) x)

-- the first machine on the line of a that p holds of
unfoldable pub first : List ℕ → ℕ → (ℕ → Bool) → ℕ
first up a p = climb up (least (length up) (λ k. p (climb up k a))) a

-- w, the lowest common ancestor of a and b: the first on the line of a that is on the line of b
unfoldable pub meet : List ℕ → ℕ → ℕ → ℕ
meet up a b = first up a (λ x. over up x b)

-- x is on the ring, the tree path from a to b: from a up to w, or from b up to w
unfoldable pub ring : List ℕ → ℕ → ℕ → ℕ → Bool
ring up a b x = over up (meet up a b) x && (over up x a || over up x b)

-- the mark that the link asks of x: on the ring other than w at least ringed, and carried where up[x] is not w
unfoldable pub due : List ℕ → ℕ → ℕ → ℕ → ℕ
due up a b x = cond (ring up a b x && not (eqb x (meet up a b))) (cond (eqb (at up x) (meet up a b)) 1 2) 0

unfoldable pub raised : List ℕ → ℕ → ℕ → List ℕ → List ℕ
raised up a b mark = tabulate (length up) (λ x. max (at mark x) (due up a b x))

-- the child of w on the line of a
unfoldable pub below : List ℕ → ℕ → ℕ → ℕ
below up w a = first up a (λ x. eqb (at up x) w)

abbrev pub renamed : ℕ → ℕ → ℕ → ℕ
renamed hi lo x = cond (eqb x hi) lo x

-- the groups of c and d made one: the lesser name in the place of the greater
unfoldable pub joined : ℕ → ℕ → List ℕ → List ℕ
joined c d group = map (renamed (max (at group c) (at group d)) (min (at group c) (at group d))) group

-- if neither a nor b is w, the two children of w on the ring have their groups joined
unfoldable pub grouped : List ℕ → ℕ → ℕ → List ℕ → List ℕ
grouped up a b group =
    cond (eqb a (meet up a b) || eqb b (meet up a b)) group (joined (below up (meet up a b) a) (below up (meet up a b) b) group)

-- the tables after the link
unfoldable pub linked : List ℕ → ℕ → ℕ → Tables → Tables
linked up a b t = record { depth = t.depth; group = grouped up a b t.group; mark = raised up a b t.mark }
