-- Tables with n entries each: fresh ones have as many as there are machines, and a batch keeps the number.
use mathlib.Core.Path.{◌≡◌, ◌∙◌}
use mathlib.Core.Bool.{◌||◌}
use mathlib.Core.List.{List, [], ◌∷◌}
use Prim.Native.Nat.{ℕ}
use lib.ListN.{length, length-map, length-replicate}
use lib.Dec.{eqb}
use Rattle.plain.proofs.Says.{by_cases}
use Rattle.plain.proofs.Tabulate.{length-tabulate}
use Rattle.graph.specs.Cable.{Cables}
use Rattle.tables.specs.Verdict.{Sound}
use Rattle.tables.specs.Tables.{Tables, fresh}
use Rattle.tables.specs.Link.{meet, joined, grouped, linked}
use Rattle.tables.specs.Batch.{pairs, after}
use Rattle.tables.specs.Outcome.{judged, add_verdict, add_of}
use Rattle.tables.proofs.Rise.{raised-length}

pub record Sized (t : Tables) (n : ℕ) : Type 0 where
  pub depth : length t.depth ≡ n
  pub group : length t.group ≡ n
  pub mark : length t.mark ≡ n

pub sized_fresh : (up : List ℕ) → Sized (fresh up) (length up)
unfolding fresh
sized_fresh up = record { depth = length-tabulate (length up) _; group = length-tabulate (length up) _; mark = length-replicate (length up) 0 }

grouped-length : (up : List ℕ) (a b : ℕ) (group : List ℕ) → length (grouped up a b group) ≡ length group
unfolding grouped joined
grouped-length up a b group = by_cases (eqb a (meet up a b) || eqb b (meet up a b)) (λ e. rw e) (λ e. rw e (length-map group _))

sized_after : (up : List ℕ) (l : Cables) (t : Tables) → Sized t (length up) → Sized (after up l t) (length up)
unfolding after linked
sized_after up [] t s = s
sized_after up (p ∷ l) t s =
    sized_after up l (linked up p.0 p.1 t)
    (record { depth = s.depth; group = grouped-length up p.0 p.1 t.group ∙ s.group; mark = raised-length up p.0 p.1 t.mark })

pub sized_added : (up batch : List ℕ) (t : Tables) → add_verdict up batch t ≡ Sound → Sized t (length up) → Sized (add_of up batch t).lent (length up)
unfolding add_of judged
sized_added up batch t e s = rw e (sized_after up (pairs batch) t s)
