-- Marks after a run of links: each is the greatest of what it was and what the links ask. So none falls, and what they rose by, added up,
-- is the difference of their totals.
use mathlib.Core.Path.{◌≡◌}
use mathlib.Core.List.{List, [], ◌∷◌}
use Prim.Native.Nat.{ℕ, ◌+◌, ◌<◌, max}
use native.Mathlib.Omega.{arith}
use lib.ListN.{length}
use Rattle.plain.specs.Table.{at, total}
use Rattle.plain.proofs.Total.{total_rise}
use Rattle.plain.proofs.Tabulate.{length-tabulate, at-tabulate}
use Rattle.graph.specs.Cable.{Cables}
use Rattle.tables.specs.Tables.{Tables}
use Rattle.tables.specs.Link.{due, raised, linked}
use Rattle.tables.specs.Batch.{after, rise}
use Rattle.tables.specs.Laws.{greatest}

pub raised-length : (up : List ℕ) (a b : ℕ) (m : List ℕ) → length (raised up a b m) ≡ length up
unfolding raised
raised-length up a b m = length-tabulate (length up) _

pub raised_at : (up : List ℕ) (a b : ℕ) (m : List ℕ) (x : ℕ) → x < length up → at (raised up a b m) x ≡ max (at m x) (due up a b x)
unfolding raised
raised_at up a b m = at-tabulate (length up) (λ x. max (at m x) (due up a b x))

pub after_marks : (up : List ℕ) (l : Cables) (t : Tables) (x : ℕ) → x < length up → at (after up l t).mark x ≡ max (at t.mark x) (greatest up l x)
unfolding after linked greatest
after_marks up [] t x h = omega arith
after_marks up (p ∷ l) t x h = omega (arith, after_marks up l (linked up p.0 p.1 t) x h, raised_at up p.0 p.1 t.mark x h)

pub after-length : (up : List ℕ) (l : Cables) (t : Tables) → length t.mark ≡ length up → length (after up l t).mark ≡ length up
unfolding after linked
after-length up [] t e = e
after-length up (p ∷ l) t e = after-length up l (linked up p.0 p.1 t) (raised-length up p.0 p.1 t.mark)

pub rise_is : (up : List ℕ) (l : Cables) (t : Tables) → length t.mark ≡ length up
    → rise t (after up l t) + total t.mark ≡ total (after up l t).mark
unfolding rise
rise_is up l t e = total_rise t.mark (after up l t).mark (omega (arith, e, after-length up l t e))
    (λ x h. omega (arith, after_marks up l t x (omega (arith, e))))
