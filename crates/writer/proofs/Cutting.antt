-- Batches are cut off the front of what is lent: the first length says how long the first is, and what is left is a plan again.
use mathlib.Core.Path.{◌≡◌, ap}
use mathlib.Core.Bool.{not}
use mathlib.Core.List.{List, [], ◌∷◌}
use Prim.Native.Nat.{ℕ, ◌+◌, ◌≤◌}
use native.Mathlib.Omega.{arith}
use lib.ListN.{length, take, drop, length-drop}
use lib.Dec.{eqb}
use Rattle.std.proofs.lemmas.List.{nil_from_length}
use Rattle.plain.specs.Table.{total}
use Rattle.writer.specs.declared.plan.Plan.{Plan}
use Rattle.writer.specs.Plan.{plan_of}
use Rattle.writer.specs.Lent.{parts}

pub none_left : (p : Plan) → length p.lengths.now ≡ 0 → parts p ≡ []
unfolding parts plan_of
none_left p e = rw (nil_from_length p.lengths.now e)

module _ (p : Plan) {k : ℕ} {lengths : List ℕ} (e : p.lengths.now ≡ k ∷ lengths) where
  all : k + total lengths ≡ length p.links.now
  unfolding total
  all = let s = p.sum in rw e at s

  pub cut_inside : k ≤ length p.links.now
  cut_inside = omega (arith, all)

  module _ {r : ℕ} {reports links : List ℕ} (f : p.reports.now ≡ r ∷ reports) (g : links ≡ drop k p.links.now) where
    pub cut_left : (length reports ≡ length lengths) × (total lengths ≡ length links)
    cut_left = (omega (arith, p.bytes, ap length e, ap length f), omega (arith, all, ap length g, length-drop k p.links.now))

    pub cut_off : {batch : List ℕ} → batch ≡ take k p.links.now → parts p ≡ record { batch = batch; report = not (eqb r 0) } ∷ plan_of links lengths reports
    unfolding parts plan_of
    cut_off h = rw (e, f, g, h)
