-- One link more, the marks: a mark is the greater of what it was and what the link asks, so it tells of the new link too.
use mathlib.Core.Path.{◌≡◌, refl}
use mathlib.Core.List.{List, ◌∷◌}
use mathlib.Core.Logic.{◌⊎◌, inl, inr, ⊎_elim, ⊎_map, dite}
use Prim.Native.Nat.{ℕ, ◌<◌, ◌≤◌, max}
use native.Mathlib.Decide.{ℕ_discrete, dec_le}
use native.Mathlib.Omega.{arith}
use lib.ListN.{length}
use Rattle.plain.specs.Table.{at}
use Rattle.graph.specs.Cable.{Cables, Linked}
use Rattle.graph.proofs.Members.{here}
use Rattle.graph.proofs.Cables.{Same, linked-cons, linked_more}
use Rattle.rings.specs.Tree.{Tree, Under}
use Rattle.rings.specs.Ring.{Escape}
use Rattle.rings.proofs.More.{escape_by, escape_map}
use Rattle.tables.specs.Link.{due, raised}
use Rattle.tables.proofs.Dues.{Leaves, due_small, due_rings, due_carries}
use Rattle.tables.specs.Demand1.{SoundTree}
use Rattle.tables.proofs.Rise.{raised-length, raised_at}
use Rattle.tables.proofs.Told.{Marked}

by_ends : {T : Tree} {a b x y i o : ℕ} → Same a b i o → Under T x i → ¬ Under T y o → Leaves T a b x y
by_ends (inl e) u q = inl (rw e.0 at u, rw e.1 at q)
by_ends (inr e) u q = inr (rw e.0 at u, rw e.1 at q)

module _ {T : Tree} {a b : ℕ} {k : Cables} where
  -- an escape is by the new link or by an old one
  escape_less : {x y : ℕ} → Escape T (Linked ((a, b) ∷ k)) x y → Leaves T a b x y ⊎ Escape T (Linked k) x y
  escape_less g = ⊎_map (λ e. by_ends e g.below g.beyond) (escape_by g) (linked-cons g.link)

  escape_more : {x y : ℕ} → Leaves T a b x y ⊎ Escape T (Linked k) x y → Escape T (Linked ((a, b) ∷ k)) x y
  escape_more (inl (inl q)) = record { inner = a; outer = b; link = inl (here refl); below = q.0; beyond = q.1 }
  escape_more (inl (inr q)) = record { inner = b; outer = a; link = inr (here refl); below = q.0; beyond = q.1 }
  escape_more (inr g) = escape_map linked_more g

max_one : (m d : ℕ) → 1 ≤ max m d → (1 ≤ d) ⊎ (1 ≤ m)
max_one m d h = dite (dec_le 1 m) inr (λ o. inl (omega arith))

max_two : (m d : ℕ) → max m d ≡ 2 → (d ≡ 2) ⊎ (m ≡ 2)
max_two m d h = dite (ℕ_discrete m 2) inr (λ o. inl (omega arith))

module _ {up : List ℕ} (s : SoundTree up) {a b : ℕ} (h : a < length up) (l : b < length up) {k : Cables} where
  pub marked_more : {m : List ℕ} → Marked up (Linked k) m → Marked up (Linked ((a, b) ∷ k)) (raised up a b m)
  marked_more {m} q = record {
    size = raised-length up a b m;
    small = λ x i. omega (arith, raised_at up a b m x i, q.small x i, due_small s h l x i);
    ringed = λ x i. rw (raised_at up a b m x i) (
      λ o. escape_more (⊎_map (due_rings s h l x i).0 (q.ringed x i).0 (max_one (at m x) (due up a b x) o)),
      λ g. ⊎_elim (λ p. omega (arith, (due_rings s h l x i).1 p)) (λ p. omega (arith, (q.ringed x i).1 p)) (escape_less g),
    );
    carried = λ x i. rw (raised_at up a b m x i) (
      λ o. escape_more (⊎_map (due_carries s h l x i).0 (q.carried x i).0 (max_two (at m x) (due up a b x) o)),
      λ g. ⊎_elim (λ p. omega (arith, (due_carries s h l x i).1 p, q.small x i)) (λ p. omega (arith, (q.carried x i).1 p, due_small s h l x i)) (escape_less g),
    );
  }
