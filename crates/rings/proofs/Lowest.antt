-- The lowest common machine w of a and b. On the way up from a, what is below w is not over b, and w and what is over it is:
-- two machines on one way up are over one another, and what is over both ends is over w.
use mathlib.Core.Logic.{◌≢◌, ⊎_elim}
use Prim.Native.Nat.{ℕ, ◌<◌}
use Rattle.graph.proofs.Walks.{one_step, join}
use Rattle.rings.specs.Tree.{Tree, Under, Rooted, Lowest}
use Rattle.rings.proofs.Under.{uplinked, chain, rest, at-hub, in_tree, antisym}

pub turn : {T : Tree} {a b w : ℕ} → Lowest T a b w → Lowest T b a w
turn m = record { left = m.right; right = m.left; lowest = λ z u v. m.lowest z v u }

pub leaves_on : {T : Tree} {a b w x : ℕ} → Lowest T a b w → Under T x a → ¬ Under T x b → Under T w x × (x ≢ w)
leaves_on m v q = (⊎_elim (λ u. absurd (q (join m.right u))) (λ u. u) (chain v m.left), λ e. q (rw e m.right))

module _ {T : Tree} {rank : ℕ → ℕ} (R : Rooted T rank) where
  open T use {size, hub, up}

  module _ {a b w : ℕ} (m : Lowest T a b w) where
    pub on_leaves : {x : ℕ} → Under T w x → Under T x a → x ≢ w → ¬ Under T x b
    on_leaves {x} u v o q = o (antisym R u (m.lowest x v q))

    -- and where its up is not w either, its up is not over b
    pub deep_leaves : {x : ℕ} → a < size → Under T w x → Under T x a → x ≢ w → up x ≢ w → ¬ Under T (up x) b
    deep_leaves {x} h u v o p q =
        let r = uplinked (in_tree R v h) (λ e. o (at-hub u e)) in
        p (antisym R (rest r o u) (m.lowest (up x) (join v (one_step r)) q))
