-- Climbing, and why the hub is reached in fewer than n steps or never: the machines met on a shortest climb are all different, and there are n.
use mathlib.Core.Path.{◌≡◌, sym, ap, ◌∙◌}
use mathlib.Core.Bool.{Bool, true, false}
use mathlib.Core.List.{List}
use mathlib.Core.Logic.{dite}
use Prim.Native.Nat.{ℕ, zero, suc, ◌+◌, ◌-◌, ◌<◌, ◌≤◌}
use native.Mathlib.Nat.{zero-add, suc-add}
use native.Mathlib.Decide.{dec_lt}
use native.Mathlib.Omega.{arith}
use lib.ListN.{length}
use lib.Dec.{eqb}
use borrow.Author.Tests.{eq-eqb, eqb-true}
use Rattle.plain.specs.Search.{least}
use Rattle.plain.specs.Table.{at}
use Rattle.plain.proofs.Says.{clash}
use Rattle.plain.proofs.Least.{least_has, least-le}
use Rattle.plain.proofs.Pigeon.{pigeon}
use Rattle.tables.specs.Tree.{climb, hub, Inside, Reaches, depth_of}

pub climb-add : (up : List ℕ) (k m v : ℕ) → climb up (k + m) v ≡ climb up m (climb up k v)
unfolding climb
climb-add up zero m v = rw zero-add
climb-add up (suc k) m v = rw suc-add (climb-add up k m (at up v))

pub climb_in : (up : List ℕ) → Inside up → (k v : ℕ) → v < length up → climb up k v < length up
unfolding climb
climb_in up w zero v h = h
climb_in up w (suc k) v h = climb_in up w k (at up v) (w v h)

-- k steps from v lead to the hub
abbrev pub arrives : List ℕ → ℕ → ℕ → Bool
arrives up v k = eqb (climb up k v) (hub up)

module _ (up : List ℕ) (v : ℕ) (w : Inside up) (h : v < length up) where
  -- no shortest climb has n steps: it would come by one machine twice, and be shorter by what lies between
  shortest : (d : ℕ) → climb up d v ≡ hub up → ((k : ℕ) → k < d → arrives up v k ≡ false) → d < length up
  shortest d e none = dite (dec_lt d (length up)) (λ l. l) λ o.
      absurd (pigeon (length up) (λ k. climb up k v) (λ k _. climb_in up w k v h) (λ i j b c q.
      let m : j + (d - j) ≡ d = omega arith in
      clash (eq-eqb (climb up (i + (d - j)) v) (hub up)
      (climb-add up i (d - j) v ∙ ap (climb up (d - j)) q ∙ sym (climb-add up j (d - j) v) ∙ ap (λ k. climb up k v) m ∙ e))
      (none (i + (d - j)) (omega arith))))

  -- a machine that reaches the hub does so in fewer than n steps
  pub reaches_soon : Reaches up v → depth_of up v < length up
  unfolding depth_of
  reaches_soon (k, e) =
      let p = arrives up v in
      let d = least (suc k) p in
      let l = least_has (suc k) p in
      let b : d ≤ k = least-le (suc k) p k (eq-eqb _ _ e) in
      let t : p d ≡ true = l.here (omega arith) in
      let s = shortest d (eqb-true _ _ t) l.before in
      omega (arith, least-le (length up) p d t)

pub soon_reaches : (up : List ℕ) (v : ℕ) → depth_of up v < length up → Reaches up v
unfolding depth_of
soon_reaches up v h = let n = length up in let p = arrives up v in (least n p, eqb-true _ _ ((least_has n p).here h))
