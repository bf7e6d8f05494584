-- Depths one uplink at a time, over a tree whose entries are machines and that may yet have strays: a machine that is not the hub lies one
-- deeper than its uplink. From k steps to a machine of known depth, none of them at the hub, the depth follows by induction on k.
use mathlib.Core.Path.{◌≡◌, refl, sym, ap, ◌∙◌}
use mathlib.Core.List.{List}
use mathlib.Core.Logic.{◌≢◌}
use Prim.Native.Nat.{ℕ, zero, suc, ◌+◌, ◌-◌, ◌<◌}
use native.Mathlib.Nat.{zero-add, suc-add}
use native.Mathlib.Omega.{arith}
use lib.ListN.{length}
use lib.Dec.{eqb}
use borrow.Author.Tests.{eqb-true, eq-eqb}
use Rattle.plain.specs.Table.{at}
use Rattle.plain.proofs.Least.{Least, least_is, least_has}
use Rattle.tables.specs.Tree.{Inside, climb, hub, depth_of}
use Rattle.tables.proofs.Climb.{reaches_soon}
use Rattle.checks.specs.TreeCheck.{Depth}

-- d is the least number of steps, below n, from v to the hub
abbrev Steps : List ℕ → ℕ → ℕ → Type 0
Steps up v d = Least (length up) (λ k. eqb (climb up k v) (hub up)) d

steps : (up : List ℕ) (v : ℕ) → Steps up v (depth_of up v)
unfolding depth_of
steps up v = least_has (length up) (λ k. eqb (climb up k v) (hub up))

steps_is : (up : List ℕ) (v d : ℕ) → Steps up v d → depth_of up v ≡ d
unfolding depth_of
steps_is up v d = least_is (length up) (λ k. eqb (climb up k v) (hub up)) d

pub depth_here : {up : List ℕ} {v d : ℕ} → Depth up v d → climb up d v ≡ hub up
depth_here {up} {v} {d} k = let s : Steps up v d = rw k.right (steps up v) in eqb-true (climb up d v) (hub up) (s.here k.reaches)

pub hub_depth : (up : List ℕ) → hub up < length up → Depth up (hub up) 0
unfolding climb
hub_depth up h = record {
  right = sym (steps_is up (hub up) 0 (record { le = omega arith; before = λ k b. absurd (omega arith); here = λ _. eq-eqb (hub up) (hub up) refl }));
  reaches = omega arith;
}

one_less : (up : List ℕ) (v d : ℕ) → v ≢ hub up → Steps up v d → d < length up → d ≡ suc (depth_of up (at up v))
unfolding climb
one_less up v zero o s b = absurd (o (eqb-true v (hub up) (s.here b)))
one_less up v (suc d) o s b = ap suc (sym (steps_is up (at up v) d
    (record { le = omega arith; before = λ k r. s.before (suc k) (omega arith); here = λ _. s.here b })))

module _ {up : List ℕ} {v : ℕ} (o : v ≢ hub up) where
  one_deeper : {d : ℕ} → Depth up v d → d ≡ suc (depth_of up (at up v))
  one_deeper {d} k = one_less up v d o (rw k.right (steps up v)) k.reaches

  pub deep : {d : ℕ} → Depth up v d → 0 < d
  deep k = omega (arith, one_deeper k)

  pub uplink_depth : {d : ℕ} → Depth up v d → Depth up (at up v) (d - 1)
  uplink_depth k = record { right = omega (arith, one_deeper k); reaches = omega (arith, k.reaches) }

  -- the other way round; fewer than n steps lead to the hub, since some number of steps does
  down_depth : {m : ℕ} → Inside up → v < length up → Depth up (at up v) m → Depth up v (suc m)
  unfolding climb
  down_depth {m} w h k =
      let soon : depth_of up v < length up = reaches_soon up v w h (suc m, depth_here k) in
      let e : depth_of up v ≡ suc (depth_of up (at up v)) = one_deeper (record { right = refl; reaches = soon }) in
      record { right = ap suc k.right ∙ sym e; reaches = omega (arith, k.right) }

-- k steps to a machine of depth m, none of them at the hub
pub climb_depth : (up : List ℕ) → Inside up → (k v m : ℕ) → v < length up → ((j : ℕ) → j < k → climb up j v ≢ hub up)
    → Depth up (climb up k v) m → Depth up v (k + m)
unfolding climb
climb_depth up w zero v m h none d = rw zero-add d
climb_depth up w (suc k) v m h none d =
    rw suc-add
    (down_depth (none 0 (omega arith)) w h (climb_depth up w k (at up v) m (w v h) (λ j l. none (suc j) (omega arith)) d))
