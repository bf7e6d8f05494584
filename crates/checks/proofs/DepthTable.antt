-- The table of known depths, which holds the hub's from the start. A climb to the first known depth gives the depth of where it began, a climb of
-- n steps meets no known machine, so not the hub, and laying writes the depth and those on the way.
use mathlib.Core.Path.{◌≡◌, refl, sym, ap, ◌∙◌}
use mathlib.Core.Bool.{false}
use mathlib.Core.List.{List}
use mathlib.Core.Logic.{◌≢◌, ◌⊎◌, inr, ⊎_elim, dite}
use Prim.Native.Nat.{ℕ, ◌+◌, ◌-◌, ◌<◌, ◌≤◌}
use native.Mathlib.Decide.{ℕ_discrete}
use native.Mathlib.Omega.{arith}
use lib.ListN.{length, set, replicate, length-set, length-replicate, get_or-replicate}
use lib.Seq.{get_or-set_same, get_or-set_other}
use lib.Dec.{leb, ltb}
use borrow.Author.Count.{below_more}
use borrow.Author.Tests.{le-leb, lt-leb, lt-ltb, ltb-true}
use Rattle.std.specs.Prelude.{Option, Some, None}
use Rattle.plain.specs.Table.{at}
use Rattle.plain.proofs.Says.{by_cases}
use Rattle.plain.proofs.Tabulate.{tabulated}
use Rattle.tables.specs.declared.Verdict.TheVariants.{Sound, Refused}
use Rattle.tables.specs.declared.Fault.{Fault}
use Rattle.tables.specs.Tree.{climb, hub, depth_of, reach_verdict}
use Rattle.tables.proofs.Climb.{climb-add}
use Rattle.tables.proofs.Verdicts.{refuse_at, refuse_none, not_both}
use Rattle.checks.specs.TreeCheck.{below, unknown, Known, Depth, Held, Climbing, Laying, Climbable, Reached}
use Rattle.checks.proofs.Searching.{below_none}
use Rattle.checks.proofs.Depths.{hub_depth, depth_here, deep, uplink_depth, climb_depth}

-- a depth is stored: what was known, or stands at the place, is known
set_known : (known : List ℕ) (x d y : ℕ) → x < length known → d < unknown → (y ≢ x → Known known y) → Known (set known x d) y
set_known known x d y b s h = dite (ℕ_discrete y x)
    (λ (e : y ≡ x). rw (e, get_or-set_same known x d 0 b) s)
    (λ (o : y ≢ x). rw (get_or-set_other known x y d 0 o) (h o))

held_set : {up known : List ℕ} {x d : ℕ} → Held up known → x < length up → d < unknown → Depth up x d → Held up (set known x d)
held_set {up} {known} {x} {d} t b s r = record {
  size = length-set known x d ∙ t.size;
  depth = λ y h k. dite (ℕ_discrete y x)
      (λ (e : y ≡ x). rw (e, get_or-set_same known x d 0 (omega (arith, t.size))) r)
      (λ (o : y ≢ x). rw (get_or-set_other known x y d 0 o) (t.depth y h (rw (get_or-set_other known x y d 0 o) at k)));
  top = set_known known x d (hub up) (omega (arith, t.size)) s (λ _. t.top);
}

-- a machine that is not known is not the hub
not_top : {up known : List ℕ} {x : ℕ} → Held up known → unknown ≤ at known x → x ≢ hub up
not_top {up} {known} {x} t u e = omega (arith, t.top, ap (at known) e)

-- k steps up from v stands x, and no machine before x has a depth in the table
pub record Climbed (up known : List ℕ) (v k x : ℕ) : Type 0 where
  pub machine : x < length up
  pub from : x ≡ climb up k v
  pub before : (j : ℕ) → j < k → ¬ Known known (climb up j v)

-- the climb from v to the first machine of known depth
module _ {up known : List ℕ} {v : ℕ} (g : Climbing up known v) where
  pub climb_start : Climbed up known v 0 v
  unfolding climb
  climb_start = record { machine = g.machine; from = refl; before = λ j h. absurd (omega arith) }

  module _ {k x : ℕ} (c : Climbed up known v k x) where
    pub climb_next : unknown ≤ at known x → Climbed up known v (k + 1) (at up x)
    unfolding climb
    climb_next u = record {
      machine = g.inside x c.machine;
      from = ap (at up) c.from ∙ sym (climb-add up k 1 v);
      before = below_more (λ j. ¬ Known known (climb up j v)) k c.before (λ s. omega (arith, ap (at known) c.from));
    }

    -- before it stops it does not meet the hub
    not_yet : (j : ℕ) → j < k → climb up j v ≢ hub up
    not_yet j h e = c.before j h (omega (arith, g.held.top, ap (at known) e))

    pub climb_found : Known known x → Some (k + at known x) ≡ below (length up) (depth_of up v)
    climb_found s =
        let d : Depth up v (k + at known x) = climb_depth up g.inside k v (at known x) g.machine not_yet (rw (← c.from) (g.held.depth x c.machine s)) in
        rw (← d.right, lt-ltb (k + at known x) (length up) d.reaches)

    pub climb_none : length up ≤ k → None ≡ below (length up) (depth_of up v)
    climb_none h = by_cases (ltb (depth_of up v) (length up))
        (λ e. let l = ltb-true (depth_of up v) (length up) e in
        absurd (not_yet (depth_of up v) (omega arith) (depth_here (record { right = refl; reaches = l }))))
        (λ e. rw e)

-- the depths from v are laid below x, whose depth d is next
pub record LaidTo (up known₀ : List ℕ) (v : ℕ) (known : List ℕ) (x d : ℕ) : Type 0 where
  pub machine : x < length up
  pub held : Held up known
  pub depth : Depth up x d
  pub kept : (y : ℕ) → Known known₀ y → Known known y
  pub there : (x ≡ v) ⊎ Known known v

pub lay_deep : {up known₀ known : List ℕ} {v x d : ℕ} → unknown ≤ at known x → LaidTo up known₀ v known x d → 0 < d
lay_deep u l = deep (not_top l.held u) l.depth

pub lay_next : {up known₀ known : List ℕ} {v d₀ x d : ℕ} → Laying up known₀ v d₀ → unknown ≤ at known x → LaidTo up known₀ v known x d
    → LaidTo up known₀ v (set known x d) (at up x) (d - 1)
lay_next {up} {known₀} {known} {v} {d₀} {x} {d} g u l =
    let s : d < unknown = omega (arith, l.depth.reaches, g.few) in
    let b : x < length known = omega (arith, l.machine, l.held.size) in
    record {
      machine = g.climbing.inside x l.machine;
      held = held_set l.held l.machine s l.depth;
      depth = uplink_depth (not_top l.held u) l.depth;
      kept = λ y h. set_known known x d y b s (λ _. l.kept y h);
      there = inr (set_known known x d v b s (λ o. ⊎_elim (λ e. absurd (o (sym e))) (λ h. h) l.there));
    }

-- the machines below v have their depths
pub record Reaching (up known : List ℕ) (v : ℕ) : Type 0 where
  pub le : v ≤ length up
  pub held : Held up known
  pub done : (y : ℕ) → y < v → Known known y

pub reach_start : {up known₀ known : List ℕ} {h : ℕ} → Climbable up known₀ → known ≡ replicate (length known₀) unknown → h ≡ hub up → Reaching up (set known h 0) 0
reach_start {up} {known₀} {known} {h} g b e =
    let size : length known ≡ length up = ap length b ∙ length-replicate _ _ ∙ g.room.size in
    let inside : h < length known = omega (arith, g.hub_in) in
    let none : (x : ℕ) → x < length up → at known x ≡ unknown = λ x l. rw (b, get_or-replicate (length known₀) x unknown 0 (omega (arith, g.room.size))) in
    record {
      le = omega arith;
      held = record {
        size = length-set known h 0 ∙ size;
        depth = λ x l s. dite (ℕ_discrete x h)
            (λ (q : x ≡ h). rw (q, get_or-set_same known h 0 0 inside, e) (hub_depth up g.hub_in))
            (λ (o : x ≢ h).
            let f : at (set known h 0) x ≡ at known x = get_or-set_other known h x 0 0 o in
            absurd (omega (arith, none x l)));
        top = rw (← e, get_or-set_same known h 0 0 inside) (omega arith);
      };
      done = λ y l. absurd (omega arith);
    }

module _ {up known₀ known : List ℕ} {v : ℕ} (g : Climbable up known₀) (r : Reaching up known v) where
  -- below v none is a stray
  reached : (k : ℕ) → k < v → leb (length up) (depth_of up k) ≡ false
  reached k h =
      let d = r.held.depth k (omega (arith, r.le)) (r.done k h) in
      lt-leb (length up) (depth_of up k) (omega (arith, d.right, d.reaches))

  -- what the climb answers
  module _ {a : Option ℕ} (h : v < length up) (q : a ≡ below (length up) (depth_of up v)) where
    pub reach_stray : a ≡ None → Reached (reach_verdict up) up known (Refused Fault.Stray v)
    reach_stray e = record {
      verdict = sym (refuse_at Fault.Stray (length up) (λ v. leb (length up) (depth_of up v)) v h reached (le-leb (length up) (depth_of up v) (below_none q e)));
      size = r.held.size;
      depths = λ e. not_both refl e;
    }

  pub reach_end : length up ≤ v → Reached (reach_verdict up) up known Sound
  reach_end h = record {
    verdict = sym (refuse_none Fault.Stray (length up) (λ v. leb (length up) (depth_of up v)) (λ k b. reached k (omega arith)));
    size = r.held.size;
    depths = λ _. tabulated known (length up) (depth_of up) r.held.size (λ k b. (r.held.depth k b (r.done k (omega arith))).right);
  }
