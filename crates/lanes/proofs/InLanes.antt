-- What stands in one lane: its top is over it, all from a machine up to its top has that top, machines of one lane are over one another, and
-- the kid of a machine is its child on the line of whatever stands below it in its lane.
use mathlib.Core.Path.{◌≡◌, refl, sym, ap, ◌∙◌}
use mathlib.Core.List.{List}
use mathlib.Core.Logic.{◌≢◌, dite}
use Prim.Native.Nat.{ℕ, suc, ◌<◌, ◌≤◌}
use native.Mathlib.Decide.{ℕ_discrete}
use native.Mathlib.Omega.{arith}
use lib.ListN.{length}
use Rattle.plain.specs.Table.{at}
use Rattle.graph.specs.Walk.{stay, step}
use Rattle.graph.proofs.Walks.{join, one_step}
use Rattle.rings.specs.Tree.{Uplink, Under}
use Rattle.rings.proofs.Under.{over, no_return, hub_over, rise}
use Rattle.tables.specs.Tree.{hub, depth_of}
use Rattle.tables.specs.AsTree.{tree_of}
use Rattle.tables.specs.Demand1.{SoundTree}
use Rattle.tables.proofs.Sound.{rooted, depth_hub, depth_up}
use Rattle.lanes.specs.Lane.{InLane, highest, along, Laned}

module _ {up : List ℕ} (s : SoundTree up) where
  -- what is on a line and no higher is its foot
  pub foot : {x y : ℕ} → Under (tree_of up) x y → depth_of up y ≤ depth_of up x → x ≡ y
  foot stay d = refl
  foot (step r u) d = absurd (omega (arith, (rooted s).falls r, over (rooted s) u))

  -- an uplink leads one higher
  pub one_up : {v w : ℕ} → Uplink (tree_of up) v w → depth_of up v ≡ suc (depth_of up w)
  one_up {v} r = rw (← r.to) (depth_up s v r.low r.other)

  module _ {top kid : List ℕ} where
    -- with a line all above it
    pub line_in : {z v : ℕ} → Under (tree_of up) z v → Laned up top kid v → Laned up top kid z
    line_in u p y w = p y (join u w)

    pub top_over : (v : ℕ) → v < length up → Laned up top kid v → Under (tree_of up) (at top v) v
    top_over = rise (rooted s) (λ v. Laned up top kid v → Under (tree_of up) (at top v) v) (λ p. at_top (p (hub up) stay))
        (λ a b r u p. go r (u (line_in (one_step r) p)) (p a stay))
      where
        at_top : InLane up top kid (hub up) → Under (tree_of up) (at top (hub up)) (hub up)
        at_top (highest e) = rw e stay
        at_top (along r e k) = absurd (r.other refl)

        go : {a b : ℕ} → Uplink (tree_of up) a b → Under (tree_of up) (at top b) b → InLane up top kid a → Under (tree_of up) (at top a) a
        go r u (highest e) = rw e stay
        go r u (along q e k) = rw (← e, r.to) (step r u)

    -- what is over v by its uplink and not over its top stays in the lane of v
    still : {v b z : ℕ} → InLane up top kid v → Uplink (tree_of up) v b → Under (tree_of up) z b → Under (tree_of up) (at top v) z
        → (at top b ≡ at top v) × (at kid b ≡ v)
    still (highest e) r u t = absurd (no_return (rooted s) r (join u (rw e at t)))
    still (along q e k) r u t = (ap (at top) (sym r.to) ∙ e, ap (at kid) (sym r.to) ∙ k)

    -- on the way from v up to its top nothing changes lanes
    pub lane_same : {z v : ℕ} → Laned up top kid v → Under (tree_of up) z v → Under (tree_of up) (at top v) z → at top z ≡ at top v
    lane_same p stay t = refl
    lane_same p (step r u) t = let (e, k) = still (p _ stay) r u t in lane_same (line_in (one_step r) p) u (rw e t) ∙ e

    -- and below u on that way the kid of u comes last
    pub lane_kid : {u v : ℕ} → Laned up top kid v → Under (tree_of up) u v → Under (tree_of up) (at top v) u → v ≢ u
        → Uplink (tree_of up) (at kid u) u × Under (tree_of up) (at kid u) v
    lane_kid p stay t o = absurd (o refl)
    lane_kid {u} {v} p (step {b = b} r q) t o = let (e, k) = still (p v stay) r q t in dite (ℕ_discrete b u)
        (λ f. let g : at kid u ≡ v = ap (at kid) (sym f) ∙ k in rw (g, ← f) (r, stay))
        (λ f. let (i, j) = lane_kid (line_in (one_step r) p) q (rw e t) f in (i, step r j))

    pub top_self : (v : ℕ) → v < length up → Laned up top kid v → at top (at top v) ≡ at top v
    top_self v h p = lane_same p (top_over v h p) stay

    -- of two machines of one lane the deeper is under the other
    pub lane_line : (y x : ℕ) → y < length up → x < length up → Laned up top kid y → Laned up top kid x → at top x ≡ at top y → depth_of up x ≤ depth_of up y
        → Under (tree_of up) x y
    lane_line y x h k p q e d = rise (rooted s)
        (λ y. Laned up top kid y → (x : ℕ) → x < length up → Laned up top kid x → at top x ≡ at top y → depth_of up x ≤ depth_of up y → Under (tree_of up) x y)
        (λ p x k q e d. rw (foot (hub_over (rooted s) x k) (omega (arith, depth_hub s))) stay)
        (λ a b r f p x k q e d. go r (f (line_in (one_step r) p)) k q p e d (p a stay) (q x stay))
        y h p x k q e d
      where
        go : {a b x : ℕ} → Uplink (tree_of up) a b
            → ((x : ℕ) → x < length up → Laned up top kid x → at top x ≡ at top b → depth_of up x ≤ depth_of up b → Under (tree_of up) x b)
            → x < length up → Laned up top kid x → Laned up top kid a → at top x ≡ at top a → depth_of up x ≤ depth_of up a → InLane up top kid a → InLane up top kid x
            → Under (tree_of up) x a
        go {a} {b} {x} r f k c p e d (highest i) j = rw (foot (rw (e ∙ i) at (top_over x k c)) d) stay
        go {a} {b} {x} r f k c p e d (along q i m) (highest j) = rw (sym j ∙ e) (top_over a r.low p)
        go {a} {b} {x} r f k c p e d (along q i m) (along t j n) = dite (ℕ_discrete (depth_of up x) (depth_of up a))
            (λ g.
            let u = f (at up x) (s.inside x k) (line_in (one_step t) c) (j ∙ e ∙ sym i ∙ ap (at top) r.to) (omega (arith, one_up r, one_up t)) in
            let z : at up x ≡ b = foot u (omega (arith, one_up r, one_up t)) in
            let y : x ≡ a = sym n ∙ ap (at kid) (z ∙ sym r.to) ∙ m in
            rw y stay)
            (λ g. step r (f x k c (e ∙ sym i ∙ ap (at top) r.to) (omega (arith, one_up r))))
