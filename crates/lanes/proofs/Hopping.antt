-- Two machines hop from lane to lane until they stand in one: the end whose lane has the deeper top goes to that top's up. No machine of the
-- part that is skipped is on the other's line: it would be in the other's lane, or above the other's top, which is no deeper.
use mathlib.Core.Path.{◌≡◌, refl, sym, ap, ◌∙◌}
use mathlib.Core.List.{List}
use mathlib.Core.Logic.{◌≢◌, ⊎_elim}
use Rattle.std.specs.Prelude.{Option, None, Some}
use Prim.Native.Nat.{ℕ, ◌+◌, ◌<◌, ◌≤◌}
use native.Mathlib.Omega.{arith}
use lib.ListN.{length}
use Rattle.plain.specs.Table.{at}
use Rattle.graph.specs.Walk.{stay, step}
use Rattle.graph.proofs.Walks.{join, one_step}
use Rattle.rings.specs.Tree.{Uplink, Under, Lowest}
use Rattle.rings.proofs.Under.{uplinked, rest, at-hub, over, chain, in_tree, antisym}
use Rattle.rings.proofs.Lowest.{turn}
use Rattle.tables.specs.Tree.{depth_of}
use Rattle.tables.specs.AsTree.{tree_of}
use Rattle.tables.specs.Link.{meet}
use Rattle.tables.specs.Demand1.{SoundTree}
use Rattle.tables.proofs.Sound.{rooted}
use Rattle.tables.proofs.Lines.{meets}
use Rattle.tables.proofs.Reading.{depth_size, depth_at}
use Rattle.lanes.specs.Lane.{Laned, Hops, Stand, Closes, left_higher, right_higher, level, Last, MetAt}
use Rattle.lanes.proofs.Grown.{Grown}
use Rattle.lanes.proofs.InLanes.{foot, line_in, top_over, lane_same, lane_kid, lane_line, top_self}

-- one end's climb from a stands at x, in the lane of top s, and came by c last
pub record Arm (up top : List ℕ) (a x : ℕ) (c : Option ℕ) (s : ℕ) : Type 0 where
  pub low : x < length up
  pub behind : Under (tree_of up) x a
  pub highest : s ≡ at top x
  pub tops : Last up a x c

-- both climbs, whose lines meet at w as those of a and b do
pub record Hopping (up top : List ℕ) (a b w x : ℕ) (c : Option ℕ) (s y : ℕ) (d : Option ℕ) (t : ℕ) : Type 0 where
  pub left : Arm up top a x c s
  pub right : Arm up top b y d t
  pub ahead : Lowest (tree_of up) x y w

swap : {up top : List ℕ} {a b w x s y t : ℕ} {c d : Option ℕ} → Hopping up top a b w x c s y d t → Hopping up top b a w y d t x c s
swap i = record { left = i.right; right = i.left; ahead = turn i.ahead }

turned : {up top kid : List ℕ} {a b : ℕ} → Hops up top kid a b → Hops up top kid b a
turned h = record { one = h.two; two = h.one; left = h.right; right = h.left }

module _ {up : List ℕ} (s : SoundTree up) {top kid : List ℕ} where
  -- where x and y stand in two lanes, and that of x has no higher a top, a machine from x up to its top is not over y
  apart : {x y z : ℕ} → y < length up → Laned up top kid x → Laned up top kid y → at top x ≢ at top y → depth_of up (at top y) ≤ depth_of up (at top x)
      → Under (tree_of up) z x → Under (tree_of up) (at top x) z → ¬ Under (tree_of up) z y
  apart {x} {y} {z} h p q o d u t v = o (sym (lane_same s p u t) ∙ ⊎_elim
      (λ w. ap (at top) (foot s w (omega (arith, over (rooted s) t))) ∙ top_self s y h q)
      (λ w. lane_same s q v w)
      (chain v (top_over s y h q)))

  -- so it hops
  hop : {x y w : ℕ} → x < length up → y < length up → Laned up top kid x → Laned up top kid y → Lowest (tree_of up) x y w → at top x ≢ at top y → depth_of up (at top y) ≤ depth_of up (at top x)
      → Uplink (tree_of up) (at top x) (at up (at top x)) × Lowest (tree_of up) (at up (at top x)) y w
  hop {x} {y} {w} h k p q m o d =
      let u = top_over s x h p in
      let above : ¬ Under (tree_of up) (at top x) w = λ t. apart k p q o d m.left t m.right in
      let v : Under (tree_of up) w (at top x) = ⊎_elim (λ q. q) (λ q. absurd (above q)) (chain m.left u) in
      let n : at top x ≢ w = λ e. above (rw e stay) in
      let r = uplinked (in_tree (rooted s) u h) (λ e. n (at-hub v e)) in
      (r, record { left = rest r n v; right = m.right; lowest = λ z p q. m.lowest z (join u (step r p)) q })

  -- an arm that hops
  hopped : {a x : ℕ} → x < length up → Laned up top kid x → Under (tree_of up) x a → Uplink (tree_of up) (at top x) (at up (at top x))
      → Arm up top a (at up (at top x)) (Some (at top x)) (at top (at up (at top x)))
  hopped {a} {x} h p b r = let u = join b (top_over s x h p) in
      record { low = s.inside (at top x) r.low; behind = join u (one_step r); highest = refl; tops = (r, u) }

  -- the arm of the lower of two machines of one lane ends at the kid of the other
  lower_arm : {b x y t : ℕ} {d : Option ℕ} → x < length up → Laned up top kid x → Laned up top kid y → Arm up top b y d t → at top x ≡ at top y → depth_of up x < depth_of up y → Last up b x (Some (at kid x))
  lower_arm {b} {x} {y} h p i k e d =
      let u = lane_line s y x k.low h i p e (omega arith) in
      let (r, v) = lane_kid s i u (rw (← e) (top_over s x h p)) (λ q. omega (arith, ap (depth_of up) q)) in
      (r, join k.behind v)

module _ {up depth top kid : List ℕ} {a b : ℕ} (t₀ : Grown up depth) (h : Hops up top kid a b) where
  pub start : {s t : ℕ} → s ≡ at top a → t ≡ at top b → Hopping up top a b (meet up a b) a None s b None t
  start e f = record {
    left = record { low = h.one; behind = stay; highest = e; tops = refl };
    right = record { low = h.two; behind = stay; highest = f; tops = refl };
    ahead = meets t₀.tree h.one h.two;
  }

  module _ {w x s y t : ℕ} {c d : Option ℕ} (i : Hopping up top a b w x c s y d t) where
    laned_left : Laned up top kid x
    laned_left = line_in t₀.tree i.left.behind h.left

    laned_right : Laned up top kid y
    laned_right = line_in t₀.tree i.right.behind h.right

    top_in : {a x s : ℕ} {c : Option ℕ} → Arm up top a x c s → Laned up top kid x → s < length up
    top_in k p = rw k.highest (in_tree (rooted t₀.tree) (top_over t₀.tree _ k.low p) k.low)

    pub left_in : s < length up
    left_in = top_in i.left laned_left

    pub right_in : t < length up
    right_in = top_in i.right laned_right

    pub left_up : {y : ℕ} → length top ≡ length up → y ≡ at up s → y < length top
    left_up k e = rw (k, e) (t₀.tree.inside s left_in)

    pub right_up : {y : ℕ} → length top ≡ length up → y ≡ at up t → y < length top
    right_up k e = rw (k, e) (t₀.tree.inside t right_in)

    pub close_ready : length kid ≡ length up → Stand depth kid x y
    close_ready k = let e = depth_size up t₀.depths in record { left = rw e i.left.low; right = rw e i.right.low; kids = rw e k }

    -- the depths of the tops, read from the table
    no_deeper : {ds dt : ℕ} → ds ≡ at depth s → dt ≡ at depth t → dt ≤ ds → depth_of up (at top y) ≤ depth_of up (at top x)
    no_deeper es et g = rw (← i.left.highest, ← i.right.highest) (omega (arith, depth_at up t₀.depths s left_in, depth_at up t₀.depths t right_in))

    module _ {ds dt : ℕ} (es : ds ≡ at depth s) (et : dt ≡ at depth t) (n : s ≢ t) where
      other : at top x ≢ at top y
      other e = n (i.left.highest ∙ e ∙ sym i.right.highest)

      module _ {x' : ℕ} (g : dt ≤ ds) (q : x' ≡ at up s) where
        left : Uplink (tree_of up) (at top x) (at up (at top x)) × Lowest (tree_of up) (at up (at top x)) y w
        left = hop t₀.tree i.left.low i.right.low laned_left laned_right i.ahead other (no_deeper es et g)

        is_left : x' ≡ at up (at top x)
        is_left = q ∙ ap (at up) i.left.highest

        pub next_left : {s' : ℕ} → s' ≡ at top x' → Hopping up top a b w x' (Some s) s' y d t
        next_left e = rw (e, is_left, i.left.highest) (record {
          left = hopped t₀.tree i.left.low laned_left i.left.behind left.0;
          right = i.right;
          ahead = left.1;
        })

        pub less_left : depth_of up x' + depth_of up y < depth_of up x + depth_of up y
        less_left = rw is_left (omega (
          arith,
          (rooted t₀.tree).falls left.0,
          over (rooted t₀.tree) (top_over t₀.tree x i.left.low laned_left),
        ))

    -- the climbs stand in one lane
    module _ (e : s ≡ t) where
      one_lane : at top x ≡ at top y
      one_lane = sym i.left.highest ∙ e ∙ i.right.highest

      -- the higher of the two is where they meet
      higher : depth_of up x ≤ depth_of up y → x ≡ w
      higher g =
          let u = lane_line t₀.tree y x i.right.low i.left.low laned_right laned_left one_lane g in
          antisym (rooted t₀.tree) i.ahead.left (i.ahead.lowest x stay u)

      -- x is the higher
      closes_left : depth_of up x < depth_of up y → (x ≡ w) × Last up a x c × Last up b x (Some (at kid x))
      closes_left g = (higher (omega arith), i.left.tops, lower_arm t₀.tree i.left.low laned_left laned_right i.right one_lane g)

      closes_level : depth_of up x ≡ depth_of up y → (x ≡ w) × Last up a x c × Last up b x d
      closes_level g =
          let u = lane_line t₀.tree y x i.right.low i.left.low laned_right laned_left one_lane (omega arith) in
          (higher (omega arith), i.left.tops, rw (foot t₀.tree u (omega arith)) i.right.tops)

      read : (at depth x ≡ depth_of up x) × (at depth y ≡ depth_of up y)
      read = (depth_at up t₀.depths x i.left.low, depth_at up t₀.depths y i.right.low)

module _ {up depth top kid : List ℕ} {a b : ℕ} (t₀ : Grown up depth) (h : Hops up top kid a b) {w x s y t : ℕ} {c d : Option ℕ} (i : Hopping up top a b w x c s y d t) where
  module _ {ds dt : ℕ} (es : ds ≡ at depth s) (et : dt ≡ at depth t) (n : s ≢ t) {y' : ℕ} (g : ds < dt) (q : y' ≡ at up t) where
    pub next_right : {t' : ℕ} → t' ≡ at top y' → Hopping up top a b w x c s y' (Some t) t'
    next_right e = swap (next_left t₀ (turned h) (swap i) et es (λ e. n (sym e)) (omega arith) q e)

    pub less_right : depth_of up x + depth_of up y' < depth_of up x + depth_of up y
    less_right = omega (arith, less_left t₀ (turned h) (swap i) et es (λ e. n (sym e)) (omega arith) q)

pub end : {up depth top kid : List ℕ} {a b : ℕ} (t₀ : Grown up depth) (h : Hops up top kid a b) {x s y t w : ℕ} {c d c' d' : Option ℕ} → Hopping up top a b (meet up a b) x c s y d t
    → s ≡ t → Closes depth kid x c y d w c' d' → MetAt up a b w c' d'
end t₀ h i e (left_higher g ew ec ed) = let (m, p, q) = closes_left t₀ h i e (omega (arith, read t₀ h i e)) in
    rw (ec, ed, ew) (record { meets = m; left = p; right = q })
end t₀ h i e (right_higher g ew ec ed) = let (m, p, q) = closes_left t₀ (turned h) (swap i) (sym e) (omega (arith, read t₀ h i e)) in
    rw (ec, ed, ew) (record { meets = m; left = q; right = p })
end t₀ h i e (level g ew ec ed) = let (m, p, q) = closes_level t₀ h i e (omega (arith, read t₀ h i e)) in
    rw (ec, ed, ew) (record { meets = m; left = p; right = q })
