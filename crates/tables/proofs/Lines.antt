-- The lines of a sound tree: what is on a line is what it is under; the first on a line that passes a test is under the others that do.
-- So w is the lowest common machine, and the child of w on a line is found.
use mathlib.Core.Path.{◌≡◌, refl, sym, ap, ◌∙◌}
use mathlib.Core.Bool.{Bool}
use mathlib.Core.List.{List}
use mathlib.Core.Logic.{◌≢◌, ⊎_elim, dite}
use Prim.Native.Nat.{ℕ, zero, suc, ◌+◌, ◌-◌, ◌<◌, ◌≤◌}
use native.Mathlib.Decide.{ℕ_discrete}
use native.Mathlib.Omega.{arith}
use lib.ListN.{length}
use Rattle.plain.proofs.Least.{least_has, least-le}
use Rattle.plain.proofs.Says.{Says, says_map, says_some, says_eq}
use Rattle.plain.specs.Search.{least}
use Rattle.plain.specs.Table.{at}
use Rattle.graph.specs.Walk.{stay, step}
use Rattle.graph.proofs.Walks.{one_step, join}
use Rattle.rings.proofs.Under.{uplinked, last, at-hub, hub_over, in_tree}
use Rattle.rings.specs.Tree.{Uplink, Under, Lowest}
use Rattle.tables.specs.Link.{over, first, meet, below}
use Rattle.tables.specs.Tree.{climb, hub, depth_of}
use Rattle.tables.specs.AsTree.{tree_of}
use Rattle.tables.specs.Demand1.{SoundTree}
use Rattle.tables.proofs.Climb.{climb-add, climb_in}
use Rattle.tables.proofs.Sound.{soon, depth_up, rooted}

-- w is the first machine on the way up from a that P holds of
record First (up : List ℕ) (a : ℕ) (P : ℕ → Type 0) (w : ℕ) : Type 0 where
  under : Under (tree_of up) w a
  holds : P w
  lowest : (z : ℕ) → Under (tree_of up) z a → P z → Under (tree_of up) z w

module _ {up : List ℕ} (s : SoundTree up) where
  -- a is under its up; the hub is its own
  pub up_over : (a : ℕ) → a < length up → Under (tree_of up) (at up a) a
  up_over a h = dite (ℕ_discrete a (hub up)) (λ e. let q : at up a ≡ a = ap (at up) e ∙ s.hub_self ∙ sym e in rw q stay) (λ o. one_step (uplinked h o))

  climb_under : (k a : ℕ) → a < length up → Under (tree_of up) (climb up k a) a
  unfolding climb
  climb_under zero a h = stay
  climb_under (suc k) a h = join (up_over a h) (climb_under k (at up a) (s.inside a h))

  under_climb : {x a : ℕ} → Under (tree_of up) x a → (k : ℕ) × (k ≤ depth_of up a) × (climb up k a ≡ x)
  unfolding climb
  under_climb stay = (0, omega arith, refl)
  under_climb {a = a} (step r u) = let (k, l, e) = under_climb u in
      (suc k, omega (arith, depth_up s a r.low r.other, ap (depth_of up) r.to), ap (climb up k) r.to ∙ e)

  pub says_over : (x a : ℕ) → a < length up → Says (over up x a) (Under (tree_of up) x a)
  unfolding over
  says_over x a h =
      says_map (λ k. rw k.2 at (climb_under k.0 a h))
      (λ u. let (k, l, e) = under_climb u in (k, omega (arith, soon s a h), e))
      (says_some (length up) (λ k _. says_eq (climb up k a) x))

  first_is : (a : ℕ) {p : ℕ → Bool} {P : ℕ → Type 0} → ((x : ℕ) → Says (p x) (P x)) → a < length up → {z : ℕ} → Under (tree_of up) z a → P z → First up a P (first up a p)
  unfolding first
  first_is a {p} says h u e =
      let q : ℕ → Bool = λ k. p (climb up k a) in
      let n = length up in
      let d = soon s a h in
      let w = least n q in
      let (k, b, c) = under_climb u in
      let m : w ≤ k = least-le n q k (rw c ((says _).takes e)) in
      record {
        under = climb_under w a h;
        holds = (says _).gives ((least_has n q).here (omega arith));
        lowest = λ z v f.
            let (j, b', c') = under_climb v in
            let i : w ≤ j = least-le n q j (rw c' ((says z).takes f)) in
            let g : w + (j - w) ≡ j = omega arith in
            let y : climb up (j - w) (climb up w a) ≡ z = sym (climb-add up w (j - w) a) ∙ ap (λ i. climb up i a) g ∙ c' in
            rw y at (climb_under (j - w) (climb up w a) (climb_in up s.inside w a h));
      }

  pub meets : {a b : ℕ} → a < length up → b < length up → Lowest (tree_of up) a b (meet up a b)
  unfolding meet
  meets {a} {b} h k =
      let f = first_is a (λ x. says_over x b k) h (hub_over (rooted s) a h) (hub_over (rooted s) b k) in
      record { left = f.under; right = f.holds; lowest = f.lowest }

  pub below_is : {w a : ℕ} → a < length up → Under (tree_of up) w a → a ≢ w → Uplink (tree_of up) (below up w a) w × Under (tree_of up) (below up w a) a
  unfolding below
  below_is {w} {a} h u o = ⊎_elim (λ e. absurd (o e)) (λ (c, r, v).
      let f = first_is a (λ x. says_eq (at up x) w) h v r.to in
      (record { low = in_tree (rooted s) f.under h; other = λ e. r.other (sym (at-hub (f.lowest c v r.to) e) ∙ e); to = f.holds }, f.under))
      (last u)
