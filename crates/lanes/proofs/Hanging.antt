-- A batch hung link by link: the groups are joined as the links say, and each end knows the least depth that its rings reach.
use mathlib.Core.Path.{◌≡◌, refl, ap, ◌∙◌}
use mathlib.Core.List.{List}
use mathlib.Core.Logic.{◌⊎◌, inl, inr, ⊎_elim, ⊎_map, dite}
use Prim.Native.Nat.{ℕ, ◌+◌, ◌*◌, ◌/◌, ◌<◌, ◌≤◌, min}
use native.Mathlib.Decide.{ℕ_discrete, dec_le}
use native.Mathlib.Numerals.{add-one}
use native.Mathlib.Omega.{arith}
use lib.ListN.{length, length-set}
use lib.Dec.{eqb}
use borrow.Author.Tests.{eq-eqb, ne_eqb}
use Rattle.std.specs.Prelude.{Option, None, Some}
use Rattle.plain.specs.Table.{at}
use Rattle.plain.proofs.Says.{by_cases}
use Rattle.rings.proofs.Under.{in_tree}
use Rattle.tables.specs.Tree.{most_machines, depth_of}
use Rattle.tables.specs.Link.{meet, joined, grouped}
use Rattle.tables.specs.Batch.{pairs}
use Rattle.tables.proofs.Sound.{rooted}
use Rattle.tables.proofs.Lines.{meets}
use Rattle.tables.specs.Links.{Good}
use Rattle.tables.proofs.Reading.{depth_size, depth_at}
use Rattle.lanes.proofs.Grown.{Grown}
use Rattle.lanes.proofs.Linking.{other, below_one}
use Rattle.lanes.proofs.Numbers.{in_pairs, link_good}
use Rattle.lanes.specs.Lane.{MetAt}
use Rattle.lanes.specs.Forest.{United}
use Rattle.lanes.specs.Low.{lowered}
use Rattle.lanes.specs.Hung.{Hangable, Hung, one, two, reached, groupings, Source, Lows, Batched, Hanging, HungAll}
use Rattle.plain.proofs.Putting.{Put, here, there, put}

-- the link from a to b, whose lines meet at w, with arms that end at c and d
module _ {up depth top kid group low : List ℕ} {a b w : ℕ} {c d : Option ℕ} (t : Grown up depth) (h : Hangable up top kid group low a b) (m : MetAt up a b w c d) where
  w_in : w < length up
  w_in = rw m.meets (in_tree (rooted t.tree) (meets t.tree h.hops.one h.hops.two).left h.hops.one)

  pub depth_in : w < length depth
  depth_in = rw (depth_size up t.depths) w_in

  pub w_few : w < most_machines
  w_few = omega (arith, w_in, t.few)

  -- both ends are told of w
  told : {low₁ low₂ : List ℕ} → low₁ ≡ lowered low a (at depth w) → low₂ ≡ lowered low₁ b (at depth w)
      → low₂ ≡ lowered (lowered low a (depth_of up (meet up a b))) b (depth_of up (meet up a b))
  told e₁ e₂ =
      let z : at depth w ≡ depth_of up (meet up a b) = depth_at up t.depths w w_in ∙ ap (depth_of up) m.meets in
      e₂ ∙ ap (λ l. lowered l b (at depth w)) e₁ ∙ ap (λ z. lowered (lowered low a z) b z) z

  -- where an arm is empty no groups are joined
  same : (a ≡ w) ⊎ (b ≡ w) → (flat : List ℕ) → flat ≡ grouped up a b flat
  unfolding grouped
  same o flat = rw (← m.meets) (⊎_elim
      (λ (e : a ≡ w). rw (eq-eqb a w e) refl)
      (λ (e : b ≡ w). by_cases (eqb a w) (λ f. rw f refl) (λ f. rw (f, eq-eqb b w e) refl))
      o)

  -- and else those of the children of w
  below : {x y : ℕ} → c ≡ Some x → d ≡ Some y → (flat : List ℕ) → joined x y flat ≡ grouped up a b flat
  unfolding grouped
  below e f flat =
      let s = t.tree in
      let (r, u) = rw e at m.left in
      let (q, v) = rw f at m.right in
      let h₁ = h.hops.one in
      let h₂ = h.hops.two in
      rw (← m.meets, ne_eqb a w (other s h₁ r u), ne_eqb b w (other s h₂ q v), below_one s h₁ r u, below_one s h₂ q v) refl

  module _ {low₁ low₂ : List ℕ} (e₁ : low₁ ≡ lowered low a (at depth w)) (e₂ : low₂ ≡ lowered low₁ b (at depth w)) where
    pub hung_left : c ≡ None → Hung up group group low low₂ a b
    hung_left e = record { down = h.down; joins = λ flat f. rw (← same (inl (rw e at m.left)) flat) f; lows = told e₁ e₂ }

    pub hung_right : d ≡ None → Hung up group group low low₂ a b
    hung_right e = record { down = h.down; joins = λ flat f. rw (← same (inr (rw e at m.right)) flat) f; lows = told e₁ e₂ }

    pub hung_both : {x y : ℕ} {group' : List ℕ} → c ≡ Some x → d ≡ Some y → United group group' x y → Hung up group group' low low₂ a b
    hung_both e f u = record { down = u.down; joins = λ flat k. rw (← below e f flat) (u.joins flat k); lows = told e₁ e₂ }

-- an entry after one was lowered to z
record Lower (l : List ℕ) (v z u r : ℕ) : Type 0 where
  falls : r ≤ at l u
  here : u ≡ v → r ≤ z
  was : (r ≡ at l u) ⊎ ((u ≡ v) × (r ≡ z))

lower : (l : List ℕ) (v z u : ℕ) → v < length l → Lower l v z u (at (lowered l v z) u)
lower l v z u h = go (put l v (min (at l v) z) u h)
  where
    go : {r : ℕ} → Put l v (min (at l v) z) u r → Lower l v z u r
    go (here e q) = let f = ap (at l) e in record {
      falls = omega arith;
      here = λ _. omega arith;
      was = dite (dec_le (at l v) z) (λ b. inl (omega arith)) (λ b. inr (e, omega arith));
    }
    go (there n q) = record { falls = omega arith; here = λ e. absurd (n e); was = inl q }

-- one link more
module _ {up batch low : List ℕ} {i : ℕ} (l : Lows up batch i low) (h : one batch i < length up) (k : two batch i < length up) where
  abbrev z : ℕ
  z = reached up batch i

  abbrev low₁ : List ℕ
  low₁ = lowered low (one batch i) (reached up batch i)

  abbrev low₂ : List ℕ
  low₂ = lowered (lowered low (one batch i) (reached up batch i)) (two batch i) (reached up batch i)

  first : (u : ℕ) → Lower low (one batch i) z u (at low₁ u)
  first u = lower low (one batch i) z u (rw l.size h)

  second : (u : ℕ) → Lower low₁ (two batch i) z u (at low₂ u)
  second u = lower low₁ (two batch i) z u (rw (length-set low (one batch i) (min (at low (one batch i)) z), l.size) k)

  more : {u r : ℕ} → Source up batch i u r → Source up batch (i + 1) u r
  more s = record { link = s.link; before = omega (arith, s.before); end = s.end; is = s.is }

  this : {u r : ℕ} → (u ≡ one batch i) ⊎ (u ≡ two batch i) → r ≡ z → Source up batch (i + 1) u r
  this e q = record { link = i; before = omega arith; end = e; is = q }

  source : (u : ℕ) → u < length up → (depth_of up u ≤ at low₂ u) ⊎ Source up batch (i + 1) u (at low₂ u)
  source u g = ⊎_elim
      (λ (e : at low₂ u ≡ at low₁ u). ⊎_elim
      (λ (f : at low₁ u ≡ at low u). rw (e, f) (⊎_map (λ d. d) more (l.source u g)))
      (λ f. inr (this (inl f.0) (e ∙ f.1)))
      (first u).was)
      (λ e. inr (this (inr e.0) e.1))
      (second u).was

  lows_more : Lows up batch (i + 1) low₂
  lows_more = record {
    size = length-set low₁ (two batch i) (min (at low₁ (two batch i)) z) ∙ length-set low (one batch i) (min (at low (one batch i)) z) ∙ l.size;
    left = λ j g. dite (ℕ_discrete j i)
        (λ e. rw e (omega (arith, (second (one batch i)).falls, (first (one batch i)).here refl)))
        (λ o. omega (arith, (second (one batch j)).falls, (first (one batch j)).falls, l.left j (omega arith)));
    right = λ j g. dite (ℕ_discrete j i)
        (λ e. rw e ((second (two batch i)).here refl))
        (λ o. omega (arith, (second (two batch j)).falls, (first (two batch j)).falls, l.right j (omega arith)));
    source = source;
  }

module _ {up top kid group₀ low₀ batch : List ℕ} (r : Batched up top kid group₀ low₀ batch) where
  all_pairs : length batch ≡ 2 * length (pairs batch)
  all_pairs = in_pairs (length up) batch r.accepted

  pub start : Hanging up batch group₀ group₀ low₀ 0
  unfolding groupings
  start = record {
    far = omega arith;
    groups = r.groups;
    down = r.forest.down;
    forest = r.forest;
    lows = record {
      size = r.lows;
      left = λ j h. absurd (omega arith);
      right = λ j h. absurd (omega arith);
      source = λ v h. inl (r.fresh v h);
    };
  }

  module _ {group low : List ℕ} {i : ℕ} (p : Hanging up batch group₀ group low i) where
    pub end : length batch / 2 ≤ i → HungAll up batch group₀ group low
    end h = let e : i ≡ length (pairs batch) = omega (arith, p.far, all_pairs) in rw e at p

    module _ (g : i < length batch / 2) where
      good : Good (length up) (one batch i, two batch i)
      good = link_good (length up) batch r.accepted i (omega (arith, all_pairs))

      module _ {a b : ℕ} (ea : a ≡ one batch i) (eb : b ≡ two batch i) where
        pub link_ready : Hangable up top kid group low a b
        link_ready = record {
          hops = record {
            one = rw ea good.one;
            two = rw eb good.two;
            left = rw ea (r.laned (2 * i) (omega arith));
            right = rw eb (r.laned (2 * i + 1) (omega arith));
          };
          groups = p.groups;
          down = p.down;
          lows = p.lows.size;
        }

        pub next : {group' low' : List ℕ} → Hung up group group' low low' a b → length group' ≡ length group → Hanging up batch group₀ group' low' (i + 1)
        unfolding groupings
        next k eg =
            let k' : Hung up group _ low _ (one batch i) (two batch i) = rw (ea, eb) at k in
            record {
              far = omega arith;
              groups = eg ∙ p.groups;
              down = k'.down;
              forest = rw add-one (k'.joins (groupings up batch i group₀) p.forest);
              lows = rw k'.lows (lows_more p.lows good.one good.two);
            }
