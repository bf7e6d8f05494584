-- A line is seen from below: at x whole lines are seen, but that the up of a machine seen last may be x itself. An entry is written once, so the
-- climb ends at the first machine that is seen, at the latest at the hub. And behind that: whole lines are seen where every machine is.
use mathlib.Core.Path.{◌≡◌, sym, ap, ◌∙◌}
use mathlib.Core.Bool.{cond}
use mathlib.Core.List.{List}
use mathlib.Core.Logic.{◌≢◌, ◌⊎◌, inl, inr, ⊎_elim, dite}
use Prim.Native.Nat.{ℕ, ◌+◌, ◌<◌, ◌≤◌, max}
use native.Mathlib.Decide.{ℕ_discrete}
use native.Mathlib.Omega.{arith}
use lib.ListN.{length, set, length-set}
use lib.Dec.{eqb}
use borrow.Author.Tests.{eq-eqb, ne_eqb}
use Rattle.plain.specs.Table.{at}
use Rattle.plain.proofs.Putting.{Put, here, there, put}
use Rattle.rings.specs.Tree.{Uplink}
use Rattle.rings.proofs.Under.{uplinked}
use Rattle.tables.specs.Tree.{most_machines, hub, depth_of}
use Rattle.tables.specs.AsTree.{tree_of}
use Rattle.tables.proofs.Sound.{soon, rooted}
use Rattle.lanes.specs.Seen.{none, Seen, Seeable, SeenFrom, Lookable, SeenTo, SeenEvery}
use Rattle.tables.proofs.Reading.{depth_size, depth_at}
use Rattle.lanes.proofs.Grown.{Grown}
use Rattle.lanes.proofs.Numbers.{number_in}

-- one while x is not seen
abbrev pub unseen : List ℕ → ℕ → ℕ
unseen low x = cond (eqb (at low x) none) 1 0

-- the climb from v stands at x
pub record Seeing (up low₀ : List ℕ) (v : ℕ) (low : List ℕ) (x : ℕ) : Type 0 where
  pub size : length low ≡ length up
  pub inside : x < length up
  pub own : (u : ℕ) → u < length up → Seen low u → at low u ≡ depth_of up u
  pub upward : {u w : ℕ} → Uplink (tree_of up) u w → Seen low u → Seen low w ⊎ (w ≡ x)
  pub foot : Seen low v ⊎ (v ≡ x)
  pub kept : (u : ℕ) → Seen low₀ u → Seen low u
  pub no_deeper : (u : ℕ) → Seen low u → Seen low₀ u ⊎ (depth_of up u ≤ depth_of up v)
  pub high : depth_of up x ≤ depth_of up v

module _ {up depth : List ℕ} (r : Grown up depth) where
  module _ {low₀ low : List ℕ} {v x : ℕ} (i : Seeing up low₀ v low x) where
    pub depth_in : x < length depth
    depth_in = rw (depth_size up r.depths) i.inside

    module _ {s : ℕ} (e : s ≡ at low x) (z : s ≡ none) where
      abbrev d : ℕ
      d = at depth x

      d_is : at depth x ≡ depth_of up x
      d_is = depth_at up r.depths x i.inside

      d_some : at depth x ≢ none
      d_some q = omega (arith, d_is, soon r.tree x i.inside, r.few)

      puts : (u : ℕ) → Put low x (at depth x) u (at (set low x (at depth x)) u)
      puts u = put low x (at depth x) u (rw i.size i.inside)

      own : (u : ℕ) {a : ℕ} → u < length up → Put low x (at depth x) u a → a ≢ none → a ≡ depth_of up u
      own u h (here q f) o = f ∙ d_is ∙ ap (depth_of up) (sym q)
      own u h (there n f) o = f ∙ i.own u h (λ c. o (f ∙ c))

      -- whoever was seen still is, and x is now
      still : (u : ℕ) {a : ℕ} → Seen low u ⊎ (u ≡ x) → Put low x (at depth x) u a → a ≢ none
      still u p (here q f) c = d_some (sym f ∙ c)
      still u p (there n f) c = ⊎_elim (λ p. p (sym f ∙ c)) n p

      -- whoever is seen was, or is x
      back : (u : ℕ) {a : ℕ} → Put low x (at depth x) u a → a ≢ none → Seen low u ⊎ (u ≡ x)
      back u (here q f) o = inr q
      back u (there n f) o = inl (λ c. o (f ∙ c))

      pub next : {y : ℕ} → y ≡ at up x → Seeing up low₀ v (set low x (at depth x)) y
      next {y} ey = record {
        size = length-set low x (at depth x) ∙ i.size;
        inside = rw ey (r.tree.inside x i.inside);
        own = λ u h. own u h (puts u);
        upward = λ {u} {w} q p. ⊎_elim
            (λ p'. inl (still w (i.upward q p') (puts w)))
            (λ (c : u ≡ x). inr (sym q.to ∙ ap (at up) c ∙ sym ey))
            (back u (puts u) p);
        foot = inl (still v i.foot (puts v));
        kept = λ u p. still u (inl (i.kept u p)) (puts u);
        no_deeper = λ u p. ⊎_elim (i.no_deeper u) (λ (c : u ≡ x). inr (rw c i.high)) (back u (puts u) p);
        high = rw ey (dite (ℕ_discrete x (hub up))
            (λ h. let c : at up x ≡ x = ap (at up) h ∙ r.tree.hub_self ∙ sym h in rw c i.high)
            (λ o. omega (arith, i.high, (rooted r.tree).falls (uplinked i.inside o))));
      }

      here_one : unseen low x ≡ 1
      here_one = rw (eq-eqb (at low x) none (sym e ∙ z))

      -- the entry that is written is no more none; at the hub that is all that falls
      pub less : {y : ℕ} → y ≡ at up x → depth_of up y + unseen (set low x (at depth x)) y < depth_of up x + unseen low x
      less {y} ey = dite (ℕ_discrete x (hub up))
          (λ h.
          let c : y ≡ x = ey ∙ ap (at up) h ∙ r.tree.hub_self ∙ sym h in
          let q : unseen (set low x (at depth x)) y ≡ 0 = rw (ne_eqb (at (set low x (at depth x)) y) none (still y (inr c) (puts y))) in
          omega (arith, here_one, ap (depth_of up) c))
          (λ o. omega (arith, here_one, one (set low x (at depth x)) y, ap (depth_of up) ey, (rooted r.tree).falls (uplinked i.inside o)))
        where
          one : (l : List ℕ) (u : ℕ) → unseen l u ≤ 1
          one l u = dite (ℕ_discrete (at l u) none) (λ q. rw (eq-eqb (at l u) none q) (omega arith)) (λ n. rw (ne_eqb (at l u) none n) (omega arith))

-- the lines of the ends of a batch, one after another
module _ {up low₀ batch : List ℕ} (r : Lookable up low₀ batch) {low : List ℕ} {levels i : ℕ} (p : SeenTo up batch low levels i) (h : i < length batch) {v : ℕ}
    (e : v ≡ at batch i) where
  end_in : v < length up
  end_in = rw e (number_in (length up) batch r.accepted i h)

  pub see_ready : Seeable up low v
  see_ready = record { fresh = p.fresh; inside = end_in }

module _ {up depth low₀ batch : List ℕ} (t : Grown up depth) (r : Lookable up low₀ batch) where
  module _ {low : List ℕ} {levels i : ℕ} (p : SeenTo up batch low levels i) (h : i < length batch) {v : ℕ} (e : v ≡ at batch i) where
    here-in : v < length up
    here-in = end_in r p h e

    pub level_in : v < length depth
    level_in = rw (depth_size up t.depths) here-in

    pub level_few : {d : ℕ} → d ≡ at depth v → d < most_machines
    level_few q = omega (arith, depth_at up t.depths v here-in, soon t.tree v here-in, t.few)

    pub all_next : {low' : List ℕ} {d n : ℕ} → SeenFrom up low low' v → d ≡ at depth v → n ≡ max levels (d + 1) → SeenTo up batch low' n (i + 1)
    all_next {low'} {d} {n} k ed en =
        let q : d ≡ depth_of up v = ed ∙ depth_at up t.depths v here-in in
        record {
          far = omega arith;
          fresh = k.fresh;
          ends = λ j g. dite (ℕ_discrete j i) (λ c. rw (c, ← e) k.here) (λ o. k.kept (at batch j) (p.ends j (omega arith)));
          high = omega (arith, p.high, soon t.tree v here-in);
          level = λ x g s. ⊎_elim (λ s. omega (arith, p.level x g s)) (λ (b : depth_of up x ≤ depth_of up v). omega arith) (k.no_deeper x s);
        }

-- the levels of the machines below i
pub record Every (depth : List ℕ) (levels i : ℕ) : Type 0 where
  pub far : i ≤ length depth
  pub level : (v : ℕ) → v < i → at depth v < levels
  pub least : (n : ℕ) → ((v : ℕ) → v < length depth → at depth v < n) → levels ≤ n

-- whole lines are among them
module _ {up depth low₀ batch : List ℕ} (t : Grown up depth) (r : Lookable up low₀ batch) where
  pub every_ready : length low₀ ≡ length depth
  every_ready = r.size ∙ sym (depth_size up t.depths)

  pub every_seen : {low : List ℕ} {levels : ℕ} → SeenEvery depth low levels → SeenTo up batch low levels (length batch)
  every_seen {low} {levels} k = record {
    far = omega arith;
    fresh = record {
      size = ap length k.copied ∙ depth_size up t.depths;
      upward = λ q _. seen ((rooted t.tree).low q);
      own = λ v h _. entry v h;
    };
    ends = λ j h. seen (number_in (length up) batch r.accepted j h);
    high = k.least (length up) (λ v h. let g : v < length up = rw (depth_size up t.depths) at h in omega (arith, depth_at up t.depths v g, soon t.tree v g));
    level = λ v h _. omega (arith, k.level v (rw (depth_size up t.depths) h), depth_at up t.depths v h);
  }
    where
      entry : (v : ℕ) → v < length up → at low v ≡ depth_of up v
      entry v h = ap (λ l. at l v) k.copied ∙ depth_at up t.depths v h

      seen : {v : ℕ} → v < length up → Seen low v
      seen {v} h z = omega (arith, entry v h, soon t.tree v h, t.few)
