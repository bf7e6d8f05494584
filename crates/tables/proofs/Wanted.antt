-- The links that tables which break no rule want: (v, up v) where v is ringed, (v, up up v) where it is carried, (v, group v) where its
-- group has another's name. The rules say that each of these asks nothing beyond what the tables have: so the tables tell of just these links.
use mathlib.Core.Path.{◌≡◌, refl, sym, ap, ◌∙◌}
use mathlib.Core.List.{List}
use mathlib.Core.Logic.{◌≢◌, ◌⊎◌, inl, ⊎_elim, dite, Ne-symm}
use Prim.Native.Nat.{ℕ, suc, ◌<◌, ◌≤◌}
use native.Mathlib.Decide.{ℕ_discrete}
use native.Mathlib.Omega.{arith}
use lib.ListN.{length}
use borrow.Author.Tests.{eq-eqb, ne_eqb}
use Rattle.plain.proofs.Tabulate.{tabulated}
use Rattle.plain.specs.Table.{at}
use Rattle.graph.proofs.Walks.{one_step, join}
use Rattle.graph.specs.Walk.{Relation, stay, step}
use Rattle.rings.proofs.Under.{uplinked, rest, rise, no_return, one_child}
use Rattle.rings.specs.Ring.{Escape}
use Rattle.rings.specs.Tree.{Uplink, Under}
use Rattle.tables.specs.Tables.{Tables}
use Rattle.tables.specs.Tree.{hub, depth_of}
use Rattle.tables.specs.AsTree.{tree_of}
use Rattle.tables.proofs.Kept.{Kept}
use Rattle.tables.specs.Demand1.{SoundTree}
use Rattle.tables.proofs.Sound.{rooted, depth_hub, depth_up}
use Rattle.tables.proofs.Lines.{up_over}
use Rattle.tables.proofs.Told.{Told}

-- the link is wanted
pub data Wanted (up : List ℕ) (t : Tables) (v : ℕ) : ℕ → Type 0 where
  ring : 1 ≤ at t.mark v → Wanted up t v (at up v)
  carry : at t.mark v ≡ 2 → Wanted up t v (at up (at up v))
  tie : at t.group v ≢ v → Wanted up t v (at t.group v)

-- either way round
abbrev Wants : List ℕ → Tables → Relation
Wants up t a b = ((a < length up) × Wanted up t a b) ⊎ ((b < length up) × Wanted up t b a)

module _ {up : List ℕ} {t : Tables} (s : SoundTree up) (k : (v : ℕ) → v < length up → Kept up t v) where
  -- a mark or another's name tells that v is no hub
  pub ringed_other : (v : ℕ) → v < length up → 1 ≤ at t.mark v → v ≢ hub up
  ringed_other v h m e = omega (arith, ((k v h).top e).0)

  pub tied_other : (v : ℕ) → v < length up → at t.group v ≢ v → v ≢ hub up
  tied_other v h o e = o ((k v h).top e).1

  -- the name's uplink goes where v's does
  pub name_up : (v : ℕ) → v < length up → v ≢ hub up → Uplink (tree_of up) (at t.group v) (at up v)
  name_up v h o = let g = (k v h).group o in record { low = g.0; other = g.1.1.0; to = g.1.1.1.0 }

  -- the uplinks of v and of up v, as the link of v has need of them
  pub second : (v : ℕ) → v < length up → at t.mark v ≡ 2 → Uplink (tree_of up) (at up v) (at up (at up v))
  second v h e = uplinked (s.inside v h) ((k v h).carried e).0

  first : {v b : ℕ} → v < length up → Wanted up t v b → Uplink (tree_of up) v (at up v)
  first {v} h (ring m) = uplinked h (ringed_other v h m)
  first {v} h (carry e) = uplinked h (ringed_other v h (omega arith))
  first {v} h (tie o) = uplinked h (tied_other v h o)

  -- what is over b is over v, or is b, the name of v's group
  data Down (v b x : ℕ) : Type 0 where
    under : Under (tree_of up) x v → Down v b x
    named : x ≡ b → b ≡ at t.group v → at t.group v ≢ v → Down v b x

  down : {x v b : ℕ} → v < length up → Wanted up t v b → Under (tree_of up) x b → Down v b x
  down h (ring m) u = under (step (first h (ring m)) u)
  down {v = v} h (carry e) u = under (step (first h (carry e)) (step (second v h e) u))
  down {x} {v} h (tie o) u = dite (ℕ_discrete (at t.group v) x) (λ e. named (sym e) refl o)
      (λ e. let r = first h (tie o) in under (step r (rest (name_up v h r.other) e u)))

  -- what is over v is v, is over b, or is up v with v carried
  data Over (v b x : ℕ) : Type 0 where
    same : v ≡ x → Over v b x
    above : Under (tree_of up) x b → Over v b x
    between : at t.mark v ≡ 2 → b ≡ at up (at up v) → at up v ≡ x → Over v b x

  overs : {x v b : ℕ} → v < length up → Wanted up t v b → Under (tree_of up) x v → Over v b x
  overs {x} {v} h l u = dite (ℕ_discrete v x) same (λ o. go l (rest (first h l) o u))
    where
      go : {b : ℕ} → Wanted up t v b → Under (tree_of up) x (at up v) → Over v b x
      go (ring m) w = above w
      go (carry e) w = dite (ℕ_discrete (at up v) x) (between e refl) (λ z. above (rest (second v h e) z w))
      go (tie o) w = above (step (name_up v h (tied_other v h o)) w)

  -- how a wanted link leads from under x to what is not under y, where y is over x: it is of x, of a carried machine right below x, or to its name x
  data Out (x y : ℕ) : Type 0 where
    own : {b : ℕ} → x < length up → Wanted up t x b → ¬ Under (tree_of up) y b → Out x y
    below : {v : ℕ} → v < length up → at t.mark v ≡ 2 → at up v ≡ x → ¬ Under (tree_of up) y (at up x) → Out x y
    name : {v : ℕ} → v < length up → at t.group v ≢ v → at t.group v ≡ x → ¬ Under (tree_of up) y v → Out x y

  out : {x y : ℕ} → Under (tree_of up) y x → Escape (tree_of up) (Wants up t) x y → Out x y
  out {x} {y} o g = ⊎_elim (λ p. from p.0 p.1 (overs p.0 p.1 g.below) g.beyond)
      (λ p. to p.0 (down p.0 p.1 g.below) g.beyond) g.link
    where
      from : {v b : ℕ} → v < length up → Wanted up t v b → Over v b x → ¬ Under (tree_of up) y b → Out x y
      from h l (same e) q = own (rw e at h) (rw e at l) q
      from h l (above u) q = absurd (q (join u o))
      from h l (between e f i) q = below h e i (rw (← i, ← f) q)

      to : {v b : ℕ} → v < length up → Down v b x → ¬ Under (tree_of up) y v → Out x y
      to h (under u) q = absurd (q (join u o))
      to h (named e f n) q = name h n (sym (e ∙ f)) q

  marked : {v b : ℕ} → v < length up → Wanted up t v b → 1 ≤ at t.mark v
  marked h (ring m) = m
  marked h (carry e) = omega arith
  marked {v} h (tie o) = ((k v h).partner (tied_other v h o) o).1

  rings_out : {x : ℕ} → Out x x → 1 ≤ at t.mark x
  rings_out (own h l q) = marked h l
  rings_out (below {v = v} h e i q) = rw i at ((k v h).carried e).1
  rings_out (name {v = v} h o e q) = rw e at ((k v h).partner (tied_other v h o) o).0

  carries_out : {x : ℕ} → Out x (at up x) → at t.mark x ≡ 2
  carries_out (own h (ring m) q) = absurd (q stay)
  carries_out (own h (carry e) q) = e
  carries_out {x} (own h (tie o) q) = absurd (q (one_step (name_up x h (tied_other x h o))))
  carries_out (below h e i q) = absurd (q stay)
  carries_out (name {v = v} h o e q) = let z = tied_other v h o in absurd (q (rw (← e, (name_up v h z).to) (one_step (uplinked h z))))

  -- a link from under one child to under another is from a machine to its group's name
  ties : {w x y v b : ℕ} → v < length up → Wanted up t v b → Uplink (tree_of up) x w → Uplink (tree_of up) y w → x ≢ y → Under (tree_of up) x v → Under (tree_of up) y b → at t.group x ≡ at t.group y
  ties {w} {x} {y} {v} {b} h l r q o u z = go (overs h l u) (down h l z)
    where
      go : Over v b x → Down v b y → at t.group x ≡ at t.group y
      go p (under c) = absurd (o (one_child (rooted s) r q u c))
      go (same i) (named e f n) = rw (← i, e, f) (sym ((k v h).group (tied_other v h n)).1.1.1.1)
      go (above c) (named e f n) = absurd (o (one_child (rooted s) r q c z))
      go (between e f i) (named j _ _) = let c : w ≡ y = sym r.to ∙ ap (at up) (sym i) ∙ sym f ∙ sym j in absurd (no_return (rooted s) q (rw c stay))

  depth_at : (x : ℕ) → x < length up → at t.depth x ≡ depth_of up x
  depth_at = rise (rooted s) (λ x. at t.depth x ≡ depth_of up x)
      ((k (hub up) s.hub_in).depth ∙ rw (eq-eqb (hub up) (hub up) refl) (sym (depth_hub s)))
      (λ a b r e. (k a r.low).depth ∙ rw (ne_eqb a (hub up) r.other) (ap suc (ap (at t.depth) r.to ∙ e ∙ ap (depth_of up) (sym r.to)) ∙ sym (depth_up s a r.low r.other)))

  -- The tables tell of the wanted links.
  pub wants_told : length t.depth ≡ length up → length t.group ≡ length up → length t.mark ≡ length up → Told up (Wants up t) t
  wants_told ld lg lm = record {
    depths = tabulated t.depth (length up) (depth_of up) ld depth_at;
    marked = record {
      size = lm;
      small = λ x h. (k x h).small;
      ringed = λ x h. (λ m. let r = uplinked h (ringed_other x h m) in record { inner = x; outer = at up x; link = inl (h, ring m); below = stay; beyond = no_return (rooted s) r }, λ g. rings_out (out stay g));
      carried = λ x h. (λ e. record { inner = x; outer = at up (at up x); link = inl (h, carry e); below = stay; beyond = no_return (rooted s) (second x h e) }, λ g. carries_out (out (up_over s x h) g));
    };
    named = record {
      size = lg;
      agree = λ j. ⊎_elim (λ p. ties p.0 p.1 j.left j.right j.apart j.below_left j.below_right)
          (λ p. sym (ties p.0 p.1 j.right j.left (Ne-symm j.apart) j.below_right j.below_left)) j.link;
      own = λ x h. dite (ℕ_discrete (at t.group x) x) (λ e. rw e stay) (λ o.
          let z = tied_other x h o in
          one_step (record { left = uplinked h z; right = name_up x h z; apart = λ e. o (sym e); one = x; two = at t.group x; link = inl (h, tie o); below_left = stay; below_right = stay }));
      least = λ x h. dite (ℕ_discrete x (hub up)) (λ e. omega (arith, ((k x h).top e).1)) (λ o. ((k x h).group o).1.0);
    };
  }
