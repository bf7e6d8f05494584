-- Laws of the groups as a forest in their own table: a way that is shortened keeps the groups, the greater of two names that points to the
-- lesser joins two groups, and a sweep from the front puts each group's name.
use mathlib.Core.Path.{◌≡◌, refl, sym, ap, ◌∙◌}
use mathlib.Core.List.{List}
use mathlib.Core.Logic.{◌≢◌, dite}
use Prim.Native.Nat.{ℕ, zero, suc, ◌<◌, ◌≤◌, max, min}
use native.Mathlib.Decide.{ℕ_discrete, dec_lt}
use native.Mathlib.Omega.{arith}
use lib.ListN.{length, set, length-set, length-map}
use lib.Seq.{get_or-set_other}
use borrow.Author.Tests.{eq-eqb, ne_eqb}
use Rattle.plain.specs.Table.{at}
use Rattle.plain.proofs.Tabulate.{at_map}
use Rattle.tables.specs.Link.{renamed, joined}
use Rattle.lanes.specs.Forest.{Down, Forest, Found, Unitable, United}
use Rattle.plain.proofs.Putting.{Put, here, there, put}

-- an entry no greater than its machine keeps the table going down
down_put : {g : List ℕ} → Down g → {i v : ℕ} → i < length g → v ≤ i → Down (set g i v)
down_put {g} d {i} {v} h l = record { le = λ x p. go x (omega (arith, length-set g i v)) (put g i v x h) }
  where
    go : (x : ℕ) {r : ℕ} → x < length g → Put g i v x r → r ≤ x
    go x p (here e f) = omega arith
    go x p (there o f) = omega (arith, d.le x p)

-- an entry put among those of its own group keeps the groups, where none becomes its own name
module _ {g flat : List ℕ} (f : Forest g flat) {x v : ℕ} (h : x < length g) (l : v ≤ x) (e : at flat v ≡ at flat x) (o : v ≡ x → at g x ≡ x) where
  forest_put : Forest (set g x v) flat
  forest_put = record {
    size = length-set g x v ∙ f.size;
    down = down_put f.down h l;
    same = λ y p. same y (omega (arith, length-set g x v)) (put g x v y h);
    own = λ y p. own y (omega (arith, length-set g x v)) (put g x v y h);
  }
    where
      same : (y : ℕ) {r : ℕ} → y < length g → Put g x v y r → at flat r ≡ at flat y
      same y p (here q i) = rw (i, q) e
      same y p (there n i) = rw i (f.same y p)

      own : (y : ℕ) {r : ℕ} → y < length g → Put g x v y r → r ≡ y → at flat y ≡ y
      own y p (here q i) s = rw q (f.own x h (o (sym i ∙ s ∙ q)))
      own y p (there n i) s = f.own y p (sym i ∙ s)

-- the search for the name of c's group stands at x, whose entry is v
pub record Rooting (g₀ g : List ℕ) (c x v : ℕ) : Type 0 where
  pub size : length g ≡ length g₀
  pub low : x < length g₀
  pub near : v < length g₀
  pub is : v ≡ at g x
  pub down : Down g
  pub small : x ≤ c
  pub keeps : (flat : List ℕ) → Forest g₀ flat → Forest g flat × (at flat x ≡ at flat c)

module _ {g₀ g : List ℕ} {c x v : ℕ} (i : Rooting g₀ g c x v) where
  here_in : x < length g
  here_in = rw i.size i.low

  root_in : v < length g
  root_in = rw i.size i.near

  module _ (n : v ≢ x) where
    pub root_less : v < x
    root_less = omega (arith, i.is, i.down.le x here_in)

    -- the entry of v is nearer to the name
    nearer : at g v ≤ v
    nearer = i.down.le v root_in

    kept : (flat : List ℕ) → Forest g₀ flat → Forest (set g x (at g v)) flat × (at flat v ≡ at flat c)
    kept flat f =
        let (k, e) = i.keeps flat f in
        let q : at flat v ≡ at flat x = ap (at flat) i.is ∙ k.same x here_in in
        let m = nearer in
        let l = root_less in
        (forest_put k here_in (omega arith) (k.same v root_in ∙ q) (λ z. absurd (omega arith)), q ∙ e)

    pub root_next : Rooting g₀ (set g x (at g v)) c v (at g v)
    root_next = let l = root_less in record {
      size = length-set g x (at g v) ∙ i.size;
      low = i.near;
      near = omega (arith, nearer, i.near);
      is = sym (get_or-set_other g x v (at g v) 0 n);
      down = down_put i.down here_in (omega (arith, nearer));
      small = omega (arith, i.small);
      keeps = kept;
    }

-- a group's name is no greater than its machines
least : {g flat : List ℕ} → Forest g flat → (k x : ℕ) → x < k → x < length g → at flat x ≤ x
least f zero x b h = absurd (omega arith)
least {g} f (suc k) x b h = dite (ℕ_discrete (at g x) x)
    (λ e. omega (arith, f.own x h e))
    (λ o. let d = f.down.le x h in omega (arith, f.same x h, least f k (at g x) (omega arith) (omega arith)))

-- whoever names its group is its own entry
name_self : {g flat : List ℕ} → Forest g flat → (r : ℕ) → r < length g → at flat r ≡ r → at g r ≡ r
name_self {g} f r h e = let d = f.down.le r h in omega (arith, f.same r h, least f (suc (at g r)) (at g r) (omega arith) (omega arith))

-- the greater of two names points to the lesser
module _ {g flat : List ℕ} (f : Forest g flat) (c d : ℕ) {hi lo : ℕ} (l : lo ≤ hi) (h : hi < length g) (p : at g hi ≡ hi) (q : at g lo ≡ lo)
    (eh : hi ≡ max (at flat c) (at flat d)) (el : lo ≡ min (at flat c) (at flat d)) where
  to_lo : renamed hi lo lo ≡ lo
  to_lo = dite (ℕ_discrete lo hi) (λ e. rw (eq-eqb lo hi e)) (λ o. rw (ne_eqb lo hi o))

  hi_lo : renamed hi lo hi ≡ lo
  hi_lo = rw (eq-eqb hi hi refl)

  -- what the groups are called after
  called : (x : ℕ) → x < length g → at (joined c d flat) x ≡ renamed hi lo (at flat x)
  unfolding joined
  called x i = rw (eh, el) (at_map (renamed (max (at flat c) (at flat d)) (min (at flat c) (at flat d))) flat x (rw (← f.size) i))

  same : (x : ℕ) {r : ℕ} → x < length g → Put g hi lo x r → renamed hi lo (at flat r) ≡ renamed hi lo (at flat x)
  same x i (here e k) = rw (k, e, f.own lo (omega arith) q, f.own hi h p) (to_lo ∙ sym hi_lo)
  same x i (there o k) = rw (k, f.same x i)

  own : (x : ℕ) {r : ℕ} → x < length g → Put g hi lo x r → r ≡ x → renamed hi lo (at flat x) ≡ x
  own x i (here e k) s = rw (e, f.own hi h p) (hi_lo ∙ sym k ∙ s ∙ e)
  own x i (there o k) s = rw (f.own x i (sym k ∙ s), ne_eqb x hi o)

  unites : Forest (set g hi lo) (joined c d flat)
  unfolding joined
  unites = record {
    size = length-set g hi lo ∙ f.size ∙ sym (length-map flat (renamed (max (at flat c) (at flat d)) (min (at flat c) (at flat d))));
    down = down_put f.down h l;
    same = λ x i.
        let j : x < length g = omega (arith, length-set g hi lo) in
        let k : at (set g hi lo) x < length g = omega (arith, (down_put f.down h l).le x i) in
        called (at (set g hi lo) x) k ∙ same x j (put g hi lo x h) ∙ sym (called x j);
    own = λ x i s. let j : x < length g = omega (arith, length-set g hi lo) in called x j ∙ own x j (put g hi lo x h) s;
  }

module _ {g₀ g₁ g : List ℕ} {c d r s : ℕ} (u : Unitable g₀ c d) (p : Found g₀ g₁ c r) (q : Found g₁ g d s)
    (e₁ : length g₁ ≡ length g₀) (e₂ : length g ≡ length g₁) where
  left_in : r < length g
  left_in = omega (arith, p.small, u.one)

  right_in : s < length g
  right_in = omega (arith, q.small, u.two)

  -- both names are their own entries still
  names : (flat : List ℕ) → Forest g₀ flat → Forest g flat × (r ≡ at flat c) × (s ≡ at flat d) × (at g r ≡ r)
  names flat f =
      let (k, ec) = p.keeps flat f in
      let (m, ed) = q.keeps flat k in
      let h₁ : r < length g₁ = omega (arith, p.small, u.one) in
      (m, ec, ed, name_self m r left_in (k.own r h₁ p.self))

  -- the greater name is that of c's group or that of d's, and so is the lesser
  pub united : {lo hi : ℕ} → lo ≡ min r s → hi ≡ max r s → United g₀ (set g hi lo) c d
  united {lo} {hi} el eh = record {
    down = down_put q.down hi_in (omega (arith, el, eh));
    joins = λ flat f.
        let (m, ec, ed, z) = names flat f in
        unites m c d (omega (arith, el, eh)) hi_in (hi_own z) (lo_own z) (omega (arith, eh, ec, ed)) (omega (arith, el, ec, ed));
  }
    where
      hi_in : hi < length g
      hi_in = omega (arith, eh, left_in, right_in)

      hi_own : at g r ≡ r → at g hi ≡ hi
      hi_own z = dite (dec_lt r s)
          (λ b. let e : hi ≡ s = omega (arith, eh) in rw e q.self)
          (λ b. let e : hi ≡ r = omega (arith, eh) in rw e z)

      lo_own : at g r ≡ r → at g lo ≡ lo
      lo_own z = dite (dec_lt r s)
          (λ b. let e : lo ≡ r = omega (arith, el) in rw e z)
          (λ b. let e : lo ≡ s = omega (arith, el) in rw e q.self)

-- the sweep from the front has put the names below i
pub record Flattening (g₀ g : List ℕ) (i : ℕ) : Type 0 where
  pub size : length g ≡ length g₀
  pub rest : (x : ℕ) → i ≤ x → at g x ≡ at g₀ x
  pub done : (flat : List ℕ) → Forest g₀ flat → (x : ℕ) → x < i → at g x ≡ at flat x
