-- A sweep from the deepest list to the highest: each machine hands the least depth that it knows of to its up, and its mark is lifted to what
-- that depth asks. Whoever is passed knows the least of all under it.
use mathlib.Core.Path.{◌≡◌, refl, sym, ap, ◌∙◌}
use mathlib.Core.List.{List}
use mathlib.Core.Logic.{◌⊎◌, inl, inr, ⊎_elim, ⊎_map, dite}
use Prim.Native.Nat.{ℕ, ◌+◌, ◌-◌, ◌<◌, ◌≤◌, max, min}
use native.Mathlib.Decide.{ℕ_discrete, dec_lt, dec_le}
use native.Mathlib.Omega.{arith}
use lib.ListN.{length, set, length-set}
use Rattle.plain.specs.Table.{at}
use Rattle.plain.proofs.Total.{total-set}
use Rattle.graph.proofs.Walks.{join}
use Rattle.rings.specs.Tree.{Under}
use Rattle.rings.proofs.Under.{uplinked}
use Rattle.tables.specs.Tree.{hub, depth_of}
use Rattle.tables.specs.AsTree.{tree_of}
use Rattle.tables.proofs.Sound.{rooted}
use Rattle.tables.proofs.Lines.{up_over}
use Rattle.lanes.specs.Seen.{none}
use Rattle.lanes.specs.Depths.{Listed, OnList}
use Rattle.lanes.specs.Low.{asked, Handed, Known, Passed, Sweeping}
use Rattle.lanes.proofs.Grown.{Grounded}
use Rattle.lanes.proofs.Walking.{none_past, here_in, here_listed, here_depth, less, past_more, past_still}
use Rattle.plain.proofs.Putting.{Put, here, there, put}

module _ {up head next : List ℕ} (g : Grounded up head next) {low₀ mark₀ low mark : List ℕ} {k rise : ℕ} where
  -- at a list's end the next list is one higher
  module _ (i : Sweeping up next low₀ mark₀ low mark (k + 1) 0 rise) where
    back : {v : ℕ} → v < length up → Listed next v → Passed up k (at head k) v → Passed up (k + 1) 0 v
    back {v} h l (inl p) = dite (dec_lt (k + 1) (depth_of up v)) inl (λ o. inr (omega arith, omega arith))
    back h l (inr p) = absurd (none_past g.lists h l p)

    on : {v : ℕ} → Passed up (k + 1) 0 v → Passed up k (at head k) v
    on (inl p) = inl (omega arith)
    on (inr p) = inl (omega (arith, p.0))

    pub turned : Sweeping up next low₀ mark₀ low mark k (at head k) rise
    turned = record {
      lows = i.lows;
      marks = i.marks;
      falls = i.falls;
      known = i.known;
      closed = λ v h l p. i.closed v h l (back h l p);
      marked = λ v h l p. i.marked v h l (back h l p);
      rest = λ v h n. i.rest v h (⊎_map (λ n. n) (λ n p. n (on p)) n);
      blank = i.blank;
      sum = i.sum;
    }

  -- one machine of a list
  module _ {x : ℕ} (c : OnList (length up) (depth_of up) next k x) (some : 0 < x) (i : Sweeping up next low₀ mark₀ low mark k x rise) where
    abbrev v : ℕ
    v = x - 1

    here_v : x - 1 < length up
    here_v = here_in g.lists c some

    listed : Listed next (x - 1)
    listed = here_listed g.lists c some

    depth_is : depth_of up (x - 1) ≡ k
    depth_is = here_depth g.lists c some

    -- v is not passed yet, and what is passed is no higher
    here-not : ¬ Passed up k x (x - 1)
    here-not (inl q) = omega (arith, depth_is)
    here-not (inr q) = omega (arith, q.1)

    deep : {u : ℕ} → Passed up k x u → k ≤ depth_of up u
    deep (inl q) = omega arith
    deep (inr q) = omega (arith, q.0)

    more : (u : ℕ) → Listed next u → Passed up k (at next (x - 1)) u → (u ≡ x - 1) ⊎ Passed up k x u
    more u l (inl q) = inr (inl q)
    more u l (inr q) = ⊎_map (λ e. e) inr (past_more g.lists c some u l q)

    after : {u : ℕ} → Passed up k x u → Passed up k (at next (x - 1)) u
    after (inl q) = inl q
    after (inr q) = inr (past_still g.lists c some q)

    abbrev p : ℕ
    p = at up (x - 1)

    abbrev least : ℕ
    least = min (at low (at up (x - 1))) (at low (x - 1))

    puts : (u : ℕ) → Put low p least u (at (set low p least) u)
    puts u = put low p least u (rw i.lows (g.tree.inside v here_v))

    fall : (u : ℕ) {a : ℕ} → Put low p least u a → a ≤ at low u
    fall u (here e f) = omega (arith, ap (at low) e)
    fall u (there o f) = omega arith

    -- the up of v is listed too, so on no list no entry is written
    still : (u : ℕ) {a : ℕ} → at next u ≡ none → Put low p least u a → a ≡ at low u
    still u q (there o f) = f
    still u q (here e f) = dite (ℕ_discrete v (hub up))
        (λ z. absurd (listed (ap (at next) (z ∙ sym g.tree.hub_self ∙ ap (at up) (sym z) ∙ sym e) ∙ q)))
        (λ z. absurd (g.upward (uplinked here_v z) listed (ap (at next) (sym e) ∙ q)))

    -- what is no higher than v is not written, or stays as it is
    keep : (u : ℕ) {a : ℕ} → k ≤ depth_of up u → Put low p least u a → a ≡ at low u
    keep u d (here e f) = dite (ℕ_discrete v (hub up))
        (λ z.
        let q : p ≡ v = ap (at up) z ∙ g.tree.hub_self ∙ sym z in
        omega (arith, ap (at low) q, ap (at low) e))
        (λ o. absurd (omega (arith, (rooted g.tree).falls (uplinked here_v o), depth_is, ap (depth_of up) e)))
    keep u d (there o f) = f

    known : (u : ℕ) {a : ℕ} → u < length up → Put low p least u a → Known up low₀ u a
    known u h (there o f) = rw f (i.known u h)
    known u h (here e f) = dite (dec_le (at low p) (at low v))
        (λ b. let q : least ≡ at low p = omega arith in rw (f, q, ← e) (i.known u h))
        (λ b.
        let q : least ≡ at low v = omega arith in
        let n = i.known v here_v in
        let w : Under (tree_of up) u v = rw e (up_over g.tree v here_v) in
        rw (f, q) (record { from = n.from; low_in = n.low_in; under = join n.under w; is = n.is }))

    closed : (u : ℕ) → u < length up → Listed next u → (u ≡ v) ⊎ Passed up k x u → at (set low p least) (at up u) ≤ at (set low p least) u
    closed u h l (inl e) =
        let a = keep u (omega (arith, depth_is, ap (depth_of up) e)) (puts u) in
        let b : at up u ≡ p = ap (at up) e in
        rw (b, a) (written (puts p))
      where
        written : {a : ℕ} → Put low p least p a → a ≤ at low u
        written (here q f) = omega (arith, ap (at low) e)
        written (there o f) = absurd (o refl)
    closed u h l (inr q) = omega (arith, i.closed u h l q, fall (at up u) (puts (at up u)), keep u (deep q) (puts u))

    marked : (u : ℕ) {a : ℕ} → u < length up → Listed next u → (u ≡ v) ⊎ Passed up k x u → Put mark v (max (at mark v) (asked (at low v) k)) u a
        → a ≡ max (at mark₀ u) (asked (at (set low p least) u) (depth_of up u))
    marked u h l q (here e f) =
        let z : at (set low p least) u ≡ at low v = keep u (omega (arith, depth_is, ap (depth_of up) e)) (puts u) ∙ ap (at low) e in
        let d : depth_of up u ≡ k = ap (depth_of up) e ∙ depth_is in
        rw (z, d) (f ∙ ap (λ a. max a (asked (at low v) k)) (i.rest v here_v (inr here-not) ∙ ap (at mark₀) (sym e)))
    marked u h l (inl e) (there o f) = absurd (o e)
    marked u h l (inr q) (there o f) = rw (keep u (deep q) (puts u)) (f ∙ i.marked u h l q)

    -- a mark that is lifted is that of v, which is listed and passed
    rest : (u : ℕ) {a : ℕ} → u < length up → at next u ≡ none ⊎ ¬ Passed up k (at next v) u → Put mark v (max (at mark v) (asked (at low v) k)) u a → a ≡ at mark₀ u
    rest u h n (here e f) = absurd (⊎_elim
        (λ q. listed (ap (at next) (sym e) ∙ q))
        (λ q. q (rw e (inr (depth_is, omega (arith, less g c some refl)))))
        n)
    rest u h n (there o f) = f ∙ i.rest u h (⊎_map (λ n. n) (λ n q. n (after q)) n)

    pub one_more : {s y : ℕ} {low' mark' : List ℕ} → Handed up low low' mark mark' (x - 1) k s → y ≡ at next (x - 1)
        → Sweeping up next low₀ mark₀ low' mark' k y (rise + s)
    one_more {s} {y} n e =
        let m = max (at mark v) (asked (at low v) k) in
        let j : v < length mark = rw i.marks here_v in
        rw (n.lows, n.lifted.marks, e) (record {
          lows = length-set low p least ∙ i.lows;
          marks = length-set mark v m ∙ i.marks;
          falls = λ u. omega (arith, fall u (puts u), i.falls u);
          known = λ u h. known u h (puts u);
          closed = λ u h l q. closed u h l (more u l q);
          marked = λ u h l q. marked u h l (more u l q) (put mark v m u j);
          rest = λ u h n. rest u h n (put mark v m u j);
          blank = λ u h q. still u q (puts u) ∙ i.blank u h q;
          sum = omega (arith, total-set mark v m j, i.sum, n.lifted.is);
        })
