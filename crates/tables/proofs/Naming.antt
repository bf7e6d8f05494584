-- One link more, the groups: two children are joined by it only where they are the two on the ring, and then both get the lesser name.
-- Every other name stays, so names agree across each join, are of the group, and are its least.
use mathlib.Core.Path.{◌≡◌, refl, sym, ap, ◌∙◌}
use mathlib.Core.Bool.{◌||◌}
use mathlib.Core.List.{List, ◌∷◌}
use mathlib.Core.Logic.{◌≢◌, ◌⊎◌, inl, inr, ⊎_elim, dite, Ne-symm}
use Prim.Native.Nat.{ℕ, ◌<◌, ◌≤◌, max, min}
use native.Mathlib.Decide.{ℕ_discrete, dec_le}
use native.Mathlib.Omega.{arith}
use lib.ListN.{length, length-map}
use lib.Dec.{eqb}
use borrow.Author.Tests.{eq-eqb, ne_eqb}
use Rattle.plain.proofs.Says.{by_cases, says_eq, says_or, refuted}
use Rattle.plain.specs.Table.{at}
use Rattle.graph.proofs.Walks.{one_step, join}
use Rattle.graph.specs.Cable.{Cables, Linked}
use Rattle.graph.proofs.Members.{here}
use Rattle.graph.proofs.Cables.{Same, linked-cons, linked_more}
use Rattle.rings.proofs.Groups.{mirror}
use Rattle.rings.proofs.Under.{rest, antisym, one_child, no_return}
use Rattle.rings.specs.Group.{Joins, SameGroup}
use Rattle.rings.specs.Network.{Network}
use Rattle.rings.proofs.Lowest.{turn, leaves_on}
use Rattle.rings.specs.Tree.{Lowest, Under, Uplink}
use Rattle.tables.specs.Link.{meet, below, renamed, joined, grouped, linked}
use Rattle.tables.specs.Tables.{Tables}
use Rattle.tables.specs.AsTree.{tree_of}
use Rattle.tables.specs.Demand1.{SoundTree}
use Rattle.tables.proofs.Sound.{rooted}
use Rattle.tables.proofs.Told.{Told, Named, group_up}
use Rattle.tables.proofs.Lines.{meets, below_is}
use Rattle.rings.proofs.More.{joins_by, group_map}
use Rattle.plain.proofs.Tabulate.{at_map}
use Rattle.tables.proofs.Marking.{marked_more}

-- Two children of one machine, x over a and y over b: that machine is w, a is not, and x is the child of w on the line of a.
twin : {up : List ℕ} (s : SoundTree up) {a b w v x y : ℕ} → a < length up → Lowest (tree_of up) a b w
    → Uplink (tree_of up) x v → Uplink (tree_of up) y v → x ≢ y → Under (tree_of up) x a → Under (tree_of up) y b → (a ≢ w) × (x ≡ below up w a)
twin s {a} {w = w} {v} h m r t o p q =
    let (u, ne) = leaves_on m p (λ k. o (one_child (rooted s) r t k q)) in
    let e : v ≡ w = antisym (rooted s) (rest r ne u) (m.lowest v (join p (one_step r)) (join q (one_step t))) in
    let oa : a ≢ w = λ f. no_return (rooted s) r (rw (f ∙ sym e) at p) in
    let (i, z) = below_is s h m.left oa in
    (oa, one_child (rooted s) (rw e at r) i p z)

-- The name of a group after hi is renamed to lo.
data Name (hi lo y : ℕ) : ℕ → Type 0 where
  old : y ≢ hi → Name hi lo y y
  new : y ≡ hi → Name hi lo y lo

name : (hi lo y : ℕ) → Name hi lo y (renamed hi lo y)
name hi lo y = dite (ℕ_discrete y hi) (λ e. rw (eq-eqb y hi e) (new e)) (λ o. rw (ne_eqb y hi o) (old o))

module _ {up : List ℕ} (s : SoundTree up) {a b : ℕ} (h : a < length up) (l : b < length up) {k : Cables} {g : List ℕ}
    (N : Network (tree_of up) (Linked ((a, b) ∷ k))) (q : Named up (Linked k) g) where
  twins : {v x y : ℕ} → Uplink (tree_of up) x v → Uplink (tree_of up) y v → x ≢ y → Under (tree_of up) x a → Under (tree_of up) y b
      → ((a ≢ meet up a b) × (x ≡ below up (meet up a b) a)) × ((b ≢ meet up a b) × (y ≡ below up (meet up a b) b))
  twins r t o u v = (twin s h (meets s h l) r t o u v, twin s l (turn (meets s h l)) t r (Ne-symm o) v u)

  -- what the link itself joins are the two children of w on the ring
  fork : {w x y : ℕ} (j : Joins (tree_of up) (Linked ((a, b) ∷ k)) w x y) → Same a b j.one j.two
      → (a ≢ meet up a b) × (b ≢ meet up a b) × Same (below up (meet up a b) a) (below up (meet up a b) b) x y
  fork j (inl f) = let ((oa, e), (ob, i)) = twins j.left j.right j.apart (rw f.0 at j.below_left) (rw f.1 at j.below_right) in (oa, ob, inl (e, i))
  fork j (inr f) = let ((oa, e), (ob, i)) = twins j.right j.left (Ne-symm j.apart) (rw f.1 at j.below_right) (rw f.0 at j.below_left) in (oa, ob, inr (i, e))

  -- a name is of the new group too
  new_own : (x : ℕ) → x < length up → SameGroup (tree_of up) (Linked ((a, b) ∷ k)) (at up x) x (at g x)
  new_own x i = group_map linked_more (q.own x i)

  -- where one end is w nothing is joined
  straight : (a ≡ meet up a b) ⊎ (b ≡ meet up a b) → Named up (Linked ((a, b) ∷ k)) g
  straight e = record {
    size = q.size;
    agree = λ j. ⊎_elim (λ f. let (oa, ob, _) = fork j f in absurd (⊎_elim oa ob e)) (λ f. q.agree (joins_by j f)) (linked-cons j.link);
    own = new_own;
    least = q.least;
  }

  module _ (oa : a ≢ meet up a b) (ob : b ≢ meet up a b) where
    abbrev c : ℕ
    c = below up (meet up a b) a

    abbrev d : ℕ
    d = below up (meet up a b) b

    abbrev hi : ℕ
    hi = max (at g c) (at g d)

    abbrev lo : ℕ
    lo = min (at g c) (at g d)

    c_is : Uplink (tree_of up) c (meet up a b) × Under (tree_of up) c a
    c_is = below_is s h (meets s h l).left oa

    d_is : Uplink (tree_of up) d (meet up a b) × Under (tree_of up) d b
    d_is = below_is s l (meets s h l).right ob

    c_d : Joins (tree_of up) (Linked ((a, b) ∷ k)) (meet up a b) c d
    c_d =
        let apart : c ≢ d = λ e. no_return (rooted s) c_is.0 ((meets s h l).lowest c c_is.1 (rw e d_is.1)) in
        record { left = c_is.0; right = d_is.0; apart = apart; one = a; two = b; link = inl (here refl); below_left = c_is.1; below_right = d_is.1 }

    names_meet : SameGroup (tree_of up) (Linked ((a, b) ∷ k)) (meet up a b) (at g c) (at g d)
    names_meet = join (mirror N (rw c_is.0.to at (new_own c c_is.0.low))) (join (one_step c_d) (rw d_is.0.to at (new_own d d_is.0.low)))

    hi_lo : SameGroup (tree_of up) (Linked ((a, b) ∷ k)) (meet up a b) hi lo × (at up hi ≡ meet up a b)
    hi_lo =
        let uc : at up (at g c) ≡ meet up a b = group_up (new_own c c_is.0.low) refl ∙ c_is.0.to in
        let ud : at up (at g d) ≡ meet up a b = group_up (new_own d d_is.0.low) refl ∙ d_is.0.to in
        dite (dec_le (at g c) (at g d))
        (λ i. let e : hi ≡ at g d = omega arith in let f : lo ≡ at g c = omega arith in rw (e, f) (mirror N names_meet, ud))
        (λ i. let e : hi ≡ at g c = omega arith in let f : lo ≡ at g d = omega arith in rw (e, f) (names_meet, uc))

    own_of : {x r : ℕ} → x < length up → Name hi lo (at g x) r → SameGroup (tree_of up) (Linked ((a, b) ∷ k)) (at up x) x r
    own_of {x} i (old o) = new_own x i
    own_of {x} i (new e) =
        let z : at up x ≡ meet up a b = sym (group_up (new_own x i) refl) ∙ ap (at up) e ∙ hi_lo.1 in
        join (rw e at (new_own x i)) (rw z hi_lo.0)

    least_of : {x r : ℕ} → x < length up → Name hi lo (at g x) r → r ≤ x
    least_of {x} i (old o) = q.least x i
    least_of {x} i (new e) = omega (arith, q.least x i)

    each : (x : ℕ) → x < length up → at (joined c d g) x ≡ renamed hi lo (at g x)
    unfolding joined
    each x i = at_map (renamed hi lo) g x (rw q.size i)

    lo_of : {y r : ℕ} → (y ≢ hi → y ≡ lo) → Name hi lo y r → r ≡ lo
    lo_of f (old o) = f o
    lo_of f (new e) = refl

    one_name : at (joined c d g) c ≡ at (joined c d g) d
    one_name = each c c_is.0.low ∙ lo_of (λ o. omega arith) (name hi lo (at g c))
        ∙ sym (each d d_is.0.low ∙ lo_of (λ o. omega arith) (name hi lo (at g d)))

    forked_name : {x y : ℕ} → Same c d x y → at (joined c d g) x ≡ at (joined c d g) y
    forked_name (inl e) = rw (e.0, e.1) one_name
    forked_name (inr e) = rw (e.0, e.1) (sym one_name)

    forked : Named up (Linked ((a, b) ∷ k)) (joined c d g)
    unfolding joined
    forked = record {
      size = length-map g (renamed hi lo) ∙ q.size;
      agree = λ {w} {x} {y} j. ⊎_elim (λ f. forked_name (fork j f).2)
          (λ f. each x j.left.low ∙ ap (renamed hi lo) (q.agree (joins_by j f)) ∙ sym (each y j.right.low))
          (linked-cons j.link);
      own = λ x i. rw (each x i) (own_of i (name hi lo (at g x)));
      least = λ x i. rw (each x i) (least_of i (name hi lo (at g x)));
    }

  named_more : Named up (Linked ((a, b) ∷ k)) (grouped up a b g)
  unfolding grouped
  named_more =
      let t = says_or (says_eq a (meet up a b)) (says_eq b (meet up a b)) in
      by_cases (eqb a (meet up a b) || eqb b (meet up a b))
      (λ e. rw e (straight (t.gives e)))
      (λ e. rw e (forked (λ f. refuted t e (inl f)) (λ f. refuted t e (inr f))))

-- One link keeps what the tables tell, of one link more.
pub told_more : {up : List ℕ} (s : SoundTree up) {a b : ℕ} → a < length up → b < length up → {k : Cables} {t : Tables}
    → Network (tree_of up) (Linked ((a, b) ∷ k)) → Told up (Linked k) t → Told up (Linked ((a, b) ∷ k)) (linked up a b t)
unfolding linked
told_more s h l N q = record { depths = q.depths; marked = marked_more s h l q.marked; named = named_more s h l N q.named }
