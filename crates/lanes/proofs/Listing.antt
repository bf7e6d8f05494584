-- Lists by depth, made: each machine that is seen goes before the head of its list, and the others have no next.
use mathlib.Core.Path.{◌≡◌, sym, ap, subst, ◌∙◌}
use mathlib.Core.List.{List}
use mathlib.Core.Logic.{◌≢◌, dite}
use Prim.Native.Nat.{ℕ, suc, ◌+◌, ◌-◌, ◌<◌, ◌≤◌}
use native.Mathlib.Decide.{ℕ_discrete, dec_lt}
use native.Mathlib.Omega.{arith}
use lib.ListN.{length, set, length-set}
use lib.Seq.{get_or-set_other}
use Rattle.plain.specs.Table.{at}
use Rattle.plain.proofs.Putting.{Put, here, there, put}
use Rattle.lanes.specs.Seen.{none}
use Rattle.lanes.specs.Depths.{Listed, Lists, Listing, ListableAt}

-- an entry of a list is past no machine that is not there yet
few_on : {n i : ℕ} {d : ℕ → ℕ} {head next : List ℕ} → Lists n d i head next → (k : ℕ) → at head k ≤ i
few_on {head = head} l k = dite (dec_lt 0 (at head k))
    (λ b. let q : at head k ≡ suc (at head k - 1) = omega arith in omega (arith, (l.head_on k (at head k - 1) q).0))
    (λ b. omega arith)

module _ {depth low head next : List ℕ} {i : ℕ} (r : ListableAt depth low head next i) where
  l : Lists (length depth) (at depth) i head next
  l = r.listing.lists

  free : at next i ≡ none
  free = r.listing.rest i (omega arith) r.here

  pub head_in : {d : ℕ} → d ≡ at depth i → d < length head
  head_in e = rw (l.heads, e) (r.sorted.inside i r.here)

  -- whoever is listed is not i
  before : {v : ℕ} → v < i + 1 → Listed next v → v < i
  before {v} h p = dite (ℕ_discrete v i) (λ e. absurd (p (ap (at next) e ∙ free))) (λ o. omega arith)

  pub skipped : {s : ℕ} → s ≡ at low i → s ≡ none → Listing depth low (i + 1) head next
  skipped e z = record {
    lists = record {
      far = omega (arith, r.here);
      heads = l.heads;
      nexts = l.nexts;
      first = λ v h p. l.first v (before h p) p;
      more = λ u v g h p q. l.more u v g (before h q) p q;
      head_on = λ k v q. let (g, p, f) = l.head_on k v q in (omega arith, p, f);
      next_on = λ u v h p. l.next_on u v (before h p) p;
    };
    seen = λ v h p. dite (ℕ_discrete v i) (λ q. absurd (p (ap (at low) q ∙ sym e ∙ z))) (λ o. r.listing.seen v (omega arith) p);
    only = λ v h p. r.listing.only v (before h p) p;
    rest = λ v h. r.listing.rest v (omega arith);
  }

  module _ {s d : ℕ} (es : s ≡ at low i) (z : s ≢ none) (e : d ≡ at depth i) where
    abbrev next' : List ℕ
    next' = set next i (at head d)

    heads : (k : ℕ) → Put head d (i + 1) k (at (set head d (i + 1)) k)
    heads k = put head d (i + 1) k (head_in e)

    nexts : (u : ℕ) → Put next i (at head d) u (at (set next i (at head d)) u)
    nexts u = put next i (at head d) u (rw l.nexts r.here)

    -- the others are listed as they were
    kept : {v : ℕ} → v ≢ i → Listed next v → Listed (set next i (at head d)) v
    kept {v} o = subst (λ a. a ≢ none) (sym (get_or-set_other next i v (at head d) 0 o))

    was : {v : ℕ} → v ≢ i → Listed (set next i (at head d)) v → Listed next v
    was {v} o = subst (λ a. a ≢ none) (get_or-set_other next i v (at head d) 0 o)

    now_on : {v a : ℕ} → v ≡ i → Put next i (at head d) v a → a ≢ none
    now_on q (here p f) c = omega (arith, few_on l d, r.here, r.sorted.few)
    now_on q (there o f) c = o q

    first : (v : ℕ) {a : ℕ} → v < i + 1 → Listed next' v → Put head d (i + 1) (at depth v) a → v < a
    first v g p (here q f) = omega arith
    first v g p (there o f) =
        let n : v ≢ i = λ q. o (ap (at depth) q ∙ sym e) in
        omega (arith, l.first v (omega arith) (was n p))

    more : (u v : ℕ) {a : ℕ} → u < v → v < i + 1 → Listed next' u → Listed next' v → at depth u ≡ at depth v → Put next i (at head d) v a → u < a
    more u v g k p p' q (here c f) =
        let n : u ≢ i = λ x. omega arith in
        rw (f, e ∙ ap (at depth) (sym c) ∙ sym q) (l.first u (omega arith) (was n p))
    more u v g k p p' q (there o f) =
        let n : u ≢ i = λ x. omega arith in
        rw f (l.more u v g (omega arith) (was n p) (was o p') q)

    on : {v : ℕ} → v < i → Listed next v → Listed next' v
    on {v} h = kept (λ (x : v ≡ i). omega arith)

    head_on : (k v : ℕ) {a : ℕ} → Put head d (i + 1) k a → a ≡ suc v → (v < i + 1) × Listed next' v × (at depth v ≡ k)
    head_on k v (here q f) g = let x : v ≡ i = omega arith in (omega arith, now_on x (nexts v), ap (at depth) x ∙ sym e ∙ sym q)
    head_on k v (there o f) g = let (x, p, q) = l.head_on k v (sym f ∙ g) in (omega arith, on x p, q)

    next_on : (u v : ℕ) {a : ℕ} → u < i + 1 → Listed next' u → Put next i (at head d) u a → a ≡ suc v → (v < u) × Listed next' v × (at depth v ≡ at depth u)
    next_on u v k p (here q f) g = let (x, c, y) = l.head_on d v (sym f ∙ g) in (omega arith, on x c, y ∙ e ∙ ap (at depth) (sym q))
    next_on u v k p (there o f) g =
        let (x, c, y) = l.next_on u v (omega arith) (was o p) (sym f ∙ g) in
        let h : v < i = omega arith in
        (x, on h c, y)

    pub one_more : Listing depth low (i + 1) (set head d (i + 1)) (set next i (at head d))
    one_more = record {
      lists = record {
        far = omega (arith, r.here);
        heads = length-set head d (i + 1) ∙ l.heads;
        nexts = length-set next i (at head d) ∙ l.nexts;
        first = λ v g p. first v g p (heads (at depth v));
        more = λ u v g k p p' q. more u v g k p p' q (nexts v);
        head_on = λ k v q. head_on k v (heads k) q;
        next_on = λ u v k p q. next_on u v k p (nexts u) q;
      };
      seen = λ v h p. dite (ℕ_discrete v i) (λ q. now_on q (nexts v)) (λ o. kept o (r.listing.seen v (omega arith) p));
      only = λ v h p. dite (ℕ_discrete v i) (λ q c. z (es ∙ ap (at low) (sym q) ∙ c)) (λ o. r.listing.only v (omega arith) (was o p));
      rest = λ v g h. get_or-set_other next i v (at head d) 0 (λ (x : v ≡ i). omega arith) ∙ r.listing.rest v (omega arith) h;
    }

-- lists by one rule are lists by another that tells the same
pub lists_by : {n : ℕ} {d e : ℕ → ℕ} {head next : List ℕ} → ((v : ℕ) → v < n → d v ≡ e v) → Lists n d n head next → Lists n e n head next
lists_by {n} {d} {e} {head} q l = record {
  far = l.far;
  heads = l.heads;
  nexts = l.nexts;
  first = λ v h p. subst (λ k. v < at head k) (q v h) (l.first v h p);
  more = λ u v g h p p' f. l.more u v g h p p' (q u (omega arith) ∙ f ∙ sym (q v h));
  head_on = λ k v f. let (h, p, g) = l.head_on k v f in (h, p, sym (q v h) ∙ g);
  next_on = λ u v h p f. let (g, c, k) = l.next_on u v h p f in (g, c, sym (q v (omega arith)) ∙ k ∙ q u h);
}
