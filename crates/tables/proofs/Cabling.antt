-- The cables of a site as a list, and as the theory of rings has them. The uplink of v stands on the list once, and first of the cables over
-- its pair: no other uplink joins v and up[v], or it would go down. So taking out that cable leaves all but the uplink of v.
use mathlib.Core.Path.{◌≡◌, refl, sym, ap, ◌∙◌}
use mathlib.Core.List.{List, ◌∷◌}
use mathlib.Core.Logic.{◌≢◌, ◌⊎◌, inl, inr, ⊎_elim, ⊎_map, ◌↔◌, dite}
use Prim.Native.Nat.{ℕ, zero, suc, ◌<◌, ◌≤◌}
use native.Mathlib.Decide.{ℕ_discrete}
use native.Mathlib.Omega.{arith}
use lib.ListN.{length}
use lib.Dec.{eqb}
use borrow.Author.Tests.{eqb-true, eqb-false}
use Rattle.plain.specs.Member.{◌∈◌}
use Rattle.plain.specs.Table.{at}
use Rattle.plain.proofs.Says.{by_cases}
use Rattle.graph.specs.Walk.{Walk, stay, step}
use Rattle.graph.specs.Choke.{Choke}
use Rattle.graph.specs.Cable.{Cables, Within, Linked, joins, between, less}
use Rattle.graph.proofs.Members.{cast, here, there, cases, empty, parts}
use Rattle.graph.proofs.Walks.{map}
use Rattle.graph.proofs.Chokes.{fewer_chokes}
use Rattle.graph.proofs.Cables.{linked-append, linked_between, says_joins, Same, less-append, less_in, less_lone, less_keeps, flip}
use Rattle.rings.specs.Tree.{Uplink}
use Rattle.rings.specs.Network.{rising, falling, cross, Cabled, CabledBut}
use Rattle.rings.proofs.Under.{uplinked, no_return}
use Rattle.tables.specs.Tree.{hub}
use Rattle.tables.specs.AsTree.{tree_of}
use Rattle.tables.specs.Cables.{uplinks, cables, ChokeMachine, ChokeUplink}
use Rattle.tables.specs.Demand1.{SoundTree}
use Rattle.tables.specs.Links.{AllGood}
use Rattle.tables.proofs.Sound.{rooted}
use Rattle.tables.proofs.Links.{within}

-- what stands on the list of uplinks is one, and each stands there
uplinks_are : (up : List ℕ) (k : ℕ) {x y : ℕ} → (x, y) ∈ uplinks up k → (x < k) × (x ≢ hub up) × (at up x ≡ y)
unfolding uplinks
uplinks_are up zero m = absurd (empty m)
uplinks_are up (suc v) {x} {y} m =
    let older : (x, y) ∈ uplinks up v → (x < suc v) × (x ≢ hub up) × (at up x ≡ y) = λ i. let (l, o, t) = uplinks_are up v i in (omega arith, o, t) in
    by_cases (eqb v (hub up)) (λ e. older (rw e at m)) (λ e.
    let m' : (x, y) ∈ (v, at up v) ∷ uplinks up v = rw e at m in
    ⊎_elim
    (λ i. let i₀ : x ≡ v = ap (λ p. p.0) i in let i₁ : y ≡ at up v = ap (λ p. p.1) i in
    (omega arith, λ z. eqb-false v (hub up) e (sym i₀ ∙ z), ap (at up) i₀ ∙ sym i₁))
    older (cases m'))

are_uplinks : (up : List ℕ) (k x : ℕ) → x < k → x ≢ hub up → (x, at up x) ∈ uplinks up k
unfolding uplinks
are_uplinks up zero x h o = absurd (omega arith)
are_uplinks up (suc v) x h o = by_cases (eqb v (hub up))
    (λ e. rw e (are_uplinks up v x (let z : x ≢ v = λ i. o (i ∙ eqb-true v (hub up) e) in omega arith) o))
    (λ e. rw e (dite (ℕ_discrete x v)
    (λ i. here (λ j. (i j, at up (i j))))
    (λ i. there (are_uplinks up v x (omega arith) o))))

abbrev pub all_uplinks : List ℕ → Cables
all_uplinks up = uplinks up (length up)

pub uplink_on : (up : List ℕ) (x y : ℕ) → ((x, y) ∈ all_uplinks up) ↔ Uplink (tree_of up) x y
uplink_on up x y = (
  λ m. let (l, o, t) = uplinks_are up (length up) m in record { low = l; other = o; to = t },
  λ r. rw r.to at (are_uplinks up (length up) x r.low r.other),
)

pub uplink_linked : (up : List ℕ) (a b : ℕ) → Linked (all_uplinks up) a b ↔ (Uplink (tree_of up) a b ⊎ Uplink (tree_of up) b a)
uplink_linked up a b = (⊎_map (uplink_on up a b).0 (uplink_on up b a).0, ⊎_map (uplink_on up a b).1 (uplink_on up b a).1)

pub linked_cabled : (up : List ℕ) (l : Cables) (a b : ℕ) → Linked (cables up l) a b ↔ Cabled (tree_of up) (Linked l) a b
linked_cabled up l a b =
    let s = linked-append (all_uplinks up) l a b in
    let u = uplink_linked up a b in (
      λ k. ⊎_elim (λ i. ⊎_elim rising falling (u.0 i)) cross (s.0 k),
      λ c. s.1 (elim c [ rising r ↦ inl (u.1 (inl r)) | falling r ↦ inl (u.1 (inr r)) | cross i ↦ inr i ]),
    )

pub machine_cabled : (up : List ℕ) (l : Cables) (w : ℕ) → ChokeMachine up l w ↔ Choke (length up) (Cabled (tree_of up) (Linked l)) w
machine_cabled up l w = (fewer_chokes (λ a b. (linked_cabled up l a b).1), fewer_chokes (λ a b. (linked_cabled up l a b).0))

module _ {up : List ℕ} (s : SoundTree up) {v : ℕ} (h : v < length up) (o : v ≢ hub up) where
  -- an uplink over the pair of v's is v's
  one_over : {x y : ℕ} → Uplink (tree_of up) x y → Same v (at up v) x y → x ≡ v
  one_over r (inl e) = e.0
  one_over {x} {y} r (inr e) =
      let c : Uplink (tree_of up) (at up v) v = record { low = rw e.0 at r.low; other = rw e.0 at r.other; to = ap (at up) (sym e.0) ∙ r.to ∙ e.1 } in
      absurd (no_return (rooted s) (uplinked h o) (step c stay))

  none_below : ¬ Linked (uplinks up v) v (at up v)
  none_below = ⊎_elim (λ m. omega (arith, (uplinks_are up v m).0)) (λ m.
      let (l, o', t) = uplinks_are up v m in
      omega (arith, one_over (record { low = omega arith; other = o'; to = t }) (inr (refl, refl))))

  -- so one uplink is over it
  single_over : (k : ℕ) → k ≤ length up → between (uplinks up k) v (at up v) ≤ 1
  unfolding uplinks between
  single_over zero b = omega arith
  single_over (suc j) b = let ih = single_over j (omega arith) in by_cases (eqb j (hub up)) (λ e. rw e ih) (λ e. rw e
      (by_cases (joins v (at up v) (j, at up j))
      (λ f.
      let q : j ≡ v = one_over (uplinked (omega arith) (eqb-false j (hub up) e)) ((says_joins v (at up v) j (at up j)).gives f) in
      let few : ¬ (1 ≤ between (uplinks up j) v (at up v)) = λ i. none_below (rw q at ((linked_between (uplinks up j) v (at up v)).1 i)) in
      rw f (omega arith))
      (λ f. rw f (omega arith))))

  lone_over : between (all_uplinks up) v (at up v) ≡ 1
  lone_over = omega (arith, single_over (length up) (omega arith), (linked_between (all_uplinks up) v (at up v)).0 ((uplink_linked up v (at up v)).1 (inl (uplinked h o))))

  -- taking it out leaves the uplinks of other machines
  left_over : {x y : ℕ} → (x, y) ∈ less (all_uplinks up) v (at up v) → (x ≢ v) × Uplink (tree_of up) x y
  left_over {x} {y} m =
      let r = (uplink_on up x y).0 (less_in (all_uplinks up) v (at up v) m) in
      (λ e. less_lone (all_uplinks up) v (at up v) lone_over (inl (cast (λ i. (sym e i, (ap (at up) (sym e) ∙ r.to) i)) m)), r)

  kept_over : (x y : ℕ) → (x ≢ v) × Uplink (tree_of up) x y → Linked (less (all_uplinks up) v (at up v)) x y
  kept_over x y r = less_keeps (all_uplinks up) v (at up v) x y (λ e. r.0 (one_over r.1 e)) ((uplink_linked up x y).1 (inl r.1))

  less_cabled : (l : Cables) (x y : ℕ) → Linked (less (cables up l) v (at up v)) x y ↔ CabledBut (tree_of up) (Linked l) v x y
  less_cabled l x y =
      let A = less (all_uplinks up) v (at up v) in
      let s = linked-append A l x y in
      rw (less-append (all_uplinks up) l v (at up v) (omega (arith, lone_over))) (
        λ k. ⊎_elim (⊎_elim (λ m. rising (left_over m)) (λ m. falling (left_over m))) cross (s.0 k),
        λ c. s.1 (elim c [ rising r ↦ inl (kept_over x y r) | falling r ↦ inl (flip A y x (kept_over y x r)) | cross i ↦ inr i ]),
      )

pub uplink_cabled : {up : List ℕ} → SoundTree up → (l : Cables) (v : ℕ) → v < length up
    → ChokeUplink up l v ↔ ((v ≢ hub up) × ¬ Walk (CabledBut (tree_of up) (Linked l) v) v (at up v))
uplink_cabled s l v h = (
  λ c. (c.other, λ w. c.parted (map (λ a b. (less_cabled s h c.other l a b).1) w)),
  λ k. record { machine = h; other = k.0; parted = λ w. k.1 (map (λ a b. (less_cabled s h k.0 l a b).0) w) },
)

pub cables_within : {up : List ℕ} {l : Cables} → SoundTree up → AllGood (length up) l → Within (length up) (cables up l)
cables_within {up} s g a b m = ⊎_elim
    (λ i. let r = (uplink_on up a b).0 i in (r.low, (rooted s).low r))
    (within g a b) (parts (all_uplinks up) m)
