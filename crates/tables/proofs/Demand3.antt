-- Demand 3. A choke uplink is a pair with one cable whose removal parts it: two cables would leave one, and a lone cross link would leave the
-- tree. Such pairs and choke machines are carried by the renumbering; two paths are the theorem about networks with no choke.
use mathlib.Core.Path.{◌≡◌, refl, sym, ap, ◌∙◌, subst}
use mathlib.Core.List.{List}
use mathlib.Core.Logic.Iff
use mathlib.Core.Logic.{◌≢◌, inl, inr, ⊎_elim, dite, ◌↔◌}
use Prim.Native.Nat.{ℕ, ◌<◌}
use native.Mathlib.Decide.{ℕ_discrete}
use native.Mathlib.Omega.{arith}
use lib.ListN.{length}
use Rattle.plain.specs.Table.{at}
use Rattle.graph.specs.Walk.{Walk}
use Rattle.graph.specs.Choke.{Choke}
use Rattle.graph.specs.Cable.{Cables, Linked, Within, between, less, ChokePair}
use Rattle.graph.proofs.Walks.{one_step, map}
use Rattle.graph.proofs.Cables.{flip, linked-append, linked_between, between-append, less_between, less_keeps, pair_turn, Same, same_linked}
use Rattle.graph.proofs.Renumbered.{cables_links, machines_carried, pairs_carried}
use Rattle.graph.proofs.TwoPaths.{two_paths}
use Rattle.rings.specs.Tree.{Uplink}
use Rattle.rings.specs.Network.{Cabled, rising, falling, cross}
use Rattle.rings.proofs.Under.{uplinked}
use Rattle.rings.proofs.Crossing.{tree_joins}
use Rattle.tables.specs.AsTree.{tree_of}
use Rattle.tables.specs.Links.{Stands}
use Rattle.tables.specs.History.{links}
use Rattle.tables.specs.Answer.{Answer}
use Rattle.tables.specs.Outcome.{Outcome}
use Rattle.tables.specs.Report.{Bytes}
use Rattle.tables.specs.Cables.{cables, ChokeMachine, ChokeUplink, ChokeEnds}
use Rattle.tables.specs.Demand1.{SoundTree}
use Rattle.tables.specs.Demand2.{Reported}
use Rattle.tables.specs.Demand3.{Renumbered, NamedEnds, Carried, TwoWays, Demand3}
use Rattle.tables.proofs.Standing.{standing}
use Rattle.tables.proofs.Sound.{sound_tree, rooted}
use Rattle.tables.proofs.Histories.{only_links}
use Rattle.tables.proofs.Cabling.{all_uplinks, uplink_linked, cables_within}

module _ {up : List ℕ} (s : SoundTree up) (l : Cables) where
  abbrev E : Cables
  E = cables up l

  uplink_there : {x y : ℕ} → Uplink (tree_of up) x y → Linked E x y
  uplink_there {x} {y} r = (linked-append (all_uplinks up) l x y).1 (inl ((uplink_linked up x y).1 (inl r)))

  choke_pair : {v : ℕ} → ChokeUplink up l v → ChokePair E v (at up v)
  choke_pair {v} c =
      let some = (linked_between E v (at up v)).0 (uplink_there (uplinked c.machine c.other)) in
      let rest = less_between E v (at up v) some in record {
        single = dite (ℕ_discrete (between E v (at up v)) 1) (λ e. e)
            (λ o. absurd (c.parted (one_step ((linked_between (less E v (at up v)) v (at up v)).1 (omega arith)))));
        parted = c.parted;
      }

  -- a lone cross link leaves the tree, which joins its ends
  cross_joined : {a b : ℕ} → a < length up → b < length up → between E a b ≡ 1 → Linked l a b → Walk (Linked (less E a b)) a b
  cross_joined {a} {b} i j e k = map step (tree_joins (rooted s) {L = λ x y. ⊥} (λ x y z. z) i j)
    where
      apart : {x y : ℕ} → Uplink (tree_of up) x y → ¬ Same a b x y
      apart {x} {y} r q =
          let A = all_uplinks up in
          omega (arith, between-append A l a b, (linked_between A a b).0 (same_linked A q ((uplink_linked up x y).1 (inl r))), (linked_between l a b).0 k)

      step : (x y : ℕ) → Cabled (tree_of up) (λ x y. ⊥) x y → Linked (less E a b) x y
      step x y (rising r) = less_keeps E a b x y (apart r) (uplink_there r)
      step x y (falling r) = flip (less E a b) y x (less_keeps E a b y x (apart r) (uplink_there r))
      step x y (cross z) = elim z [ ]

  choke_uplink : {v w : ℕ} → Uplink (tree_of up) v w → ChokePair E v w → ChokeUplink up l v
  choke_uplink {v} r c = record { machine = r.low; other = r.other; parted = rw (← r.to) at c.parted }

  ends_pair : (a b : ℕ) → a < length up → b < length up → ChokeEnds up l a b ↔ ChokePair E a b
  ends_pair a b i j = (
    λ c. ⊎_elim
        (λ e. rw (e.0, e.1) (choke_pair c.choke))
        (λ e. rw (e.0, e.1) (pair_turn E c.lower (at up c.lower) (choke_pair c.choke)))
        c.ends,
    λ c. ⊎_elim
        (λ u. ⊎_elim
        (λ r. record { lower = a; choke = choke_uplink r c; ends = inl (refl, sym r.to) })
        (λ r. record { lower = b; choke = choke_uplink r (pair_turn E a b c); ends = inr (refl, sym r.to) })
        ((uplink_linked up a b).0 u))
        (λ k. absurd (c.parted (cross_joined i j c.single k)))
        ((linked-append (all_uplinks up) l a b).0 ((linked_between E a b).1 (omega (arith, c.single)))),
  )

  -- the ends of an uplink differ
  ends_apart : {a b : ℕ} → ChokeEnds up l a b → a ≢ b
  ends_apart c e =
      let v = c.lower in
      let z : at up v ≡ v = ⊎_elim (λ k. sym k.1 ∙ sym e ∙ k.0) (λ k. sym k.1 ∙ e ∙ k.0) c.ends in
      c.choke.other (s.only v c.choke.machine z)

-- what a report names are the choke uplinks' ends
named_ends : {up : List ℕ} {l : Cables} {r : Outcome Answer Bytes} → Reported up l r → (a b : ℕ) → NamedEnds up r a b ↔ ChokeEnds up l a b
named_ends q a b = (
  λ n. record { lower = n.lower; choke = (q.uplinks n.lower n.machine).0 n.byte; ends = n.ends },
  λ c. record { lower = c.lower; machine = c.choke.machine; byte = (q.uplinks c.lower c.choke.machine).1 c.choke; ends = c.ends },
)

module _ {up : List ℕ} {l : Cables} {up' : List ℕ} {l' : Cables} {f : ℕ → ℕ} (s : Stands up l) (s' : Stands up' l') (r : Renumbered up l up' l' f) where
  one : SoundTree up
  one = sound_tree up (standing s).tree

  two : SoundTree up'
  two = sound_tree up' (standing s').tree

  within : Within (length up) (cables up l)
  within = cables_within one (standing s).good

  within' : Within (length up) (cables up' l')
  within' = rw r.same_size (cables_within two (standing s').good)

  into : (v : ℕ) → v < length up → f v < length up'
  into v i = rw r.same_size at (r.one_to_one.into v i)

  machines : (w : ℕ) → w < length up → ChokeMachine up l w ↔ ChokeMachine up' l' (f w)
  machines w i = subst (λ n. ChokeMachine up l w ↔ Choke n (Linked (cables up' l')) (f w)) r.same_size
      (machines_carried _ f _ _ within within' r.one_to_one (cables_links _ f _ _ r.keeps) w i)

  ends : (a b : ℕ) → a < length up → b < length up → ChokeEnds up l a b ↔ ChokeEnds up' l' (f a) (f b)
  ends a b i j =
      let p = ends_pair one l a b i j in
      let q = ends_pair two l' (f a) (f b) (into a i) (into b j) in
      let go = pairs_carried _ f _ _ within within' r.one_to_one r.keeps a b i j in (
        λ c. q.1 ((go (ends_apart one l c)).0 (p.0 c)),
        λ c. p.1 ((go (λ e. ends_apart two l' c (ap f e))).1 (q.0 c)),
      )

  carried : Carried up l up' l' f
  carried = record {
    machines = machines;
    uplinks = ends;
    reports = λ x y p q. record {
      machines = λ w i. Iff.trans (p.machines w i) (Iff.trans (machines w i) (Iff.symm (q.machines (f w) (into w i))));
      uplinks = λ a b i j. Iff.trans (named_ends p a b) (Iff.trans (ends a b i j) (Iff.symm (named_ends q (f a) (f b))));
    };
  }

two_ways : (up : List ℕ) (l : Cables) → Stands up l → TwoWays up l
two_ways up l s m r p z = (two_paths (length up) (cables up l) m (cables_within (sound_tree up (standing s).tree) (standing s).good)).0 (λ w i c. (p.machines w i).1 c (z w i))

pub demand3 : Demand3
demand3 = record {
  after_batches = λ up h up' h' f a b. carried (only_links.stand up h a) (only_links.stand up' h' b);
  two_paths = λ up h a. two_ways up (links h) (only_links.stand up h a);
  with_links = λ up l up' l' f. carried;
  two_paths_with_links = two_ways;
}
