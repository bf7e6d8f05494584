-- The report's bytes are the chokes of a network, where the tables tell of its links: each test of the report says what the theory of rings
-- reads chokes off. Where line 3 would apply, line 1 or 2 does already.
use mathlib.Core.Path.{◌≡◌, refl, sym, ◌∙◌}
use mathlib.Core.Bool.{◌&&◌, not, false}
use mathlib.Core.List.{List}
use mathlib.Core.Logic.Iff
use mathlib.Core.Logic.{◌≢◌, ◌⊎◌, ⊎_elim, dite, ◌↔◌}
use Prim.Native.Nat.{ℕ, ◌<◌, ◌≤◌}
use native.Mathlib.Decide.{ℕ_discrete}
use native.Mathlib.Omega.{arith}
use lib.ListN.{length}
use lib.Dec.{eqb}
use borrow.Author.Tests.{eq-eqb, ne_eqb}
use Rattle.plain.specs.Search.{some, count}
use Rattle.plain.specs.Table.{at}
use Rattle.plain.proofs.Says.{Says, says_map, says_eq, says_le, says_not, says_and, says_or, says_some, refuted, refutes, by_cases}
use Rattle.plain.proofs.Count.{count_other}
use Rattle.graph.specs.Walk.{Relation, Walk}
use Rattle.graph.specs.Choke.{Choke}
use Rattle.rings.specs.Tree.{Uplink}
use Rattle.rings.specs.Network.{Network, Cabled, CabledBut}
use Rattle.rings.specs.Ring.{Rings, Carries}
use Rattle.rings.specs.Group.{SameGroup, Stuck, Split}
use Rattle.rings.specs.Statements.{Decided}
use Rattle.rings.proofs.Under.{uplinked}
use Rattle.rings.proofs.Groups.{member}
use Rattle.rings.proofs.Uplinks.{uplink_chokes}
use Rattle.rings.proofs.Decided.{machine_chokes, hub_chokes}
use Rattle.rings.proofs.Lone.{reason_three_never}
use Rattle.tables.specs.Tree.{hub}
use Rattle.tables.specs.AsTree.{tree_of}
use Rattle.tables.specs.Tables.{Tables}
use Rattle.tables.specs.Report.{child, carried_member, stuck, split, ends, lone, machine_byte, link_byte}
use Rattle.tables.proofs.Told.{Told, group_name, group_law}

module _ {up : List ℕ} {L : Relation} {t : Tables} (N : Network (tree_of up) L) (link? : Decided L) (k : Told up L t) where
  says_child : (w c : ℕ) → c < length up → Says (child (hub up) up w c) (Uplink (tree_of up) c w)
  unfolding child
  says_child w c h = says_map (λ q. search) (λ r. search) (says_and (says_not (says_eq c (hub up))) (says_eq (at up c) w))

  -- children of one name are of one group
  kin : {w c d : ℕ} → Uplink (tree_of up) c w → d < length up → at t.group c ≡ at t.group d → SameGroup (tree_of up) L w c d
  kin {c = c} {d} r h e = rw r.to at ((group_law N k.named c d r.low h).0 e)

  -- m is a carried member of group g
  abbrev CarriedIn : ℕ → ℕ → Type 0
  CarriedIn g m = (at t.group m ≡ g) × (at t.mark m ≡ 2)

  says_carried : (g : ℕ) → Says (some (length up) (carried_member t.group t.mark g)) ((m : ℕ) × (m < length up) × CarriedIn g m)
  says_carried g = says_some (length up) (λ m _. says_and (says_eq (at t.group m) g) (says_eq (at t.mark m) 2))

  -- what the links carry in the group of c, the tables have as carried in it
  carried_in : {w c : ℕ} → Uplink (tree_of up) c w → (m : ℕ) → SameGroup (tree_of up) L w c m → Carries (tree_of up) L m → (d : ℕ) × (d < length up) × CarriedIn (at t.group c) d
  carried_in r m g p = let l = (member r g).low in (m, l, (sym (group_name k.named g), (k.marked.carried m l).1 p))

  says_stuck : (w : ℕ) → Says (stuck (hub up) up t.group t.mark w) ((c : ℕ) × Stuck (tree_of up) L w c)
  unfolding stuck
  says_stuck w = says_map
      (λ (c, h, (r, q)). (c, (r, λ m g p. q (carried_in r m g p))))
      (λ (c, (r, q)). (c, r.low, (r, λ (m, l, (e, z)). q m (kin r l (sym e)) ((k.marked.carried m l).0 z))))
      (says_some (length up) (λ c h. says_and (says_child w c h) (says_not (says_carried (at t.group c)))))

  says_split : (w : ℕ) → Says (split (hub up) up t.group w) ((c : ℕ) × (d : ℕ) × Split (tree_of up) L w c d)
  unfolding split
  says_split w = says_map
      (λ (c, h, (d, l, (r, (s, q)))). (c, d, (r, s, λ g. q (group_name k.named g))))
      (λ (c, d, (r, s, q)). (c, r.low, (d, s.low, (r, (s, λ e. q (kin r s.low e))))))
      (says_some (length up) (λ c h. says_some (length up) (λ d l.
      says_and (says_child w c h) (says_and (says_child w d l) (says_not (says_eq (at t.group c) (at t.group d)))))))

  abbrev Chokes : ℕ → Type 0
  Chokes = Choke (length up) (Cabled (tree_of up) L)

  -- 1, for a machine that is not the hub
  stuck_choke : (w : ℕ) → w < length up → w ≢ hub up → ((c : ℕ) × Stuck (tree_of up) L w c) ↔ Chokes w
  stuck_choke w h o = Iff.symm (machine_chokes (tree_of up) L N link? (at up w) w (uplinked h o))

  -- 2, for the hub
  split_choke : ((c : ℕ) × (d : ℕ) × Split (tree_of up) L (hub up) c d) ↔ Chokes (hub up)
  split_choke = Iff.symm (hub_chokes (tree_of up) L N link?)

  -- a choke other than the hub has a child
  pub choke_child : (w : ℕ) → w < length up → w ≢ hub up → Chokes w → (c : ℕ) × Uplink (tree_of up) c w
  choke_child w h o q = let (c, (r, _)) = (stuck_choke w h o).1 q in (c, r)

  -- where a machine with a child is no choke, a child of it is carried
  pub carried_child : {w c : ℕ} → w < length up → w ≢ hub up → ¬ Chokes w → Uplink (tree_of up) c w → (m : ℕ) × Uplink (tree_of up) m w × (at t.mark m ≡ 2)
  carried_child {w} {c} h o q r =
      let a = says_carried (at t.group c) in
      by_cases (some (length up) (carried_member t.group t.mark (at t.group c)))
      (λ e. let (m, l, (g, z)) = a.gives e in (m, member r (kin r l (sym g)), z))
      (λ e. absurd (q ((stuck_choke w h o).0 (c, (r, λ m g p. refuted a e (carried_in r m g p))))))

  says_ends : (w v : ℕ) → Says (ends (hub up) up w v) ((v ≢ hub up) × ((v ≡ w) ⊎ (at up v ≡ w)))
  unfolding ends
  says_ends w v = says_and (says_not (says_eq v (hub up))) (says_or (says_eq v w) (says_eq (at up v) w))

  unringed : (v : ℕ) → v < length up → at t.mark v ≡ 0 → ¬ Rings (tree_of up) L v
  unringed v h z g = omega (arith, (k.marked.ringed v h).1 g)

  -- 3 applies to chokes alone, so never after 1 and 2
  lone_never : (w : ℕ) → w < length up → ¬ Chokes w → lone (hub up) up t.mark w ≡ false
  unfolding lone
  lone_never w h q = refutes
      (says_and (says_some (length up) (λ v _. says_and (says_ends w v) (says_eq (at t.mark v) 0))) (says_le 2 (count (length up) (ends (hub up) up w)))) none
    where
      none : ¬ (((v : ℕ) × (v < length up) × (((v ≢ hub up) × ((v ≡ w) ⊎ (at up v ≡ w))) × (at t.mark v ≡ 0))) × (2 ≤ count (length up) (ends (hub up) up w)))
      none ((v, l, ((o, f), z)), c) =
          let (d, m, ne, e) = count_other (length up) (ends (hub up) up w) v c in
          let (o', f') = (says_ends w d).gives e in
          let never = reason_three_never (tree_of up) L N in
          let lone-v = unringed v l z in
          ⊎_elim
          (λ y. ⊎_elim (λ x. ne (x ∙ sym y))
          (λ x. q ((stuck_choke w h (λ b. o (y ∙ b))).0 (d, never.lone_own w d (record { low = m; other = o'; to = x }) (rw y at lone-v)))) f')
          (λ y. let r : Uplink (tree_of up) v w = record { low = l; other = o; to = y } in
          dite (ℕ_discrete w (hub up))
          (λ x. ⊎_elim (λ x'. o' (x' ∙ x))
          (λ x'. q (rw x (split_choke.0 (v, d, never.lone_at_hub v d (rw x at r) (record { low = m; other = o'; to = x' ∙ x }) (λ i. ne (sym i)) lone-v)))) f')
          (λ x. q ((stuck_choke w h x).0 (v, never.lone_child w v r lone-v))))
          f

  -- what a machine byte tells
  pub data Byte (w : ℕ) : ℕ → Type 0 where
    one : w ≢ hub up → Chokes w → Byte w 1
    two : w ≡ hub up → Chokes w → Byte w 2
    nought : ¬ Chokes w → Byte w 0

  pub byte_is : (w : ℕ) → w < length up → Byte w (machine_byte (hub up) up t.group t.mark w)
  unfolding machine_byte
  byte_is w h = dite (ℕ_discrete w (hub up))
      (λ e. let a = says_map split_choke.0 split_choke.1 (says_split (hub up)) in
      rw (eq-eqb w (hub up) e) (by_cases (split (hub up) up t.group w)
      (λ f. rw f (two e (rw e (a.gives (rw e at f)))))
      (λ f. let q : ¬ Chokes w = rw e (refuted a (rw e at f)) in rw (f, lone_never w h q) (nought q))))
      (λ o. let a = says_map (stuck_choke w h o).0 (stuck_choke w h o).1 (says_stuck w) in
      rw (ne_eqb w (hub up) o) (by_cases (stuck (hub up) up t.group t.mark w)
      (λ f. rw f (one o (a.gives f)))
      (λ f. rw (f, lone_never w h (refuted a f)) (nought (refuted a f)))))

  pub machine_bytes_lem : (w : ℕ) → w < length up → (machine_byte (hub up) up t.group t.mark w ≢ 0) ↔ Chokes w
  machine_bytes_lem w h = go (byte_is w h)
    where
      go : {m : ℕ} → Byte w m → (m ≢ 0) ↔ Chokes w
      go (one o c) = (λ _. c, λ _. omega arith)
      go (two e c) = (λ _. c, λ _. omega arith)
      go (nought q) = (λ z. absurd (z refl), λ c. absurd (q c))

  pub hub_byte : (w : ℕ) → w < length up → (machine_byte (hub up) up t.group t.mark w ≡ 2) ↔ ((w ≡ hub up) × Chokes w)
  hub_byte w h = go (byte_is w h)
    where
      go : {m : ℕ} → Byte w m → (m ≡ 2) ↔ ((w ≡ hub up) × Chokes w)
      go (one o c) = (λ e. absurd (omega arith), λ k. absurd (o k.0))
      go (two e c) = (λ _. (e, c), λ _. refl)
      go (nought q) = (λ e. absurd (omega arith), λ k. absurd (q k.1))

  pub never_three : (w : ℕ) → w < length up → machine_byte (hub up) up t.group t.mark w ≤ 2
  never_three w h = go (byte_is w h)
    where
      go : {m : ℕ} → Byte w m → m ≤ 2
      go (one o c) = omega arith
      go (two e c) = omega arith
      go (nought q) = omega arith

  pub link_bytes_lem : (v : ℕ) → v < length up → (link_byte (hub up) t.mark v ≡ 1) ↔ ((v ≢ hub up) × ¬ Walk (CabledBut (tree_of up) L v) v (at up v))
  link_bytes_lem v h =
      let a = says_and (says_not (says_eq v (hub up))) (says_eq (at t.mark v) 0) in
      by_cases (not (eqb v (hub up)) && eqb (at t.mark v) 0)
      (λ e. rw e (λ _. let (o, z) = a.gives e in (o, (uplink_chokes _ _ N _ _ (uplinked h o)).1 (unringed v h z)), λ _. refl))
      (λ e. rw e (
        λ z. absurd (omega arith),
        λ (o, q). absurd ((uplink_chokes _ _ N _ _ (uplinked h o)).0 q ((k.marked.ringed v h).0 (let p : at t.mark v ≢ 0 = λ z. refuted a e (o, z) in omega arith))),
      ))

pub link_small : (h : ℕ) (mark : List ℕ) (v : ℕ) → link_byte h mark v ≤ 1
link_small h mark v = by_cases (not (eqb v h) && eqb (at mark v) 0) (λ t. rw t (omega arith)) (λ t. rw t (omega arith))
