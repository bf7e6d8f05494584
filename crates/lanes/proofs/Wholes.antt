-- The tables after a whole batch: what its least depths ask of a machine is the greatest that one of its links asks, and the groups that were
-- joined in their table are those after the links, one by one.
use mathlib.Core.Path.{◌≡◌, refl, sym, ap, ◌∙◌}
use mathlib.Core.List.{List, [], ◌∷◌}
use mathlib.Core.Logic.{◌≢◌, ◌⊎◌, inl, inr, ⊎_elim, ⊎_map, dite}
use Prim.Native.Nat.{ℕ, zero, suc, ◌+◌, ◌*◌, ◌<◌, ◌≤◌, max}
use native.Mathlib.Decide.{ℕ_discrete, dec_lt}
use native.Mathlib.Nat.{le_antisymm, le_trans}
use native.Mathlib.Omega.{arith}
use lib.ListN.{length, get_or, take}
use lib.Seq.{ext_get_or}
use Rattle.plain.specs.Table.{at}
use Rattle.graph.specs.Cable.{Cables}
use Rattle.rings.specs.Tree.{Uplink, Under, Lowest}
use Rattle.rings.proofs.Under.{uplinked, rest, at-hub, over, chain}
use Rattle.tables.specs.Tree.{depth_of}
use Rattle.tables.specs.AsTree.{tree_of}
use Rattle.tables.specs.Tables.{Tables, tables_of}
use Rattle.tables.specs.Link.{meet, due, linked}
use Rattle.tables.specs.Batch.{pairs, after}
use Rattle.tables.specs.Laws.{greatest}
use Rattle.tables.specs.Demand1.{SoundTree}
use Rattle.tables.proofs.Sound.{rooted}
use Rattle.tables.proofs.Lines.{meets}
use Rattle.tables.proofs.Dues.{On, Due, none, high, deep, due_is}
use Rattle.tables.specs.Links.{Good}
use Rattle.tables.proofs.Rise.{after_marks, after-length}
use Rattle.lanes.proofs.Numbers.{after_more, after_all, in_pairs, link_at, link_good}
use Rattle.lanes.specs.Depths.{Listed}
use Rattle.lanes.specs.Low.{asked, LeastUnder, Swept}
use Rattle.lanes.specs.Hung.{one, two, groupings, Source, Lows}
use Rattle.lanes.specs.Whole.{Applicable, Applied, Joined}
use Rattle.lanes.proofs.InLanes.{foot, one_up}
use Rattle.lanes.proofs.Asking.{Asked, nothing, ringed, carried, ask_none, asked_is, asked_more}

module _ {up : List ℕ} (s : SoundTree up) {a b : ℕ} (h : a < length up) (k : b < length up) where
  abbrev w : ℕ
  w = meet up a b

  -- a machine over an end is over w, or it is on the ring
  no_deeper : {x : ℕ} → Under (tree_of up) x a ⊎ Under (tree_of up) x b → ¬ On up a b x → depth_of up x ≤ depth_of up w
  no_deeper {x} u q = ⊎_elim (λ v. go (λ i. (i, inl v)) (chain v m.left)) (λ v. go (λ i. (i, inr v)) (chain v m.right)) u
    where
      m : Lowest (tree_of up) a b w
      m = meets s h k

      go : (Under (tree_of up) w x → Under (tree_of up) w x × (Under (tree_of up) x a ⊎ Under (tree_of up) x b)) → Under (tree_of up) x w ⊎ Under (tree_of up) w x
          → depth_of up x ≤ depth_of up w
      go f (inl i) = over (rooted s) i
      go f (inr i) = dite (ℕ_discrete x w) (λ e. rw e (omega arith)) (λ o. absurd (q (f i, o)))

  module _ {x : ℕ} (l : x < length up) where
    on_uplink : On up a b x → Uplink (tree_of up) x (at up x)
    on_uplink o = uplinked l (λ z. o.1 (at-hub o.0.0 z))

    deeper : On up a b x → at up x ≢ w → suc (depth_of up w) < depth_of up x
    deeper o e = dite (dec_lt (depth_of up w) (depth_of up (at up x)))
        (λ z. omega (arith, one_up s (on_uplink o)))
        (λ z. absurd (e (sym (foot s (rest (on_uplink o) o.1 o.0.0) (omega arith)))))

    -- what a link asks of a machine over one of its ends goes by depths alone
    due_asked : {r : ℕ} → Under (tree_of up) x a ⊎ Under (tree_of up) x b → Due up a b x r → Asked (depth_of up w) (depth_of up x) r
    due_asked u (none q) = nothing (no_deeper u q) refl
    due_asked u (high o e) = ringed (one_up s (on_uplink o) ∙ ap (λ v. suc (depth_of up v)) e) refl
    due_asked u (deep o e) = carried (deeper o e) refl

    asked_due : Under (tree_of up) x a ⊎ Under (tree_of up) x b → asked (depth_of up w) (depth_of up x) ≤ due up a b x
    asked_due u = asked_more (omega arith) (due_asked u (due_is s h k x l)) (asked_is (depth_of up w) (depth_of up x))

    -- and it is no more than what is asked by a depth that both ends know
    due_most : {z r : ℕ} → (Under (tree_of up) x a ⊎ Under (tree_of up) x b → z ≤ depth_of up w) → Due up a b x r → r ≤ asked z (depth_of up x)
    due_most f (none q) = omega arith
    due_most {z} f (high o e) = asked_more (f o.0.1) (asked_is z (depth_of up x)) (due_asked o.0.1 (high o e))
    due_most {z} f (deep o e) = asked_more (f o.0.1) (asked_is z (depth_of up x)) (due_asked o.0.1 (deep o e))

-- the greatest of what links ask, link by link
module _ (up : List ℕ) (x : ℕ) where
  greatest_each : (l : Cables) (j : ℕ) → j < length l → due up (get_or l j (0, 0)).0 (get_or l j (0, 0)).1 x ≤ greatest up l x
  unfolding greatest
  greatest_each [] j h = absurd (omega arith)
  greatest_each (p ∷ l) zero h = omega arith
  greatest_each (p ∷ l) (suc j) h = omega (arith, greatest_each l j (omega arith))

  greatest_most : (l : Cables) (m : ℕ) → ((j : ℕ) → j < length l → due up (get_or l j (0, 0)).0 (get_or l j (0, 0)).1 x ≤ m) → greatest up l x ≤ m
  unfolding greatest
  greatest_most [] m f = omega arith
  greatest_most (p ∷ l) m f = omega (arith, f 0 (omega arith), greatest_most l m (λ j h. f (suc j) (omega arith)))

module _ {up depth group mark batch : List ℕ} (r : Applicable up depth group mark batch) where
  ends : (j : ℕ) → j < length (pairs batch) → get_or (pairs batch) j (0, 0) ≡ (one batch j, two batch j)
  ends = link_at (length up) batch r.batch

  good : (j : ℕ) → j < length (pairs batch) → Good (length up) (one batch j, two batch j)
  good = link_good (length up) batch r.batch

  -- the least depth asks what the greatest of the links asks
  module _ {low : List ℕ} (l : Lows up batch (length (pairs batch)) low) {next : List ℕ} (n : (j : ℕ) → j < length batch → Listed next (at batch j))
      {x z : ℕ} (h : x < length up) (u : LeastUnder up next low x z) where
    at_least : asked z (depth_of up x) ≤ greatest up (pairs batch) x
    at_least = let k = u.known in ⊎_elim
        (λ d. none_asked (omega (arith, k.is, over (rooted r.tree) k.under)))
        (λ (q : Source up batch (length (pairs batch)) k.from (at low k.from)).
        let g = good q.link q.before in
        let i = ⊎_map (λ (e : k.from ≡ one batch q.link). rw e at k.under) (λ (e : k.from ≡ two batch q.link). rw e at k.under) q.end in
        let d = asked_due r.tree g.one g.two h i in
        let e = greatest_each up x (pairs batch) q.link q.before in
        rw (k.is ∙ q.is) (le_trans d (rw (ends q.link q.before) at e)))
        (l.source k.from k.low_in)
      where
        none_asked : depth_of up x ≤ z → asked z (depth_of up x) ≤ greatest up (pairs batch) x
        none_asked d = omega (arith, ask_none d)

    at_most : greatest up (pairs batch) x ≤ asked z (depth_of up x)
    at_most = greatest_most up x (pairs batch) (asked z (depth_of up x)) (λ j i.
        let g = good j i in
        let d = due_most r.tree g.one g.two h
        (⊎_elim
        (λ v. omega (arith, u.least (one batch j) g.one (n (2 * j) (omega (arith, in_pairs (length up) batch r.batch))) v, l.left j i))
        (λ v. omega (arith, u.least (two batch j) g.two (n (2 * j + 1) (omega (arith, in_pairs (length up) batch r.batch))) v, l.right j i)))
        (due_is r.tree g.one g.two x h) in
        rw (ends j i) d)

  -- the groups after the links
  after_groups : (i : ℕ) → i ≤ length (pairs batch) → (t : Tables) → (after up (take i (pairs batch)) t).group ≡ groupings up batch i t.group
  unfolding groupings linked after
  after_groups zero h t = refl
  after_groups (suc i) h t =
      ap (λ u. u.group) (after_more up (pairs batch) i t (omega arith)) ∙ (rw (ends i (omega arith), after_groups i (omega arith) t))

-- depths are never changed
after_depth : (up : List ℕ) (l : Cables) (t : Tables) → (after up l t).depth ≡ t.depth
unfolding after linked
after_depth up [] t = refl
after_depth up (p ∷ l) t = after_depth up l (linked up p.0 p.1 t)

module _ {up depth group mark batch : List ℕ} (r : Applicable up depth group mark batch) where
  abbrev before : Tables
  before = tables_of depth group mark

  groups_done : {group' low : List ℕ} → Joined up group batch group' low → group' ≡ (after up (pairs batch) before).group
  groups_done n =
      let m = length (pairs batch) in
      n.names ∙ sym (after_groups r m (omega arith) before) ∙ ap (λ t. t.group) (after_all up (pairs batch) m before (omega arith))

  marks_done : {next low mark' : List ℕ} {rise : ℕ} → ((j : ℕ) → j < length batch → Listed next (at batch j)) → Lows up batch (length (pairs batch)) low
      → Swept up next low mark mark' rise → mark' ≡ (after up (pairs batch) before).mark
  marks_done {mark' = mark'} n l w =
      let e = after-length up (pairs batch) before r.mark_size in
      ext_get_or 0 mark' (after up (pairs batch) before).mark (w.size ∙ sym e) (λ x h.
      let i : x < length up = rw w.size at h in
      let (z, u, e) = w.marked x i in
      let q : asked z (depth_of up x) ≡ greatest up (pairs batch) x = le_antisymm (at_least r l n i u) (at_most r l n i u) in
      e ∙ ap (max (at mark x)) q ∙ sym (after_marks up (pairs batch) before x i))

  -- groups joined and marks swept are the tables after the batch
  pub applied : {next group' low mark' : List ℕ} {rise : ℕ} → ((j : ℕ) → j < length batch → Listed next (at batch j)) → Joined up group batch group' low
      → Swept up next low mark mark' rise → Applied up depth group mark batch group' mark' rise
  applied e n w = record {
    tables = λ i. record { depth = sym (after_depth up (pairs batch) before) i; group = groups_done n i; mark = marks_done e n.lows w i };
    rise = omega (arith, w.sum);
  }
