-- The most that marks come to: 0 at the hub, 1 at its children, 2 elsewhere. The rules allow no more, and the links of the fullest history,
-- from each machine to the up of its up, ask just that.
use mathlib.Core.Path.{◌≡◌, refl, sym, ap, ◌∙◌}
use mathlib.Core.Bool.{Bool, cond}
use mathlib.Core.List.Memᴰ
use mathlib.Core.List.{List}
use mathlib.Core.Logic.{◌≢◌, inl, dite}
use Prim.Native.Nat.{ℕ, zero, suc, ◌+◌, ◌*◌, ◌<◌, ◌≤◌}
use native.Mathlib.Decide.{ℕ_discrete}
use native.Mathlib.Omega.{arith}
use lib.ListN.{length}
use lib.Dec.{eqb}
use borrow.Author.Tests.{eq-eqb, ne_eqb}
use Rattle.plain.specs.Member.{◌∈◌}
use Rattle.plain.specs.Search.{count}
use Rattle.plain.specs.Table.{at, tabulate, total}
use Rattle.plain.proofs.Count.{self_one}
use Rattle.plain.proofs.Tabulate.{length-tabulate, at-tabulate, tabulated}
use Rattle.plain.proofs.Total.{total-le}
use Rattle.graph.specs.Walk.{stay}
use Rattle.graph.specs.Cable.{Cables, Linked}
use Rattle.graph.proofs.Walks.{join}
use Rattle.rings.specs.Tree.{Uplink, Under}
use Rattle.rings.specs.Ring.{Rings, Carries}
use Rattle.rings.proofs.Under.{uplinked, no_return}
use Rattle.tables.specs.Tree.{hub}
use Rattle.tables.specs.AsTree.{tree_of}
use Rattle.tables.specs.Links.{Good, AllGood, tables_with}
use Rattle.tables.specs.Report.{child}
use Rattle.tables.specs.Demand1.{SoundTree}
use Rattle.tables.specs.Work.{most_work, hops}
use Rattle.tables.proofs.Sound.{rooted}
use Rattle.tables.proofs.Lines.{up_over}
use Rattle.tables.proofs.Links.{network, told}
use Rattle.tables.proofs.Kept.{Kept, told_kept}
use Rattle.tables.proofs.Cabling.{uplink_on}

most_mark : List ℕ → ℕ → ℕ
most_mark up v = cond (eqb v (hub up)) 0 (cond (eqb (at up v) (hub up)) 1 2)

-- where v stands, and the most that its mark comes to
data Stand (up : List ℕ) (v : ℕ) : ℕ → Type 0 where
  top : v ≡ hub up → Stand up v 0
  next : v ≢ hub up → at up v ≡ hub up → Stand up v 1
  deep : v ≢ hub up → at up v ≢ hub up → Stand up v 2

stand : (up : List ℕ) (v : ℕ) → Stand up v (most_mark up v)
unfolding most_mark
stand up v = dite (ℕ_discrete v (hub up)) (λ e. rw (eq-eqb v (hub up) e) (top e)) (λ o. dite (ℕ_discrete (at up v) (hub up))
    (λ e. rw (ne_eqb v (hub up) o, eq-eqb (at up v) (hub up) e) (next o e))
    (λ z. rw (ne_eqb v (hub up) o, ne_eqb (at up v) (hub up) z) (deep o z)))

-- two for each machine: its mark, one more for a child of the hub, two for the hub
shares : (up : List ℕ) (v : ℕ) → most_mark up v + cond (child (hub up) up (hub up) v) 1 0 + 2 * cond (eqb v (hub up)) 1 0 ≡ 2
unfolding child
shares up v = go (stand up v)
  where
    go : {m : ℕ} → Stand up v m → m + cond (child (hub up) up (hub up) v) 1 0 + 2 * cond (eqb v (hub up)) 1 0 ≡ 2
    go (top e) = rw (eq-eqb v (hub up) e) refl
    go (next o e) = rw (ne_eqb v (hub up) o, eq-eqb (at up v) (hub up) e) refl
    go (deep o z) = rw (ne_eqb v (hub up) o, ne_eqb (at up v) (hub up) z) refl

all_shares : (n : ℕ) (f : ℕ → ℕ) (p q : ℕ → Bool) → ((k : ℕ) → f k + cond (p k) 1 0 + 2 * cond (q k) 1 0 ≡ 2) → total (tabulate n f) + count n p + 2 * count n q ≡ 2 * n
unfolding total tabulate count
all_shares zero f p q e = refl
all_shares (suc n) f p q e = omega (arith, e zero, all_shares n (λ k. f (suc k)) (λ k. p (suc k)) (λ k. q (suc k)) (λ k. e (suc k)))

module _ {up : List ℕ} (s : SoundTree up) where
  most_total : total (tabulate (length up) (most_mark up)) ≡ most_work up
  unfolding most_work
  most_total = omega (arith, all_shares (length up) (most_mark up) (child (hub up) up (hub up)) (λ v. eqb v (hub up)) (shares up), self_one (length up) (hub up) s.hub_in)

  module _ {l : Cables} (g : AllGood (length up) l) where
    kept : (v : ℕ) → v < length up → Kept up (tables_with up l) v
    kept = told_kept s (network s g) (told s g)

    mark_bound : (v : ℕ) → v < length up → at (tables_with up l).mark v ≤ most_mark up v
    mark_bound v h = go (stand up v)
      where
        go : {m : ℕ} → Stand up v m → at (tables_with up l).mark v ≤ m
        go (top e) = omega (arith, ((kept v h).top e).0)
        go (next o e) = dite (ℕ_discrete (at (tables_with up l).mark v) 2) (λ z. absurd (((kept v h).carried z).0 e)) (λ z. omega (arith, (kept v h).small))
        go (deep o z) = (kept v h).small

    pub total_bound : total (tables_with up l).mark ≤ most_work up
    total_bound =
        let size = (told s g).marked.size in
        rw (← most_total) (total-le (tables_with up l).mark (tabulate (length up) (most_mark up)) (length-tabulate (length up) (most_mark up) ∙ sym size)
        (λ v h. let i : v < length up = rw size at h in rw (at-tabulate (length up) (most_mark up) v i) (mark_bound v i)))

  hop_in : (v : ℕ) → v < length up → v ≢ hub up → (v, at up (at up v)) ∈ hops up
  unfolding hops
  hop_in v h o = Memᴰ.map _ ((uplink_on up v (at up v)).1 (uplinked h o))

  -- the up of its up is not under v
  hop_out : (v : ℕ) → v < length up → v ≢ hub up → ¬ Under (tree_of up) v (at up (at up v))
  hop_out v h o u = no_return (rooted s) (uplinked h o) (join (up_over s (at up v) (s.inside v h)) u)

  hop_good : (x y : ℕ) → Uplink (tree_of up) x y → Good (length up) (x, at up y)
  hop_good x y r = record { one = r.low; two = s.inside y ((rooted s).low r); apart = λ e. hop_out x r.low r.other (rw (r.to, ← e) stay) }

  pub hops_good : AllGood (length up) (hops up)
  unfolding hops
  hops_good p m = let (q, i, e) = Memᴰ.of_map _ _ m in rw (← e) (hop_good q.0 q.1 ((uplink_on up q.0 q.1).0 i))

  hop_rings : (v : ℕ) → v < length up → v ≢ hub up → Rings (tree_of up) (Linked (hops up)) v
  hop_rings v h o = record { inner = v; outer = at up (at up v); link = inl (hop_in v h o); below = stay; beyond = hop_out v h o }

  hop_carries : (v : ℕ) → v < length up → v ≢ hub up → at up v ≢ hub up → Carries (tree_of up) (Linked (hops up)) v
  hop_carries v h o z = record { inner = v; outer = at up (at up v); link = inl (hop_in v h o); below = stay; beyond = no_return (rooted s) (uplinked (s.inside v h) z) }

  hop_mark : (v : ℕ) → v < length up → at (tables_with up (hops up)).mark v ≡ most_mark up v
  hop_mark v h = go (stand up v) (mark_bound hops_good v h)
    where
      go : {k : ℕ} → Stand up v k → at (tables_with up (hops up)).mark v ≤ k → at (tables_with up (hops up)).mark v ≡ k
      go (top e) b = omega arith
      go (next o e) b = omega (arith, ((told s hops_good).marked.ringed v h).1 (hop_rings v h o))
      go (deep o z) b = ((told s hops_good).marked.carried v h).1 (hop_carries v h o z)

  pub hops-total : total (tables_with up (hops up)).mark ≡ most_work up
  hops-total = ap total (tabulated _ (length up) (most_mark up) (told s hops_good).marked.size hop_mark) ∙ most_total
