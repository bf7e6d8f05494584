-- What each step of a batch asks for, from what the steps before it left.
use mathlib.Core.Path.{◌≡◌, refl, sym, ◌∙◌}
use mathlib.Core.List.{List}
use mathlib.Core.Logic.{⊎_elim, dite}
use Prim.Native.Nat.{ℕ, zero, suc, ◌<◌, ◌≤◌}
use native.Mathlib.Decide.{ℕ_discrete}
use native.Mathlib.Omega.{arith}
use lib.ListN.{length, take, replicate, length-replicate, get_or-replicate}
use lib.Seq.{length-take-le, get_or-take}
use Rattle.plain.specs.Table.{at}
use Rattle.graph.specs.Walk.{Relation}
use Rattle.tables.specs.declared.Verdict.TheVariants.{Sound}
use Rattle.tables.specs.Tree.{most_machines, depth_of, tree_verdict}
use Rattle.tables.specs.Tables.{Tables}
use Rattle.tables.specs.Batch.{pairs}
use Rattle.tables.proofs.Sound.{soon, rooted, trees_exact}
use Rattle.tables.proofs.Told.{Told, group_name}
use Rattle.lanes.specs.Seen.{none, Seen, SeenTo}
use Rattle.lanes.specs.Depths.{Listed, Lists, Listing, Listable}
use Rattle.lanes.specs.Laying.{LanesTo}
use Rattle.lanes.specs.Forest.{Forest}
use Rattle.lanes.specs.Low.{Sweepable}
use Rattle.lanes.specs.Hung.{Source, Batched}
use Rattle.lanes.specs.Whole.{Named, Applicable, Bare, Looked, Joined}
use Rattle.tables.proofs.Reading.{depth_size, depth_at}
use Rattle.lanes.proofs.Grown.{Grown, grounded}
use Rattle.lanes.proofs.Numbers.{in_pairs, number_in}
use Rattle.lanes.proofs.Listing.{lists_by}
use Rattle.lanes.proofs.Laying.{laned}

module _ {up depth batch low head next : List ℕ} (t : Grown up depth) (b : Bare up batch low head next) {low' : List ℕ} {count : ℕ}
    (s : SeenTo up batch low' count (length batch)) where
  depths : length depth ≡ length up
  depths = depth_size up t.depths

  pub lists_ready : Listable depth low' head next
  lists_ready = record {
    sorted = record {
      few = rw depths t.few;
      inside = λ v h. let k : v < length up = rw depths at h in rw (depths, depth_at up t.depths v k) (soon t.tree v k);
      lows = s.fresh.size ∙ sym depths;
    };
    heads = rw depths b.heads;
    nexts = rw depths b.nexts;
    empty = b.empty;
    free = λ v h. b.free v (rw depths at h);
  }

  module _ {head' next' : List ℕ} (l : Listing depth low' (length depth) head' next') where
    to_list : (v : ℕ) → v < length up → Seen low' v → Listed next' v
    to_list v h = l.seen v (rw depths h)

    from_list : (v : ℕ) → v < length up → Listed next' v → Seen low' v
    from_list v h = l.only v (rw depths h)

    -- the lists by the table are the lists by depth
    by_depth : Lists (length up) (depth_of up) (length up) head' next'
    by_depth = lists_by (depth_at up t.depths) (rw depths at l.lists)

    pub looked : Looked up batch low' head' next' count
    looked = record {
      ground = record {
        lists = by_depth;
        upward = λ {v} {w} r p. to_list w ((rooted t.tree).low r) (s.fresh.upward r (from_list v r.low p));
      };
      levels = record { high = s.high; level = λ v h p. s.level v h (from_list v h p) };
      ends = λ j h. to_list (at batch j) (number_in (length up) batch b.look.accepted j h) (s.ends j h);
      lows = s.fresh.size;
      fresh = λ v h. dite (ℕ_discrete (at low' v) none)
          (λ e. omega (arith, soon t.tree v h, t.few))
          (λ o. omega (arith, s.fresh.own v h o));
    }

-- names are a forest, whose trees have one level
named_forest : {group : List ℕ} → Named group → Forest group group
named_forest n = record { size = refl; down = n.down; same = n.self; own = λ x h e. e }

-- the front of a local array that was filled with x
abbrev front : ℕ → List ℕ → List ℕ
front x up = take (length up) (replicate 4096 x)

front_size : (x : ℕ) (up : List ℕ) → length up ≤ most_machines → length (front x up) ≡ length up
front_size x up h = length-take-le _ _ (rw (length-replicate 4096 x) h)

front_at : (x : ℕ) (up : List ℕ) → length up ≤ most_machines → (v : ℕ) → v < length up → at (front x up) v ≡ x
front_at x up h v b = get_or-take (length up) (replicate 4096 x) v 0 b ∙ get_or-replicate 4096 v x 0 (omega arith)

zeros : (n m k : ℕ) → at (take n (replicate m 0)) k ≡ 0
zeros zero m k = refl
zeros (suc n) zero k = refl
zeros (suc n) (suc m) zero = refl
zeros (suc n) (suc m) (suc k) = zeros n m k

module _ {up depth group mark batch : List ℕ} (r : Applicable up depth group mark batch) where
  -- at first the local tables are blank
  pub bare : Bare up batch (front none up) (front 0 up) (front none up)
  bare = record {
    look = record {
      size = front_size none up r.few;
      blank = front_at none up r.few;
      accepted = r.batch;
    };
    heads = front_size 0 up r.few;
    nexts = front_size none up r.few;
    empty = zeros (length up) 4096;
    free = front_at none up r.few;
  }

  pub tree_accepted : tree_verdict up ≡ Sound
  tree_accepted = (trees_exact.sound up).1 r.tree

  module _ {low head next : List ℕ} {count : ℕ} (k : Looked up batch low head next count) where
    pub join_ready : {kid top : List ℕ} → LanesTo up next kid top count → Batched up top kid group low batch
    join_ready l = record {
      laned = λ j h. laned (grounded r.few r.tree k.ground) k.levels l (at batch j) (number_in (length up) batch r.batch j h) (k.ends j h);
      groups = r.group_size;
      forest = named_forest r.named;
      lows = k.lows;
      fresh = k.fresh;
      accepted = r.batch;
    }

    -- whoever is on no list is no end, so it knows of no ring
    pub sweep_ready : {group' low' : List ℕ} → Joined up group batch group' low' → Sweepable up next low' mark
    sweep_ready {low' = low'} j = record {
      walk = record { ones = j.lows.size; twos = r.mark_size };
      unlisted = λ v h e. ⊎_elim (λ d. d) (λ (q : Source up batch (length (pairs batch)) v (at low' v)). absurd (no_end e q)) (j.lows.source v h);
    }
      where
        no_end : {v z : ℕ} → at next v ≡ none → ¬ Source up batch (length (pairs batch)) v z
        no_end {v} e q = ⊎_elim
            (λ c. k.ends _ (omega (arith, q.before, in_pairs (length up) batch r.batch)) (rw c at e))
            (λ c. k.ends _ (omega (arith, q.before, in_pairs (length up) batch r.batch)) (rw c at e))
            q.end

-- tables of links that stand name their groups: so whoever checked the rules may call
pub told_named : {up : List ℕ} {L : Relation} {t : Tables} → Told up L t → Named t.group
told_named k =
    let n = k.named in
    record { down = record { le = λ x i. n.least x (rw n.size at i) }; self = λ x i. sym (group_name n (n.own x (rw n.size at i))) }
