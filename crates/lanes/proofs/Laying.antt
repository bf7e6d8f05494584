-- Lanes laid from the hub down: a machine gets its top when its up has one. What is written lower moves no lane that is laid.
use mathlib.Core.Path.{◌≡◌, refl, sym, ap, ◌∙◌}
use mathlib.Core.List.{List}
use mathlib.Core.Logic.{◌≢◌, ⊎_elim}
use Prim.Native.Nat.{ℕ, suc, ◌-◌, ◌%◌, ◌<◌, ◌≤◌}
use native.Mathlib.Omega.{arith}
use lib.ListN.{length, set, length-set}
use lib.Seq.{get_or-set_same, get_or-set_other}
use Rattle.plain.specs.Table.{at, tabulate}
use Rattle.plain.proofs.Tabulate.{length-tabulate, at-tabulate}
use Rattle.graph.specs.Walk.{stay, step}
use Rattle.rings.proofs.Under.{uplinked}
use Rattle.tables.specs.Tree.{depth_of}
use Rattle.tables.specs.Demand1.{SoundTree}
use Rattle.tables.proofs.Sound.{rooted}
use Rattle.lanes.specs.Depths.{Listed, Past}
use Rattle.lanes.specs.Lane.{InLane, highest, along, Laned}
use Rattle.lanes.proofs.Grown.{Grounded}
use Rattle.lanes.specs.Laying.{Noted, Levels, Walkable, TopFor, itself, as_kid, LanesTo, LayableAt}
use Rattle.lanes.proofs.ByItself.{alone_few}
use Rattle.lanes.proofs.Walking.{none_past, here_in, here_depth, past_more, Afoot, set_out, some, passes, leads, goes_on, noted_here}

-- a top that is written at v is no matter to a machine that is no ranker
in_lane_put : {up top kid : List ℕ} (s : SoundTree up) {u v : ℕ} (t : ℕ) → u ≢ v → depth_of up u ≤ depth_of up v → InLane up top kid u → InLane up (set top v t) kid u
in_lane_put {up} {top} s {u} {v} t o d (highest e) = highest (get_or-set_other top v u t 0 o ∙ e)
in_lane_put {up} {top} s {u} {v} t o d (along r e k) =
    let n : at up u ≢ v = λ q. omega (arith, (rooted s).falls r, ap (depth_of up) q) in
    along r (get_or-set_other top v (at up u) t 0 n ∙ e ∙ sym (get_or-set_other top v u t 0 o)) k

-- and v is in a lane by it
in_lane_here : {up top kid : List ℕ} (s : SoundTree up) {v t : ℕ} → v < length up → length top ≡ length up → TopFor up kid top v t → InLane up (set top v t) kid v
in_lane_here {up} {top} s {v} {t} h n (itself e) = highest (get_or-set_same top v t 0 (rw n h) ∙ e)
in_lane_here {up} {top} s {v} {t} h n (as_kid o k e) =
    let r = uplinked h (λ z. o (ap (at up) z ∙ s.hub_self ∙ sym z)) in
    along r (get_or-set_other top v (at up v) t 0 o ∙ sym e ∙ sym (get_or-set_same top v t 0 (rw n h))) k

-- the walk of the list of depth k stands at x: whoever it came by is in a lane
pub record LevelAt (up next kid top : List ℕ) (k : ℕ) (on : List ℕ) (x : ℕ) : Type 0 where
  pub higher : LanesTo up next kid top k
  pub walk : Afoot up next k on x
  pub level : (v : ℕ) → v < length up → Listed next v → Past (depth_of up) k x v → InLane up top kid v

module _ {up head next kid top₀ : List ℕ} {k : ℕ} (l : Grounded up head next) (r : LayableAt up next kid top₀ k) where
  pub level_start : {on : List ℕ} {x : ℕ} → on ≡ next → x ≡ at head k → LevelAt up next kid top₀ k on x
  level_start q e = rw e (record { higher = r.lanes; walk = set_out l q refl; level = λ v h p q. absurd (none_past l.lists h p q) })

  module _ {top on : List ℕ} {x v : ℕ} (i : LevelAt up next kid top k on x) (b : x ≡ suc v) where
    pub level_noted : Noted up kid top v
    level_noted = noted_here l i.walk b r.kids i.higher.tops

    pub level_next : {t y : ℕ} {on' : List ℕ} → TopFor up kid top v t → on' ≡ on → y ≡ at on v → LevelAt up next kid (set top v t) k on' y
    level_next {t} {y} f a e =
        let g : 0 < x = some l i.walk b in
        let q : x - 1 ≡ v = passes l i.walk b in
        let n : y ≡ at next (x - 1) = leads l i.walk b e in
        let h : v < length up = rw q at (here_in l.lists i.walk.list g) in
        let d : depth_of up v ≡ k = rw q at (here_depth l.lists i.walk.list g) in
        record {
          higher = record {
            tops = length-set top v t ∙ i.higher.tops;
            lane = λ u h p q. in_lane_put l.tree t (λ c. omega (arith, ap (depth_of up) c)) (omega arith) (i.higher.lane u h p q);
          };
          walk = goes_on l i.walk b a e;
          level = λ u j p c. ⊎_elim
              (λ (c : u ≡ x - 1). rw (c ∙ q) (in_lane_here l.tree h i.higher.tops f))
              (λ (c : Past (depth_of up) k x u). in_lane_put l.tree t (λ n. omega (arith, c.1)) (omega (arith, c.0)) (i.level u j p c))
              (past_more l.lists i.walk.list g u p (rw n at c));
        }

-- so the line of whoever is listed is in lanes
pub laned : {up head next kid top : List ℕ} {count : ℕ} → Grounded up head next → Levels up next count → LanesTo up next kid top count
    → (v : ℕ) → v < length up → Listed next v → Laned up top kid v
laned g n l v h p z stay = l.lane v h p (n.level v h p)
laned g n l v h p z (step {b = b} r u) = laned g n l b ((rooted g.tree).low r) (g.upward r p) z u

-- for few links every machine is a lane of its own
pub alone_lanes : {up head next top₀ kid top : List ℕ} {count : ℕ} → Grounded up head next → Walkable up top₀ kid → top ≡ tabulate (length top₀) (λ v. v % 65536)
    → LanesTo up next kid top count
alone_lanes {top₀ = top₀} l r e =
    let own = e ∙ alone_few (length top₀) (rw r.ones l.few) in
    record {
      tops = ap length own ∙ length-tabulate (length top₀) (λ v. v) ∙ r.ones;
      lane = λ v h p q. highest (ap (λ t. at t v) own ∙ at-tabulate (length top₀) (λ v. v) v (rw r.ones h));
    }
