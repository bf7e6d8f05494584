-- The sweep list by list: what a walk of one list does to whatever was swept before, and all lists, from the deepest to the highest.
use mathlib.Core.Path.{◌≡◌, refl, sym, ap, ◌∙◌}
use mathlib.Core.List.{List}
use mathlib.Core.Logic.{inl, inr, dite}
use Prim.Native.Nat.{ℕ, suc, ◌+◌, ◌*◌, ◌-◌, ◌<◌, ◌≤◌, max}
use native.Mathlib.Decide.{ℕ_discrete, dec_lt}
use native.Mathlib.Nat.{max-zero}
use native.Mathlib.Omega.{arith}
use lib.ListN.{length}
use Rattle.plain.specs.Table.{at}
use Rattle.graph.specs.Walk.{stay, step}
use Rattle.rings.specs.Tree.{Under}
use Rattle.tables.specs.Tree.{depth_of}
use Rattle.tables.specs.AsTree.{tree_of}
use Rattle.lanes.specs.Seen.{none}
use Rattle.lanes.specs.Depths.{Listed}
use Rattle.lanes.specs.Laying.{ListAt, Levels, Noted}
use Rattle.lanes.proofs.Grown.{Grounded}
use Rattle.lanes.specs.Low.{Handed, Sweepable, Swept, Passed, Sweeping, SweptFrom, LevelSwept}
use Rattle.lanes.proofs.Walking.{head_few, less, Afoot, set_out, some, passes, leads, goes_on, noted_here}
use Rattle.lanes.proofs.Asking.{ask_none, asked_two}
use Rattle.lanes.proofs.Sweeping.{turned, one_more}

-- the walk of a level stands at x of its table; it came from the tables low₁ and mark₁, and the marks rose by s on it so far
pub record LevelSweeping (up next low₁ mark₁ low mark : List ℕ) (k : ℕ) (on : List ℕ) (x s : ℕ) : Type 0 where
  pub walk : Afoot up next k on x
  pub lows : length low ≡ length up
  pub marks : length mark ≡ length up
  pub swept : SweptFrom up next low₁ low mark₁ mark k x s

-- the lists from depth k on are swept
pub record Settling (up next low₀ mark₀ low mark : List ℕ) (count k rise : ℕ) : Type 0 where
  pub far : k ≤ count
  pub small : rise + 2 * 4096 * k ≤ 2 * (4096 * 4097)
  pub sweeping : Sweeping up next low₀ mark₀ low mark k 0 rise

-- a level: from its head on, whatever was swept before
module _ {up head next low₁ mark₁ : List ℕ} {k : ℕ} (g : Grounded up head next) (r : ListAt up low₁ mark₁ k) where
  pub level_start : {on : List ℕ} {x : ℕ} → on ≡ next → x ≡ at head k → LevelSweeping up next low₁ mark₁ low₁ mark₁ k on x 0
  level_start {x = x} q e = rw (q, e) (record {
    walk = set_out g refl refl;
    lows = r.ones;
    marks = r.twos;
    swept = record {
      sweeps = λ low₀ mark₀ rise i. let z : rise + 0 ≡ rise = omega arith in rw z (turned g i);
      small = omega (arith, head_few g.lists k refl);
    };
  })

  module _ {low mark on : List ℕ} {x s v : ℕ} (i : LevelSweeping up next low₁ mark₁ low mark k on x s) (b : x ≡ suc v) where
    pub level_noted : Noted up low mark v
    level_noted = noted_here g i.walk b i.lows i.marks

    module _ {low' mark' : List ℕ} {t : ℕ} (n : Handed up low low' mark mark' v k t) where
      two : t ≤ 2
      two = omega (arith, n.lifted.is, asked_two (at low v) k)

      pub level_small : s + t ≤ 2 * 4096
      level_small = omega (arith, i.swept.small, g.few, two)

      pub level_next : {on' : List ℕ} {y : ℕ} → on' ≡ on → y ≡ at on v → length low' ≡ length low → length mark' ≡ length mark
          → LevelSweeping up next low₁ mark₁ low' mark' k on' y (s + t)
      level_next {on'} {y} a q c d =
          let e : y ≡ at next (x - 1) = leads g i.walk b q in
          record {
            walk = goes_on g i.walk b a q;
            lows = c ∙ i.lows;
            marks = d ∙ i.marks;
            swept = record {
              sweeps = λ low₀ mark₀ rise j.
                  let z : rise + (s + t) ≡ rise + s + t = omega arith in
                  rw z (one_more g i.walk.list (some g i.walk b) (i.swept.sweeps low₀ mark₀ rise j) (rw (passes g i.walk b) n) e);
              small = omega (arith, i.swept.small, two, less g i.walk.list (some g i.walk b) e);
            };
          }

-- all levels
module _ {up head next low₀ mark₀ : List ℕ} {count : ℕ} (g : Grounded up head next) (d : Levels up next count) (r : Sweepable up next low₀ mark₀) where
  pub start : Settling up next low₀ mark₀ low₀ mark₀ count count 0
  start = record {
    far = omega arith;
    small = omega (arith, d.high, g.few);
    sweeping = record {
      lows = r.walk.ones;
      marks = r.walk.twos;
      falls = λ v. omega arith;
      known = λ v h. record { from = v; low_in = h; under = stay; is = refl };
      closed = λ v h l p. absurd (nobody v h l p);
      marked = λ v h l p. absurd (nobody v h l p);
      rest = λ v h _. refl;
      blank = λ v h _. refl;
      sum = omega arith;
    };
  }
    where
      nobody : (v : ℕ) → v < length up → Listed next v → ¬ Passed up count 0 v
      nobody v h l (inl z) = omega (arith, d.level v h l)
      nobody v h l (inr z) = omega (arith, d.level v h l, z.0)

  module _ {low mark : List ℕ} {k rise : ℕ} (j : Settling up next low₀ mark₀ low mark count k rise) where
    i : Sweeping up next low₀ mark₀ low mark k 0 rise
    i = j.sweeping

    module _ {low' mark' : List ℕ} {s : ℕ} (h : 0 < k) (n : LevelSwept up next low low' mark mark' (k - 1) s) where
      pub settle_next : Settling up next low₀ mark₀ low' mark' count (k - 1) (rise + s)
      settle_next = record {
        far = omega (arith, j.far);
        small = omega (arith, j.small, n.small, g.few);
        sweeping = let e : k - 1 + 1 ≡ k = omega arith in n.sweeps low₀ mark₀ rise (rw e i);
      }

    pub end : k ≤ 0 → Swept up next low₀ mark₀ mark rise
    end z = record {
      size = i.marks;
      marked = λ v h. (
        at low v,
        record { known = i.known v h; least = λ u l p w. omega (arith, climbs p w, i.falls u) },
        dite (ℕ_discrete (at next v) none)
            (λ q.
            let b = r.unlisted v h q in
            i.rest v h (inl q) ∙ sym (max-zero (at mark₀ v)) ∙ ap (max (at mark₀ v)) (ask_none (omega (arith, i.blank v h q))))
            (λ l. i.marked v h l (all v)),
      );
      sum = i.sum;
    }
      where
        all : (v : ℕ) → Passed up k 0 v
        all v = dite (dec_lt k (depth_of up v)) inl (λ o. inr (omega arith, omega arith))

        climbs : {v u : ℕ} → Listed next u → Under (tree_of up) v u → at low v ≤ at low u
        climbs l stay = omega arith
        climbs {v} {u} l (step q w) = omega (arith, climbs (g.upward q l) w, ap (at low) q.to, i.closed u q.low l (all u))
