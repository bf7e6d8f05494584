-- Walks up that keep clear of a machine or of an uplink: each is the way up itself, seen not to meet what is to be avoided.
use mathlib.Core.Logic.{◌≢◌, dite}
use Prim.Native.Nat.{ℕ}
use native.Mathlib.Decide.{ℕ_discrete}
use Rattle.graph.specs.Walk.{Relation, Walk, stay, step}
use Rattle.graph.specs.Choke.{Without}
use Rattle.rings.specs.Tree.{Tree, Uplink, Under}
use Rattle.rings.specs.Network.{Cable, rising, falling, cross, Network}
use Rattle.rings.specs.Ring.{Escape}
use Rattle.rings.proofs.Under.{under?, far}

pub turn : {U L : Relation} → ((a b : ℕ) → L a b → L b a) → (a b : ℕ) → Cable U L a b → Cable U L b a
turn s a b (rising u) = falling u
turn s a b (falling u) = rising u
turn s a b (cross l) = cross (s a b l)

-- a walk up that does not pass w
pub clear : {T : Tree} {w x a : ℕ} → (Under T w a → ¬ Under T x w) → Under T x a → Walk (Without (Uplink T) w) a x
clear q stay = stay
clear q (step {b = b} r u) = step {b = b} (λ e. q (rw e stay) (rw (← e) (step r u)), λ e. q (step r (rw e stay)) (rw e at u), r) (clear (λ k. q (step r k)) u)

-- a walk up to v, ended where it first meets v: it does not take the uplink of v
pub until : {T : Tree} {v a : ℕ} → Under T v a → Walk (λ x y. (x ≢ v) × Uplink T x y) a v
until stay = stay
until {v = v} {a} (step r u) = dite (ℕ_discrete a v) (λ e. rw e stay) (λ o. step (o, r) (until u))

-- where no link leads from under x to what is not under y, a link from under x leads to under y
pub kept : {T : Tree} {L : Relation} → Network T L → {x y a b : ℕ} → ¬ Escape T L x y → L a b → Under T x a → Under T y b
kept N {x} {y} {a} {b} q l u = dite (under? N.rooted y b (far N l)) (λ k. k)
    (λ o. absurd (q (search)))
