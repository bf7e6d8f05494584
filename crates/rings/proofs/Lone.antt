-- A lone uplink at w, its own or a child's: a carried machine is ringed and so is its up, and so is a member of a group of two or more.
-- So a lone child is a group of its own that carries nothing, and below a lone uplink nothing is carried.
use mathlib.Core.Path.{refl}
use mathlib.Core.Logic.{◌≢◌, dite}
use Prim.Native.Nat.{ℕ}
use native.Mathlib.Decide.{ℕ_discrete}
use Rattle.graph.specs.Walk.{Relation, stay, step}
use Rattle.graph.proofs.Walks.{one_step, join}
use Rattle.rings.specs.Tree.{Tree, Uplink, Under}
use Rattle.rings.specs.Network.{Network}
use Rattle.rings.specs.Ring.{Escape, Rings, Carries}
use Rattle.rings.specs.Group.{SameGroup}
use Rattle.rings.specs.Statements.{CarriedRings, GroupRings, ReasonThreeNever}
use Rattle.rings.proofs.Under.{one_child, hub_over, far}
use Rattle.rings.proofs.Groups.{member}

-- an escape from under x past y is one from under what is over x past what is under y
widen : {T : Tree} {L : Relation} {x x' y y' : ℕ} → Under T x' x → Under T y y' → Escape T L x y → Escape T L x' y'
widen u v g = record { inner = g.inner; outer = g.outer; link = g.link; below = join g.below u; beyond = λ k. g.beyond (join k v) }

past : {T : Tree} {L : Relation} {c w : ℕ} → Uplink T c w → Carries T L c → Escape T L c w
past r g = rw r.to at g

pub carried_rings : CarriedRings
carried_rings T L c w r g = widen (one_step r) stay (past r g)

carries_rings : {T : Tree} {L : Relation} {c w : ℕ} → Uplink T c w → Carries T L c → Rings T L c
carries_rings r g = widen stay (one_step r) (past r g)

pub rings_other : {T : Tree} {L : Relation} {x : ℕ} → Network T L → Rings T L x → x ≢ T.hub
rings_other N g e = g.beyond (rw e (hub_over N.rooted g.outer (far N g.link)))

joined_rings : {T : Tree} {L : Relation} → Network T L → {w c m : ℕ} → SameGroup T L w c m → c ≢ m → Rings T L c
joined_rings N stay o = absurd (o refl)
joined_rings {T} N {c = c} (step j g) o =
    let beyond : ¬ Under T c j.two = λ u. j.apart (one_child N.rooted j.left j.right u j.below_right) in
    search

pub group_rings : GroupRings
group_rings T L N w c m = joined_rings N

pub reason_three_never : ReasonThreeNever
reason_three_never T L N = record {
  lone_child = λ w c r q. (r, λ m g p. dite (ℕ_discrete c m) (λ e. q (carries_rings r (rw e p))) (λ o. q (joined_rings N g o)));
  lone_own = λ w c r q. (r, λ m g p. q (carried_rings T L m w (member r g) p));
  lone_at_hub = λ c d r s o q. (r, s, λ g. q (joined_rings N g o));
}
