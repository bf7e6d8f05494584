-- Without w a group of its children keeps together, along the links that join them; and nothing leaves what is below a group
-- without a carried member: a link from there leads to under w, so to under a child of w, which it joins to the group.
use mathlib.Core.Logic.{◌≢◌, ⊎_elim, dite, Ne-symm}
use Prim.Native.Nat.{ℕ}
use native.Mathlib.Decide.{ℕ_discrete}
use Rattle.graph.specs.Walk.{Relation, Walk, step}
use Rattle.graph.specs.Choke.{Without}
use Rattle.graph.proofs.Walks.{one_step, closed, join, back, refine, map}
use Rattle.rings.specs.Tree.{Tree, Uplink, Under}
use Rattle.rings.specs.Network.{rising, falling, cross, Cabled, Network}
use Rattle.rings.specs.Ring.{Carries}
use Rattle.rings.specs.Group.{SameGroup}
use Rattle.rings.proofs.Under.{rest, last, no_return}
use Rattle.rings.proofs.Roads.{turn, clear, kept}

-- a is below the group of c
abbrev Below : Tree → Relation → ℕ → ℕ → ℕ → Type 0
Below T L w c a = (m : ℕ) × SameGroup T L w c m × Under T m a

-- a walk that avoids w
abbrev pub Road : Tree → Relation → ℕ → ℕ → ℕ → Type 0
Road T L w = Walk (Without (Cabled T L) w)

pub member : {T : Tree} {L : Relation} {w c m : ℕ} → Uplink T c w → SameGroup T L w c m → Uplink T m w
member {T} {w = w} r g = closed (λ v. Uplink T v w) (λ a b j _. j.right) g r

module _ {T : Tree} {L : Relation} (N : Network T L) where
  pub shut : {w c x y : ℕ} → Uplink T c w → ((m : ℕ) → SameGroup T L w c m → ¬ Carries T L m)
      → Road T L w x y → Below T L w c x → Below T L w c y
  shut {w} {c} r q = closed (Below T L w c) (λ a b s. keep a b s.1 s.2)
    where
      keep : (a b : ℕ) → b ≢ w → Cabled T L a b → Below T L w c a → Below T L w c b
      keep a b o (rising s) (m, g, u) = (m, g, rest s (λ e. o (cc (e, s.to, (member r g).to))) u)
      keep a b o (falling s) (m, g, u) = (m, g, step s u)
      keep a b o (cross l) (m, g, u) =
          let j = member r g in
          ⊎_elim (λ e. absurd (o e))
          (λ k. dite (ℕ_discrete m k.0) (λ e. (m, g, rw e k.2))
          (λ p. (k.0, join g (one_step (search)), k.2)))
          (last (rw j.to at (kept N (q m g) l u)))

  pub turned : {w x y : ℕ} → Road T L w x y → Road T L w y x
  turned = back (λ a b s. (s.1, s.0, turn N.flip a b s.2))

  -- a walk up that does not pass w is a road
  pub ascent : {w x a : ℕ} → (Under T w a → ¬ Under T x w) → Under T x a → Road T L w a x
  ascent q u = map (λ a b s. (s.0, s.1, rising s.2)) (clear q u)

  pub below_child : {w c a : ℕ} → Uplink T c w → Under T c a → a ≢ w
  below_child r u e = no_return N.rooted r (rw e at u)

  pub to_child : {w c a : ℕ} → Uplink T c w → Under T c a → Road T L w a c
  to_child r = ascent (λ _. no_return N.rooted r)

  pub through : {w x y : ℕ} → SameGroup T L w x y → Road T L w x y
  through = refine (λ x y j. join (turned (to_child j.left j.below_left))
      (step (below_child j.left j.below_left, below_child j.right j.below_right, cross j.link) (to_child j.right j.below_right)))

  pub mirror : {w x y : ℕ} → SameGroup T L w x y → SameGroup T L w y x
  mirror = back (λ a b j. search (N.flip _ _ j.link, Ne-symm j.apart))
