-- A machine w other than the hub, taken out: a group with no carried member is left by nothing, and is parted from up w.
-- Where each child's group has one, every machine gets to the hub: under w along its group to that member, and past w by its link.
use mathlib.Core.Logic.{◌≢◌, ⊎_elim, dite}
use Prim.Native.Nat.{ℕ, ◌<◌}
use Rattle.graph.specs.Walk.{Relation, stay, step}
use Rattle.graph.specs.Choke.{Choke}
use Rattle.graph.proofs.Walks.{join}
use Rattle.rings.specs.Tree.{Tree, Uplink, Under}
use Rattle.rings.specs.Network.{cross, Cabled, Network}
use Rattle.rings.specs.Ring.{Carries}
use Rattle.rings.specs.Group.{SameGroup, Stuck}
use Rattle.rings.proofs.Under.{last, no_return, under?, hub_over, far}
use Rattle.rings.proofs.Groups.{Road, member, shut, turned, ascent, below_child, to_child, through}

module _ {T : Tree} {L : Relation} (N : Network T L) where
  pub machine_choke : {v w c : ℕ} → Uplink T w v → Stuck T L w c → Choke T.size (Cabled T L) w
  machine_choke {v} {w} {c} s (r, q) =
      let in-v = N.rooted.low s in
      let other-c : c ≢ w = λ e. no_return N.rooted r (rw e stay) in
      let other-v : v ≢ w = λ e. no_return N.rooted s (rw e stay) in
      let parted : ¬ Road T L w c v = λ k. let (m, g, u) = shut N r q k (c, stay, stay) in no_return N.rooted (member r g) (step s u) in
      search

  pub machine_spare : {w : ℕ} → ((c : ℕ) → Uplink T c w → (m : ℕ) × SameGroup T L w c m × Carries T L m)
      → ¬ Choke T.size (Cabled T L) w
  machine_spare {w} q k = k.parted (join (home k.one k.one_in k.one_other) (turned N (home k.two k.two_in k.two_other)))
    where
      clear_home : (a : ℕ) → a < T.size → ¬ Under T w a → Road T L w a T.hub
      clear_home a h o = ascent N (λ u _. o u) (hub_over N.rooted a h)

      past : {m : ℕ} → Uplink T m w → Carries T L m → Road T L w m T.hub
      past j g =
          let o : ¬ Under T w g.outer = rw j.to at g.beyond in
          join (turned N (to_child N j g.below))
          (step (below_child N j g.below, λ e. o (rw e stay), cross g.link) (clear_home g.outer (far N g.link) o))

      home : (a : ℕ) → a < T.size → a ≢ w → Road T L w a T.hub
      home a h o = dite (under? N.rooted w a h)
          (λ u. ⊎_elim (λ e. absurd (o e))
          (λ i. let (m, g, p) = q i.0 i.1 in join (to_child N i.1 i.2) (join (through N g) (past (member i.1 g) p)))
          (last u))
          (clear_home a h)
