-- An uplink of v that nothing rings is a choke: no other cable leaves what is under v. Where a link rings it, go down to
-- the link, along it, and from there and from the other end of the uplink to the hub, both clear of v.
use Prim.Native.Nat.{ℕ, ◌<◌}
use Rattle.graph.specs.Walk.{Relation, Walk, stay, step}
use Rattle.graph.proofs.Walks.{closed, join, back, map}
use Rattle.rings.specs.Tree.{Tree, Uplink, Under}
use Rattle.rings.specs.Network.{rising, falling, cross, CabledBut, Network}
use Rattle.rings.specs.Ring.{Rings}
use Rattle.rings.specs.Statements.{UplinkChokes}
use Rattle.rings.proofs.Under.{rest, no_return, hub_over, far}
use Rattle.rings.proofs.Roads.{turn, clear, until, kept}

module _ {T : Tree} {L : Relation} (N : Network T L) where
  uplink_choke : {v w : ℕ} → Uplink T v w → ¬ Rings T L v → ¬ Walk (CabledBut T L v) v w
  uplink_choke {v} r q k = no_return N.rooted r (closed (Under T v) keep k stay)
    where
      keep : (a b : ℕ) → CabledBut T L v a b → Under T v a → Under T v b
      keep a b (rising s) u = rest s.1 s.0 u
      keep a b (falling s) u = step s.1 u
      keep a b (cross l) u = kept N q l u

  uplink_spare : {v w : ℕ} → Uplink T v w → Rings T L v → Walk (CabledBut T L v) v w
  uplink_spare {v} {w} r g =
      join (back (turn N.flip) (map (λ a b s. rising s) (until g.below))) (step (cross g.link)
      (join (home g.beyond (far N g.link)) (back (turn N.flip) (home (no_return N.rooted r) (N.rooted.low r)))))
    where
      home : {a : ℕ} → ¬ Under T v a → a < T.size → Walk (CabledBut T L v) a T.hub
      home {a} q h = map (λ x y s. rising (s.0, s.2)) (clear (λ u _. q u) (hub_over N.rooted a h))

pub uplink_chokes : UplinkChokes
uplink_chokes T L N v w r = (λ q g. q (uplink_spare N r g), uplink_choke N r)
