-- Where it is decided which machines a cross link joins, all else is, by search below the size: escapes, joins, groups.
-- So where no child is stuck each child's group has a carried member, and where no two children are split all are of one group.
use mathlib.Core.Logic.Dec
use mathlib.Core.Logic.{dite}
use Prim.Native.Nat.{ℕ, ◌<◌}
use native.Mathlib.Decide.{ℕ_discrete, dec_lt, map_dec}
use Rattle.plain.proofs.Decide.{any?}
use Rattle.graph.specs.Walk.{Relation}
use Rattle.graph.proofs.Reach.{walk?}
use Rattle.rings.specs.Tree.{Tree, Uplink}
use Rattle.rings.specs.Network.{Network}
use Rattle.rings.specs.Ring.{Escape, Carries}
use Rattle.rings.specs.Group.{Joins, SameGroup, Stuck, Split}
use Rattle.rings.specs.Statements.{Decided, MachineChokes, HubChokes}
use Rattle.rings.proofs.Under.{under?, far}
use Rattle.rings.proofs.Groups.{member}
use Rattle.rings.proofs.Machines.{machine_choke, machine_spare}
use Rattle.rings.proofs.Hubs.{hub_choke, hub_spare}

module _ {T : Tree} {L : Relation} (N : Network T L) (link? : Decided L) where
  open T use {size, hub, up}

  uplink? : (a b : ℕ) → Dec (Uplink T a b)
  uplink? a b = map_dec (λ k. search) (λ r. search) (Dec.and (dec_lt a size) (Dec.and (Dec.not (ℕ_discrete a hub)) (ℕ_discrete (up a) b)))

  -- is there a link from P to Q?
  between? : {P Q : ℕ → Type 0} → ((a : ℕ) → a < size → Dec (P a)) → ((b : ℕ) → b < size → Dec (Q b))
      → Dec ((a : ℕ) × (b : ℕ) × L a b × P a × Q b)
  between? p q = map_dec (λ k. search) (λ k. (k.0, N.near _ _ k.2, (k.1, far N k.2, (k.2, (k.3, k.4)))))
      (any? size (λ a h. any? size (λ b l. Dec.and (link? a b) (Dec.and (p a h) (q b l)))))

  escape? : (x y : ℕ) → Dec (Escape T L x y)
  escape? x y = map_dec (λ k. search) (λ g. search) (between? (under? N.rooted x) (λ b h. Dec.not (under? N.rooted y b h)))

  joins? : (w x y : ℕ) → Dec (Joins T L w x y)
  joins? w x y = map_dec (λ k. search) (λ j. search)
      (Dec.and (uplink? x w) (Dec.and (uplink? y w) (Dec.and (Dec.not (ℕ_discrete x y))
      (between? (under? N.rooted x) (under? N.rooted y)))))

  same_group? : (w x y : ℕ) → Dec (SameGroup T L w x y)
  same_group? w = walk? (Joins T L w) size (λ a b j. j.right.low) (joins? w)

  carried? : {w c : ℕ} → Uplink T c w → Dec ((m : ℕ) × SameGroup T L w c m × Carries T L m)
  carried? {w} {c} r = map_dec (λ k. search) (λ k. (k.0, (member r k.1).low, (k.1, k.2)))
      (any? size (λ m h. Dec.and (same_group? w c m) (escape? m (up m))))

  stuck? : (w : ℕ) → Dec ((c : ℕ) × Stuck T L w c)
  stuck? w = map_dec (λ k. search) (λ k. search) (any? {P = Stuck T L w} size (λ c h. dite (uplink? c w)
      (λ r. map_dec (λ q. (r, λ m g p. q (m, g, p))) (λ s k. s.1 k.0 k.1 k.2) (Dec.not (carried? r)))
      (λ o. no (λ s. o s.0))))

  split? : (w : ℕ) → Dec ((c : ℕ) × (d : ℕ) × Split T L w c d)
  split? w = map_dec (λ (c, h, (d, l, (r, (s, q)))). (c, d, (r, s, q))) (λ k. search)
      (any? size (λ c h. any? size (λ d l. Dec.and (uplink? c w) (Dec.and (uplink? d w) (Dec.not (same_group? w c d))))))

pub machine_chokes : MachineChokes
machine_chokes T L N link? v w s = (
  λ k. dite (stuck? N link? w) (λ c. c) (λ o. absurd (machine_spare N
      (λ c r. dite (carried? N link? r) (λ m. m) (λ q. absurd (o (c, (r, λ m g p. q (m, g, p)))))) k)),
  λ k. machine_choke N s k.1,
)

pub hub_chokes : HubChokes
hub_chokes T L N link? = (
  λ k. dite (split? N link? T.hub) (λ c. c) (λ o. absurd (hub_spare N
      (λ c d r s. dite (same_group? N link? T.hub c d) (λ g. g) (λ q. absurd (o (c, d, (r, s, q))))) k)),
  λ k. hub_choke N k.2,
)
