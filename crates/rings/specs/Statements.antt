-- What is proved of a tree with cross links, as statements: its chokes are read off rings and groups. Their proofs are in proofs/.
use Rattle.std.specs.Prelude.{◌≢◌, ◌↔◌, ℕ}
use Rattle.graph.specs.Walk.{Relation, Walk}
use Rattle.graph.specs.Choke.{Choke}
use Rattle.rings.specs.Tree.{Tree, Uplink}
use Rattle.rings.specs.Network.{Network, Cabled, CabledBut}
use Rattle.rings.specs.Ring.{Rings, Carries}
use Rattle.rings.specs.Group.{SameGroup, Stuck, Split}

-- it is decided which machines a cross link joins
abbrev pub Decided : Relation → Type 0
Decided L = (a b : ℕ) → Dec (L a b)

-- an uplink is a choke exactly where nothing rings it
abbrev pub UplinkChokes : Type 1
UplinkChokes = (T : Tree) (L : Relation) → Network T L → (v w : ℕ) → Uplink T v w → (¬ Walk (CabledBut T L v) v w) ↔ (¬ Rings T L v)

-- a machine other than the hub is a choke exactly where the group of some child has no carried member
abbrev pub MachineChokes : Type 1
MachineChokes = (T : Tree) (L : Relation) → Network T L → Decided L → (v w : ℕ) → Uplink T w v
    → Choke T.size (Cabled T L) w ↔ ((c : ℕ) × Stuck T L w c)

-- the hub is one exactly where its children are in two groups or more
abbrev pub HubChokes : Type 1
HubChokes = (T : Tree) (L : Relation) → Network T L → Decided L
    → Choke T.size (Cabled T L) T.hub ↔ ((c : ℕ) × (d : ℕ) × Split T L T.hub c d)

-- a cross link is never a choke: with no cross link at all its ends are still joined
abbrev pub CrossNever : Type 1
CrossNever = (T : Tree) (L M : Relation) → Network T L → Network T M → (a b : ℕ) → L a b → Walk (Cabled T M) a b

-- a carried machine's up is ringed
abbrev pub CarriedRings : Type 1
CarriedRings = (T : Tree) (L : Relation) (c w : ℕ) → Uplink T c w → Carries T L c → Rings T L w

-- members of a group of two or more are ringed
abbrev pub GroupRings : Type 1
GroupRings = (T : Tree) (L : Relation) → Network T L → (w c m : ℕ) → SameGroup T L w c m → c ≢ m → Rings T L c

-- why reason 3 never happens: where w ends a lone uplink, its own or a child's, and another one, line 1 applies already, or line 2 at the hub
pub record NoReasonThree (T : Tree) (L : Relation) : Type 0 where
  pub lone_child : (w c : ℕ) → Uplink T c w → ¬ Rings T L c → Stuck T L w c
  pub lone_own : (w c : ℕ) → Uplink T c w → ¬ Rings T L w → Stuck T L w c
  pub lone_at_hub : (c d : ℕ) → Uplink T c T.hub → Uplink T d T.hub → c ≢ d → ¬ Rings T L c → Split T L T.hub c d

abbrev pub ReasonThreeNever : Type 1
ReasonThreeNever = (T : Tree) (L : Relation) → Network T L → NoReasonThree T L

-- a further link never adds a choke, machine or uplink
pub record NoneAdded (T : Tree) (L M : Relation) : Type 0 where
  pub machine : (w : ℕ) → Choke T.size (Cabled T M) w → Choke T.size (Cabled T L) w
  pub uplink : (v w : ℕ) → ¬ Walk (CabledBut T M v) v w → ¬ Walk (CabledBut T L v) v w

abbrev pub FurtherLinks : Type 1
FurtherLinks = (T : Tree) (L M : Relation) → ((a b : ℕ) → L a b → M a b) → NoneAdded T L M
