-- What a link and a run of links do, as laws: the tables depend on the set of links alone.
use Rattle.std.specs.Prelude.{◌≡◌, true, List, [], ◌∷◌, ◌≢◌, ◌⊎◌, ◌↔◌, ℕ, ◌<◌, ◌≤◌, max, length}
use Rattle.plain.specs.Table.{at}
use Rattle.graph.specs.Cable.{Cables, Linked}
use Rattle.rings.specs.Ring.{Rings, Carries}
use Rattle.rings.specs.Group.{SameGroup}
use Rattle.tables.specs.Verdict.{Sound}
use Rattle.tables.specs.Tree.{tree_verdict}
use Rattle.tables.specs.AsTree.{tree_of}
use Rattle.tables.specs.Tables.{Tables}
use Rattle.tables.specs.Link.{over, meet, ring, due}
use Rattle.tables.specs.Links.{Stands, tables_with}
use Rattle.tables.specs.History.{History, Lived, links, tables}

-- x is on the ring and not w exactly where it is on one of the two lines and not on the other
abbrev pub RingLines : Type 0
RingLines = (up : List ℕ) → tree_verdict up ≡ Sound → (a b x : ℕ) → a < length up → b < length up → x < length up
    → ((ring up a b x ≡ true) × (x ≢ meet up a b))
    ↔ (((over up x a ≡ true) × (over up x b ≢ true)) ⊎ ((over up x b ≡ true) × (over up x a ≢ true)))

-- the greatest mark that one of the links asks of x
unfoldable pub greatest : List ℕ → Cables → ℕ → ℕ
greatest up [] x = 0
greatest up (p ∷ l) x = max (due up p.0 p.1 x) (greatest up l x)

-- what tables tell of the links that leave them
pub record Tells (up : List ℕ) (links : Cables) (t : Tables) : Type 0 where
  -- marks are the greatest that one link asks, and say what is ringed and what is carried
  pub marks : (x : ℕ) → x < length up → at t.mark x ≡ greatest up links x
  pub ringed : (x : ℕ) → x < length up → (1 ≤ at t.mark x) ↔ Rings (tree_of up) (Linked links) x
  pub carried : (x : ℕ) → x < length up → (at t.mark x ≡ 2) ↔ Carries (tree_of up) (Linked links) x
  -- groups are the classes of the joins, named by their least member
  pub grouped : (x y : ℕ) → x < length up → y < length up
      → (at t.group x ≡ at t.group y) ↔ SameGroup (tree_of up) (Linked links) (at up x) x y
  pub member : (x : ℕ) → x < length up → at t.group (at t.group x) ≡ at t.group x
  pub least : (x y : ℕ) → x < length up → y < length up → at t.group x ≡ at t.group y → at t.group x ≤ y

pub record TablesTell : Type 0 where
  pub after_batches : (up : List ℕ) (h : History) → Lived up h → Tells up (links h) (tables up h)
  pub with_links : (up : List ℕ) (l : Cables) → Stands up l → Tells up l (tables_with up l)

-- the same links, whatever their order, repeats and ends swapped
abbrev pub SameLinks : Cables → Cables → Type 0
SameLinks l k = (a b : ℕ) → Linked l a b ↔ Linked k a b

-- the same links leave the same tables, whatever the batches
pub record OrderFree : Type 0 where
  pub after_batches : (up : List ℕ) (h i : History) → Lived up h → Lived up i → SameLinks (links h) (links i) → tables up h ≡ tables up i
  pub with_links : (up : List ℕ) (l k : Cables) → Stands up l → Stands up k → SameLinks l k → tables_with up l ≡ tables_with up k
