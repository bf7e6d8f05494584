-- What a tree is known for: it is sound, no greater than a site may be, and its depths are right.
use mathlib.Core.Path.{◌≡◌}
use mathlib.Core.List.{List}
use Prim.Native.Nat.{ℕ, ◌≤◌}
use lib.ListN.{length}
use Rattle.plain.specs.Table.{tabulate}
use Rattle.rings.specs.Tree.{Uplink}
use Rattle.tables.specs.Tree.{most_machines, depth_of}
use Rattle.tables.specs.AsTree.{tree_of}
use Rattle.tables.specs.Demand1.{SoundTree}
use Rattle.tables.proofs.Sound.{sound_tree}
use Rattle.lanes.specs.declared.tree.Tree.{Tree}
use Rattle.lanes.specs.declared.lists.Lists as Declared
use Rattle.lanes.specs.Depths.{Listed, Lists}
use Rattle.lanes.specs.Laying.{Ground}

pub record Grown (up depth : List ℕ) : Type 0 where
  pub few : length up ≤ most_machines
  pub tree : SoundTree up
  pub depths : depth ≡ tabulate (length up) (depth_of up)

pub known : (t : Tree) → Grown t.up.now t.depth.now
known t = record { few = t.few; tree = sound_tree t.up.now t.sound; depths = t.depths }

-- and a tree whose lines are on lists
pub record Grounded (up head next : List ℕ) : Type 0 where
  pub few : length up ≤ most_machines
  pub tree : SoundTree up
  pub lists : Lists (length up) (depth_of up) (length up) head next
  pub upward : {v w : ℕ} → Uplink (tree_of up) v w → Listed next v → Listed next w

pub grounded : {up head next : List ℕ} → length up ≤ most_machines → SoundTree up → Ground up head next → Grounded up head next
grounded n s g = record { few = n; tree = s; lists = g.lists; upward = g.upward }

pub known_lists : (l : Declared.Lists) → Grounded l.tree.up.now l.head.now l.next.now
known_lists l = grounded l.tree.few (sound_tree l.tree.up.now l.tree.sound) l.ground
