-- What the check of the rules asks of its slices.
-- This is the invariant of a private struct: the public calls do not cite it, so nothing here has to be believed.
use Rattle.std.specs.Prelude.{◌≡◌, List, ℕ, length}
use Rattle.tables.specs.Tree.{hub, Inside}

-- each table has an entry for each machine, each up entry is a machine, and h is the hub
pub record Sized (up depth group mark : List ℕ) (h : ℕ) : Type 0 where
  pub depth_size : length depth ≡ length up
  pub group_size : length group ≡ length up
  pub mark_size : length mark ≡ length up
  pub inside : Inside up
  pub top : h ≡ hub up
