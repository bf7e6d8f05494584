-- Codes 1 and 2 pass exactly where there are not too many machines and each table has an entry for each.
use mathlib.Core.Path.{◌≡◌, refl}
use mathlib.Core.List.{List}
use mathlib.Core.Logic.{◌↔◌}
use Prim.Native.Nat.{ℕ, ◌≤◌}
use lib.ListN.{length}
use borrow.Author.Tests.{eqb-true, eq-eqb}
use Rattle.plain.proofs.Says.{says_and, says_lt, says_le}
use Rattle.tables.specs.Verdict.{Sound}
use Rattle.tables.specs.Tree.{most_machines, size_verdict}
use Rattle.tables.specs.Tables.{Tables, sized, sizes_verdict, lengths_verdict}
use Rattle.tables.proofs.Verdicts.{all_sound, sound_all, unless_sound}

pub record Sizes (n depth group mark : ℕ) : Type 0 where
  pub some : 1 ≤ n
  pub few : n ≤ most_machines
  pub depth_size : depth ≡ n
  pub group_size : group ≡ n
  pub mark_size : mark ≡ n

abbrev pub Lengths : List ℕ → Tables → Type 0
Lengths up t = Sizes (length up) (length t.depth) (length t.group) (length t.mark)

pub sized_is : (which size n : ℕ) → sized which size n ≡ Sound → size ≡ n
sized_is which size n e = eqb-true _ _ (unless_sound _ _ _ e)

is_sized : (which size n : ℕ) → size ≡ n → sized which size n ≡ Sound
is_sized which size n e = rw (eq-eqb size n e) refl

pub size_exact : (n : ℕ) → (size_verdict n ≡ Sound) ↔ ((1 ≤ n) × (n ≤ most_machines))
unfolding size_verdict
size_exact n = let s = says_and (says_lt 0 n) (says_le n most_machines) in (λ e. s.gives (unless_sound _ _ _ e), λ k. rw (s.takes k))

pub sizes_exact : (n depth group mark : ℕ) → (sizes_verdict n depth group mark ≡ Sound) ↔ Sizes n depth group mark
unfolding sizes_verdict
sizes_exact n depth group mark = (
  λ e.
      let a = all_sound _ e in
      let (one, most) = (size_exact n).0 (search a) in
      record { some = one; few = most; depth_size = search (sized_is, a); group_size = search (sized_is, a); mark_size = search (sized_is, a) },
  λ k.
      let z = (size_exact n).1 (k.some, k.few) in
      sound_all _ (search is_sized),
)

pub lengths : (up : List ℕ) (t : Tables) → lengths_verdict up t ≡ Sound → Lengths up t
lengths up t = (sizes_exact _ _ _ _).0
