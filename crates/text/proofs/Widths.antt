-- How long the text of a report can be: a line is its two numbers and 4 bytes, and the digits of a number are few where the number is small.
use mathlib.Core.Path.{◌≡◌}
use mathlib.Core.Bool.{Bool, true, false, cond}
use mathlib.Core.List.{List, [], ◌∷◌, ◌++◌}
use Prim.Native.Nat.{ℕ, zero, suc, ◌+◌, ◌*◌, ◌^◌, ◌<◌, ◌≤◌}
use native.Mathlib.Omega.{arith}
use native.Mathlib.Nat.{mul-suc}
use lib.ListN.{length, length-append}
use lib.Dec.{eqb}
use mir.Syntax.{w8, w16}
use mir.Val.{Fits}
use Rattle.plain.specs.Table.{at}
use Rattle.tables.specs.Tree.{most_machines}
use Rattle.text.specs.declared.Page.{Page}
use Rattle.text.specs.Written.{HasRoom}
use Rattle.text.specs.Text.{decimal, line, line_for, lines, machine_line, machine_lines, uplink_line, uplink_lines}
use Rattle.text.proofs.Digits.{length_places, length_below}

line-length : (c a b : ℕ) → length (line c a b) ≡ 4 + length (decimal a) + length (decimal b)
unfolding line
line-length c a b = omega (arith, length-append (decimal a) (32 ∷ (decimal b ++ (10 ∷ []))), length-append (decimal b) (10 ∷ []))

pub any_line : (c a b : ℕ) → length (line c a b) ≤ 44
any_line c a b = omega (arith, line-length c a b, length_places 20 a, length_places 20 b)

pub line_room : (c a b : ℕ) (p : Page) → p.at + 44 ≤ length p.out.now → HasRoom p (line c a b)
line_room c a b p h = omega (arith, any_line c a b)

-- where a has at most p + 1 digits and b at most q + 1
line_width : (byte c a b p q : ℕ) → a < 10 ^ suc p → b < 10 ^ suc q → length (line_for byte c a b) ≤ 6 + p + q
line_width byte c a b p q h k = go (eqb byte 0)
  where
    go : (t : Bool) → length (cond t [] (line c a b)) ≤ 6 + p + q
    go true = omega arith
    go false = omega (arith, line-length c a b, length_below 20 p a h, length_below 20 q b k)

lines-length : (f : ℕ → List ℕ) (w n : ℕ) → ((i : ℕ) → i < n → length (f i) ≤ w) → (m k : ℕ) → k + m ≤ n → length (lines f k m) ≤ w * m
unfolding lines
lines-length f w n h zero k b = omega arith
lines-length f w n h (suc m) k b =
    omega (arith, mul-suc w m, length-append (f k) (lines f (suc k) m), h k (omega arith), lines-length f w n h m (suc k) (omega arith))

-- the number of a machine has at most 4 digits, a byte 3 and an uplink 5
module _ (n : ℕ) (few : n ≤ most_machines) where
  pub machine_lines_lem : (bytes : List ℕ) → ((i : ℕ) → Fits w8 (at bytes i)) → length (machine_lines bytes 0 n) ≤ 11 * n
  machine_lines_lem bytes small =
      lines-length (machine_line bytes) 11 n (λ i h. line_width (at bytes i) 77 i (at bytes i) 3 2 (omega arith) (omega (arith, small i))) n 0 (omega arith)

  pub uplink_lines_lem : (up bytes : List ℕ) → ((i : ℕ) → Fits w16 (at up i)) → length (uplink_lines up bytes 0 n) ≤ 13 * n
  uplink_lines_lem up bytes small =
      lines-length (uplink_line up bytes) 13 n (λ i h. line_width (at bytes i) 76 i (at up i) 3 4 (omega arith) (omega (arith, small i))) n 0 (omega arith)
