-- What the parts of the writer leave in the buffer that they are lent, and how long the file is.
-- These are the contracts of private functions: the public call does not cite them, so nothing here has to be believed.
use Rattle.std.specs.Prelude.{◌≡◌, List, ℕ, ◌≤◌, length}
use Rattle.plain.specs.Laid.{laid}
use Rattle.turns.specs.Printed.{most_bytes}

-- these bytes stand over the front of the buffer, and the answer is how many they are
pub record Fills (bytes before after : List ℕ) (answer : ℕ) : Type 0 where
  pub filled : after ≡ laid bytes before
  pub number : answer ≡ length bytes

-- r is the length, or both are over the most that a file may have
pub record Measured (size r : ℕ) : Type 0 where
  pub short : r ≤ most_bytes → r ≡ size
  pub long : size ≤ most_bytes → r ≡ size
