-- One line: a letter, a space and a number twice, and the line end, so where there is room for it there is room for each part in turn.
use mathlib.Core.List.{List, [], ◌∷◌, ◌++◌}
use Prim.Native.Nat.{ℕ, ◌<◌}
use native.Mathlib.Omega.{arith}
use lib.ListN.{length}
use Rattle.text.specs.Text.{decimal, line}
use Rattle.text.specs.declared.Page.{Page}
use Rattle.text.specs.Written.{Appends, HasRoom}
use Rattle.text.proofs.Appending.{then, room, room_first}

abbrev field : ℕ → List ℕ
field n = 32 ∷ decimal n

-- where there is room for a line, there is room for each part of it in turn, and the parts are the line
module _ (p : Page) (c a b : ℕ) (h : HasRoom p (line c a b)) where
  pub room_letter : p.at < length p.out.now
  unfolding line
  room_letter = omega (arith, h)

  module _ {q : Page} (x : Appends p (c ∷ []) q) where
    after_letter : HasRoom q (field a ++ (field b ++ (10 ∷ [])))
    unfolding line
    after_letter = room (field a ++ (field b ++ (10 ∷ []))) h x

    pub room_a : HasRoom q (field a)
    room_a = room_first q (field a) (field b ++ (10 ∷ [])) after_letter

    module _ {r : Page} (y : Appends q (field a) r) where
      after_a : HasRoom r (field b ++ (10 ∷ []))
      after_a = room (field b ++ (10 ∷ [])) after_letter y

      pub room_b : HasRoom r (field b)
      room_b = room_first r (field b) (10 ∷ []) after_a

      module _ {s : Page} (z : Appends r (field b) s) where
        pub room_end : s.at < length s.out.now
        room_end = omega (arith, room (10 ∷ []) after_a z)

        pub whole_line : {t : Page} → Appends s (10 ∷ []) t → Appends p (line c a b) t
        unfolding line
        whole_line end = then x (then y (then z end))
