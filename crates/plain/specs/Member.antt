-- What stands on a list.
use mathlib.Core.List.{List, Memᴰ}

infix 4 ◌∈◌
-- x stands on the list
abbrev pub ◌∈◌ : {A : Type 0} → A → List A → Type 0
x ∈ l = Memᴰ x l
