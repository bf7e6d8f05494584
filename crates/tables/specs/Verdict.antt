-- Why something is refused, what a check says, and checks in their order.
use Rattle.std.specs.Prelude.{Bool, cond, List, [], ◌∷◌, ℕ, ltb}
use Rattle.plain.specs.Search.{least}
-- the code's own types: a fault; all is well, or refused with why and where
pub use Rattle.tables.specs.declared.Fault.{Fault}
pub use Rattle.tables.specs.declared.Verdict.{Verdict}
pub use Rattle.tables.specs.declared.Verdict.TheVariants.{Sound, Refused}

-- the number of a fault: the one list of codes
abbrev pub number_of : Fault → ℕ
number_of Fault.Size = 1
number_of Fault.Slice = 2
number_of Fault.Entry = 3
number_of Fault.Hubs = 4
number_of Fault.Stray = 5
number_of Fault.Rule = 6
number_of Fault.Length = 7
number_of Fault.End = 8
number_of Fault.Loop = 9
number_of Fault.Cut = 10
number_of Fault.Unknown = 11
number_of Fault.Misplaced = 12
number_of Fault.Long = 13
number_of Fault.Short = 14
number_of Fault.Parts = 27

-- all of them, in the order of their numbers
unfoldable pub faults : List Fault
faults =
    Fault.Size ∷ Fault.Slice ∷ Fault.Entry ∷ Fault.Hubs ∷ Fault.Stray ∷ Fault.Rule ∷ Fault.Length ∷ Fault.End ∷ Fault.Loop
    ∷ Fault.Cut ∷ Fault.Unknown ∷ Fault.Misplaced ∷ Fault.Long ∷ Fault.Short ∷ Fault.Parts ∷ []

-- checks that run in this order: the first refusal
unfoldable pub checks : List Verdict → Verdict
checks [] = Sound
checks (Sound ∷ vs) = checks vs
checks (Refused why place ∷ vs) = Refused why place

-- refused unless the test holds
abbrev pub unless : Bool → Fault → ℕ → Verdict
unless b why place = cond b Sound (Refused why place)

-- refused with the least machine that p holds of, if there is one
unfoldable pub refuse_least : Fault → ℕ → (ℕ → Bool) → Verdict
refuse_least why n p = cond (ltb (least n p) n) (Refused why (least n p)) Sound
