-- What a call answers: a code and a value.
use Rattle.std.specs.Prelude.{ℕ}
use Rattle.tables.specs.Verdict.{Fault, number_of, Verdict, Sound, Refused}
-- the code's own type
pub use Rattle.tables.specs.declared.Answer.{Answer}

-- done: code 0
abbrev pub done : ℕ → Answer
done value = record { code = 0; value = value }

-- refused: the number of the fault, and the place
abbrev pub refusal : Fault → ℕ → Answer
refusal why place = record { code = number_of why; value = place }

-- the answer to a verdict, where a call that is done has this value
abbrev pub answer_to : Verdict → ℕ → Answer
answer_to Sound value = done value
answer_to (Refused why place) value = refusal why place
