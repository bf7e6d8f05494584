-- One digit is all there is, or a tenth of the number has one digit less.
use native.Mathlib.Omega.{arith}
use Rattle.text.proofs.Laying.{stored, reworded}
use Rattle.text.proofs.Digits.{one_digit, all_digits, room_one, room_tenth, room_last}
use Rattle.text.proofs.+decimal.Goals as goal

pub bounds-out-at : goal.bounds-out-at
bounds-out-at t c = search room_one

pub returns-then-n-lt10 : goal.returns-then-n-lt10
returns-then-n-lt10 t c = search (reworded, one_digit, stored)

pub decimal-last-requires : goal.decimal-last-requires
decimal-last-requires t c = (omega arith, search (room_tenth, arith))

pub bounds-out-last : goal.bounds-out-last
bounds-out-last t c = search (room_last, arith)

pub overflow_add-result-2 : goal.overflow_add-result-2
overflow_add-result-2 t c = search (room_last, arith)

pub returns : goal.returns
returns t c = search (all_digits, stored, arith)
