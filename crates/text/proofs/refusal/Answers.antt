-- `text::refusal` meets its contract: a line has at most 44 bytes.
use Rattle.std.proofs.Common.{rules}
use native.Mathlib.Omega.{arith}
use Rattle.text.proofs.Reporting.{handed_back, refusal_unfit, refusal_room, refused}
use Rattle.text.proofs.refusal.Goals as goal

pub returns-then-out-lt64 : goal.returns-then-out-lt64
returns-then-out-lt64 c = search (refusal_unfit, arith)

pub line-requires : goal.line-requires
line-requires c = search refusal_room

pub returns : goal.returns
returns c = handed_back c.line.new.self (search rules) (search refused)
