-- `take`: 13 first, then the next record with its text.
use Rattle.turns.proofs.Turning.{turn_long, turn_taken}
use Rattle.turns.proofs.Telling.{tell_due}
use Rattle.turns.proofs.take.Goals as goal

pub returns-then-file-gt-MOST_BYTES : goal.returns-then-file-gt-MOST_BYTES
returns-then-file-gt-MOST_BYTES c = search (turn_long, c.refuse.ensures)

pub tell-requires : goal.tell-requires
tell-requires c = search tell_due

pub returns : goal.returns
returns c = search (turn_taken, c.tell.ensures)
