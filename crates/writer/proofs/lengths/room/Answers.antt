-- `lengths::room` meets its contract: 13 is looked at before 14.
use Rattle.writer.proofs.Measuring.{too_long, too_short, fits}
use Rattle.writer.proofs.lengths.room.Goals as goal

pub returns-then-file-gt-MOST_BYTES : goal.returns-then-file-gt-MOST_BYTES
returns-then-file-gt-MOST_BYTES c = search too_long

pub returns-then-room-file : goal.returns-then-room-file
returns-then-room-file c = search too_short

pub returns : goal.returns
returns c = search fits
