-- Before the loop no line is written; where there is room for all lines there is room for the next; and it stands behind those before it.
use Rattle.text.proofs.Lines.{start, room, next}
use Rattle.text.proofs.Page.uplink_lines.Goals as goal

pub loop-k-init : goal.loop-k-init
loop-k-init c = search start

pub line_for-requires : goal.line_for-requires
line_for-requires c = room _ _ _ c.requires.room c.loop-k-test.true c.loop-k.invariant

pub loop-k-preserved : goal.loop-k-preserved
loop-k-preserved c = search next
