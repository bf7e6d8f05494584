-- `Page::uplink_lines` meets its contract. The loop's invariant: the lines of the uplinks below `k` are written.
use Rattle.text.specs.Text.{lines, uplink_line}
use Rattle.text.specs.Written.{Appends}
use Rattle.text.proofs.Page.uplink_lines.Given as goal

abbrev pub invariant-loop-k : goal.invariant-loop-k
invariant-loop-k l = Appends l.initial.self (lines (uplink_line l.up l.links) 0 l.k) l.self
