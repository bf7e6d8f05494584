-- `Page::machine_lines` meets its contract. The loop's invariant: the lines of the machines below `k` are written.
use Rattle.text.specs.Text.{lines, machine_line}
use Rattle.text.specs.Written.{Appends}
use Rattle.text.proofs.Page.machine_lines.Given as goal

abbrev pub invariant-loop-k : goal.invariant-loop-k
invariant-loop-k l = Appends l.initial.self (lines (machine_line l.machines) 0 l.k) l.self
