-- `View::fill`: the bytes below w are those of the definitions
use Rattle.plain.proofs.Fill.{Filling}
use Rattle.tables.specs.Report.{machine_byte, link_byte}
use Rattle.site.proofs.report.View.fill.Given as goal

abbrev pub invariant-loop-w : goal.invariant-loop-w
invariant-loop-w l = Filling l.initial.machines l.machines l.w (machine_byte l.self.top l.self.up.now l.self.group.now l.self.mark.now)
    × Filling l.initial.links l.links l.w (link_byte l.self.top l.self.mark.now)
