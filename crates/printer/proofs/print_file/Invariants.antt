-- `print_file` is safe and ends: a turn tells of no more bytes than the text has, and each leaves fewer bytes of the file. Nothing else is kept.
use Rattle.std.proofs.Common.{length, ◌-◌}
use Rattle.printer.proofs.print_file.Given as goal

abbrev pub decreases-loop-next : goal.decreases-loop-next
decreases-loop-next g l = length l.file - l.reader.place
