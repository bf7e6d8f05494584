-- What a turn tells stands inside the text, and a turn that goes on takes bytes of the file.
use Rattle.turns.proofs.Telling.{more_inside, more_less, done_inside}
use Rattle.printer.proofs.print_file.Goals as goal

pub write_front-requires : goal.write_front-requires
write_front-requires g c = search more_inside

pub loop-next-smaller : goal.loop-next-smaller
loop-next-smaller g c = search more_less

pub write_front-requires-in-Done : goal.write_front-requires-in-Done
write_front-requires-in-Done g c = search done_inside
