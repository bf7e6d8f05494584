-- `tablet` is safe: a file that was written stands inside the buffer.
use lib.Seq.{length-take-le}
use Rattle.writer.proofs.ReadBack.{inside}
use Rattle.tablet.proofs.main.Goals as goal

pub slice_bounds-buffer-end : goal.slice_bounds-buffer-end
slice_bounds-buffer-end c = search inside

pub slice_bounds-write_all-end : goal.slice_bounds-write_all-end
slice_bounds-write_all-end c = search (length-take-le, inside)
