-- `kinds::size`: the number of the body, held to the limit, is what `size` of a file says.
use Rattle.sitefile.proofs.ReadKinds.{number_in, size_refused, size_read}
use Rattle.sitefile.proofs.kinds.size.Goals as goal

pub returns-in_default : goal.returns-in_default
returns-in_default c room = search (size_refused, number_in)

pub returns : goal.returns
returns c room = search (size_read, number_in)
