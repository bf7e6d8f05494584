-- `trees::entries`: the first entry that is no machine is refused.
use borrow.Author.Tests.{le-leb}
use Rattle.checks.proofs.Searching.{refused_here, refused_none}
use Rattle.checks.proofs.trees.entries.Goals as goal

pub returns-then-up-v : goal.returns-then-up-v
returns-then-up-v c = search (refused_here, le-leb)

pub returns : goal.returns
returns c = search refused_none
