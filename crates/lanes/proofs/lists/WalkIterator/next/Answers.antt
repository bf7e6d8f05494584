-- `next` of a walk meets its contract: a step stays on lists and goes down in number.
use borrow.Author.Rules.{rules}
use Rattle.lanes.proofs.Stepping.{step_in, step_begins, step_less}
use Rattle.lanes.proofs.lists.WalkIterator.next.Goals as goal

pub at-self-requires : goal.at-self-requires
at-self-requires c = let (s, e) = c.in_ok-v.ensures in step_in _ c.args.self.now.begins s e

pub invariant_of-self-clause-begins : goal.invariant_of-self-clause-begins
invariant_of-self-clause-begins c = let (s, e) = c.in_ok-v.ensures in step_begins _ c.args.self.now.begins s e c.args.self.now.falls c.at-self.ensures

pub returns-clause-goes : goal.returns-clause-goes
returns-clause-goes c =
    let (s, e) = c.in_ok-v.ensures in
    let less = step_less _ c.args.self.now.begins s e c.args.self.now.falls c.at-self.ensures in
    search rules
