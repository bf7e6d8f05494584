-- The iterator of `plan::Plan` gives the first batch, and what is left is a plan again.
use Rattle.std.proofs.Common.{rules, ap, length}
use Rattle.writer.specs.Lent.{parts}
use Rattle.writer.proofs.Cutting.{none_left, cut_inside, cut_left, cut_off}
use Rattle.writer.proofs.plan.PlanIterator.next.Goals as goal

pub returns-in_err-k-clause-steps : goal.returns-in_err-k-clause-steps
returns-in_err-k-clause-steps c = let e = none_left c.args.self.now c.in_err-k.ensures.cases in rw c.from_residual.ensures (e, e)

pub split_at-requires : goal.split_at-requires
split_at-requires c = cut_inside c.args.self.now c.in_ok-k.ensures.cases.0

pub invariant_of-self : goal.invariant_of-self
invariant_of-self c =
    let (bytes, sum) = cut_left c.args.self.now c.in_ok-k.ensures.cases.0 c.in_ok-report.ensures.cases.0 c.split_at.ensures.back in record { bytes = bytes; sum = sum }

pub returns-clause-steps : goal.returns-clause-steps
unfolding parts
returns-clause-steps c = cut_off c.args.self.now c.in_ok-k.ensures.cases.0 c.in_ok-report.ensures.cases.0 c.split_at.ensures.back c.split_at.ensures.front

pub returns-clause-goes : goal.returns-clause-goes
unfolding parts
returns-clause-goes c =
    let e = cut_off c.args.self.now c.in_ok-k.ensures.cases.0 c.in_ok-report.ensures.cases.0 c.split_at.ensures.back c.split_at.ensures.front in
    let shorter = ap length e in search rules
