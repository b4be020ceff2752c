-- A bound more, where there is one.
use Rattle.tl_check.proofs.Leaving.{Describes-met}
use Rattle.std.proofs.Common.{[]}
use Rattle.tl_check.proofs.ranges.keep_some.Goals as goal

pub returns-in-Some-clause-describes : goal.returns-in-Some-clause-describes
returns-in-Some-clause-describes c = rw c.in-Some.is (λ given has.
    Describes-met c.args.problem.now given [] c.args.matrix.now c.keep_met.new.matrix c.in-Some.bound has c.keep_met.ensures)
