-- The open zones have lines for the lower bound.
use Rattle.tl_branch.proofs.Ends.{grown-ended, grown-least, grown-open}
use Rattle.tl_branch.proofs.Learnings.{learning-lower}
use Rattle.std.proofs.Common.{arith}
use Rattle.tl_branch.proofs.learning.Learning.finish.Goals as goal

pub write_open-requires-clause-learning : goal.write_open-requires-clause-learning
write_open-requires-clause-learning c = learning-lower c.args.problem.now c.args.self c.requires.learning
    c.in_ok-learning.field-0 (omega (arith, c.in_ok-learning.ensures.at_most, c.requires.height))

pub into_outcome-requires-2-clause-ended : goal.into_outcome-requires-2-clause-ended
into_outcome-requires-2-clause-ended c = grown-ended c.args.problem.now c.args.self c.requires.learning c.in_ok-learning.field-0
    c.in_ok-learning.ensures c.write_open.new.self c.in_ok-write_open.ensures.grown (c.requires.ended c.if-self.false)

pub into_outcome-requires-2-clause-least : goal.into_outcome-requires-2-clause-least
into_outcome-requires-2-clause-least c = grown-least c.args.problem.now c.args.self c.requires.learning c.in_ok-learning.field-0
    c.in_ok-learning.ensures c.write_open.new.self c.in_ok-write_open.ensures.grown (c.requires.ended c.if-self.false)

pub into_outcome-requires-2-clause-enough : goal.into_outcome-requires-2-clause-enough
into_outcome-requires-2-clause-enough c = grown-open c.args.problem.now c.args.self c.requires.learning c.in_ok-learning.field-0
    c.in_ok-learning.ensures c.write_open.new.self c.in_ok-write_open.ensures.grown
