-- One bound more is implied, is the one that is left, or is left too.
use Rattle.tl_problem.specs.Works.{AreAllowed}
use Rattle.tl_check.proofs.LeftLaws.{left-implied, left-first, left-again, left-second, left-more}
use Rattle.tl_check.proofs.left.left_with.Goals as goal

pub returns-then-is_implied : goal.returns-then-is_implied
returns-then-is_implied c = λ nogood has.
    left-implied c.args.problem.now (AreAllowed c.args.problem.now c.args.matrix.now.bounds) nogood c.args.bound c.args.left
    (c.is_implied.ensures.0 c.if-is_implied.true) has

pub returns-in-Nothing : goal.returns-in-Nothing
returns-in-Nothing c = rw c.in-Nothing.is (λ nogood has.
    left-first c.args.problem.now (AreAllowed c.args.problem.now c.args.matrix.now.bounds) nogood c.args.bound
    (λ implied. let yes = c.is_implied.ensures.1 implied in cc) has)

pub returns-in-One : goal.returns-in-One
returns-in-One c = rw c.in-One.is (λ nogood has.
    left-again c.args.problem.now (AreAllowed c.args.problem.now c.args.matrix.now.bounds) nogood c.args.bound c.in-One.other
    (c.is_same.ensures.0 c.if-is_same.true) has)

pub returns-in-One-2 : goal.returns-in-One-2
returns-in-One-2 c = rw c.in-One.is (λ nogood has.
    left-second c.args.problem.now (AreAllowed c.args.problem.now c.args.matrix.now.bounds) nogood c.args.bound c.in-One.other
    (λ same. let yes = c.is_same.ensures.1 same in cc) (λ implied. let yes = c.is_implied.ensures.1 implied in cc) has)

pub returns-in-More : goal.returns-in-More
returns-in-More c = rw c.in-More.is (λ nogood has.
    left-more c.args.problem.now (AreAllowed c.args.problem.now c.args.matrix.now.bounds) nogood c.args.bound has)
