-- A bound more, where there is one.
use Rattle.tl_check.proofs.left.left_with_some.Goals as goal

pub returns-in-Some : goal.returns-in-Some
returns-in-Some c = rw c.in-Some.is (λ nogood has. c.left_with.ensures nogood has)
