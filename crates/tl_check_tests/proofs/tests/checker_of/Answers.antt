-- The checker stays reserved.
use Rattle.tl_check_tests.proofs.tests.checker_of.Goals as goal

pub returns-clause-reserved : goal.returns-clause-reserved
returns-clause-reserved c = c.trace.ensures.stays _ (rw c.len-2.ensures at c.in_ok-checker.ensures)
