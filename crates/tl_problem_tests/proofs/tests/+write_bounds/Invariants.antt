use Rattle.std.proofs.Common.{◌-◌}
use Rattle.tl_problem_tests.proofs.tests.+write_bounds.Given as goal

abbrev pub decreases-write_bounds : goal.decreases-write_bounds
decreases-write_bounds l = 3 - l.s
