use Rattle.std.proofs.Common.{◌-◌}
use Rattle.tl_search_tests.proofs.problems.drawn_row.Given as goal

abbrev pub decreases-loop-column : goal.decreases-loop-column
decreases-loop-column l = l.cols - l.column
