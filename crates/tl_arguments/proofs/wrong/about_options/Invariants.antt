-- Fewer words are left.
use Rattle.std.proofs.Common.{length}
use Rattle.tl_arguments.proofs.wrong.about_options.Given as goal

abbrev pub decreases-loop-option : goal.decreases-loop-option
decreases-loop-option l = length l.rest
