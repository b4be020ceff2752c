-- What is left of the line is trimmed as the line is.
use Rattle.std.proofs.Common.{◌≡◌, length}
use Rattle.tl_page.specs.Trimmed.{trimmed}
use Rattle.tl_page.proofs.trim.trimmed.Given as goal

abbrev pub invariant-loop-last : goal.invariant-loop-last
invariant-loop-last l = trimmed l.rest ≡ trimmed l.line

abbrev pub decreases-loop-last : goal.decreases-loop-last
decreases-loop-last l = length l.rest
