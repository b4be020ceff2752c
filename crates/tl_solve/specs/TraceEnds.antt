-- The end of a search of which only the cuts and the best placement are kept.
use Rattle.std.specs.Prelude.{List}
use Rattle.std.specs.List.{All}
use Rattle.tl_problem.specs.declared.placed.Placed.{Placed}
use Rattle.tl_problem.specs.Problem.{ProblemModel}
use Rattle.tl_problem.specs.Placements.{IsOpening}
use Rattle.tl_cert.specs.declared.trace.CutAt.{CutAt}
use Rattle.tl_solve.specs.Arenas.{HasBoundBelow}

-- each zone that was cut had a bound below the height of the opening
abbrev pub CutsBelowOpening : ProblemModel → List CutAt → Type 0
CutsBelowOpening problem trace =
    (opening : Placed) × IsOpening problem opening × All (λ cut. HasBoundBelow problem trace cut.zone opening.height) trace
