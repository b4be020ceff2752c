-- What the plain search promises besides what every search does.
use Rattle.tl_problem.specs.Problem.{ProblemModel}
use Rattle.tl_problem.specs.declared.placed.Placed.{Placed}
use Rattle.tl_problem.specs.Placements.{IsOpening}
use Rattle.tl_solve.specs.declared.outcome.Outcome.{Outcome}
use Rattle.tl_solve.specs.Arenas.{IsLowered}
use Rattle.tl_solve.specs.Orders.{CutsFirstSpans, CutsBelowPlacements, IsInClassOrder}
use Rattle.tl_solve.specs.TraceLogs.{IsTraceLog}

-- the search began with the opening and replaced it only by lower placements. It cut zones in the order of their classes,
-- each at its first span of more than one class, after the first of them, and none with a bound at or above the height of a
-- placement that was made before. Its log is the one that is made for its trace
pub record IsPlainOutcome (problem : ProblemModel) (outcome : Outcome) : Type 0 where
  pub opening : (placed : Placed) × IsOpening problem placed × IsLowered placed outcome.best
  pub spans : CutsFirstSpans problem outcome.trace
  pub below : CutsBelowPlacements problem outcome.trace
  pub order : IsInClassOrder outcome.trace
  pub log : IsTraceLog problem outcome.trace outcome.lower outcome.log
