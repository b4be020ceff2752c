-- What a search in rounds promises besides what every search does.
use Rattle.std.specs.Prelude.{ℕ}
use Rattle.tl_problem.specs.declared.placed.Placed.{Placed}
use Rattle.tl_problem.specs.Problem.{ProblemModel}
use Rattle.tl_problem.specs.Placements.{IsOpening}
use Rattle.tl_solve.specs.declared.outcome.Outcome.{Outcome}
use Rattle.tl_solve.specs.Arenas.{IsLowered}
use Rattle.tl_solve.specs.TraceLogs.{IsTraceLog}
use Rattle.tl_rounds.specs.MadeOfRounds.{IsMadeOfRounds}

-- the search began with the opening and replaced it only by lower placements. Its trace is made of rounds for so many workers,
-- its budget and the height of its placement, and its log is the one that is made for its trace
pub record IsRoundsOutcome (workers : ℕ) (problem : ProblemModel) (budget : ℕ) (outcome : Outcome) : Type 0 where
  pub opening : (placed : Placed) × IsOpening problem placed × IsLowered placed outcome.best
  pub rounds : IsMadeOfRounds problem workers budget outcome.best.height outcome.trace
  pub log : IsTraceLog problem outcome.trace outcome.lower outcome.log
