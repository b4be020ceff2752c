-- A law of the definitions, which is the contract of a function of `laws`.
use Rattle.tl_problem.specs.Problem.{ProblemModel}
use Rattle.tl_problem.specs.Agreement.{LowIsHigh}
use Rattle.tl_astar.specs.Best.{HaveSameSteps}

-- if each cell has the same steps by `low` and by `high`, then `low` is `high` on the page; the steps of cells for which
-- `low` is `high` there may still differ past it
abbrev pub SameStepsAgree : Type 0
SameStepsAgree = (problem : ProblemModel) → HaveSameSteps problem → LowIsHigh problem
