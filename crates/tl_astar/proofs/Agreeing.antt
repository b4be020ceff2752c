-- Cells of the same steps by `low` and by `high` need the same at each width of the page.
use Rattle.std.proofs.Common.{◌≡◌, ap}
use Rattle.std.proofs.lemmas.List.Elements.{All-contains}
use Rattle.tl_base.specs.Steps.{height_at}
use Rattle.tl_problem.specs.declared.cell.Cell.{Cell}
use Rattle.tl_problem.specs.Problem.{ProblemModel}
use Rattle.tl_problem.specs.Agreement.{LowIsHigh}
use Rattle.tl_astar.specs.Best.{HaveSameSteps}

pub same-agree : (problem : ProblemModel) → HaveSameSteps problem → LowIsHigh problem
same-agree problem same cell has w within =
    ap (λ steps. height_at steps w) (All-contains (λ (c : Cell). c.low ≡ c.high) problem.cells cell same has)
