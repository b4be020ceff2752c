-- Laws of least heights, true problems and counts: where a layout fits there are all of these; with the page counts rise and
-- least heights fall. Each is the contract of a function of `problem_laws`.
use Rattle.std.specs.Prelude.{ℕ, ◌≤◌}
use Rattle.tl_base.specs.declared.style.Style.{Style}
use Rattle.tl_problem.specs.Problem.{ProblemModel}
use Rattle.tl_table.specs.declared.cell.Table.{Table}
use Rattle.tl_table.specs.declared.layout.Layout.{Layout}
use Rattle.tl_table.specs.Layouts.{Fits}
use Rattle.tl_table.specs.Least.{IsLeastHeight}
use Rattle.tl_table.specs.Sound.{IsSound}
use Rattle.tl_form.specs.Problems.{IsCount, IsCountAll, IsTrueProblem}

-- on a wider page a table has at least as many ways
abbrev pub CountsRise : Type 0
CountsRise = (table : Table) (style : Style) (narrow wide few many : ℕ) → narrow ≤ wide → IsCount table style narrow few →
    IsCount table style wide many → few ≤ many

-- a sound table that fits a page has a least height there
abbrev pub LeastHeightsExist : Type 0
LeastHeightsExist = (table : Table) (style : Style) (page height : ℕ) (layout : Layout) → IsSound table →
    Fits table style page height layout → (least : ℕ) × IsLeastHeight table style page least

-- a sound table that fits a page has a true problem there
abbrev pub TrueProblemsExist : Type 0
TrueProblemsExist = (table : Table) (style : Style) (page height : ℕ) (layout : Layout) → IsSound table →
    Fits table style page height layout → (problem : ProblemModel) × IsTrueProblem table style page problem

-- for a sound table that fits a page there is a greatest count of it and of all tables nested in it
abbrev pub CountsExist : Type 0
CountsExist = (table : Table) (style : Style) (page height : ℕ) (layout : Layout) → IsSound table →
    Fits table style page height layout → (most : ℕ) × IsCountAll table style page most

-- on a wider page the greatest count of a table and of all tables nested in it is at least as great; so on one page there is
-- only one
abbrev pub AllCountsRise : Type 0
AllCountsRise = (table : Table) (style : Style) (narrow wide few many : ℕ) → narrow ≤ wide →
    IsCountAll table style narrow few →
    IsCountAll table style wide many → few ≤ many

-- on a wider page the least height of a table is no greater
abbrev pub LeastHeightsFall : Type 0
LeastHeightsFall = (table : Table) (style : Style) (narrow wide high low : ℕ) → narrow ≤ wide →
    IsLeastHeight table style narrow high →
    IsLeastHeight table style wide low → low ≤ high
