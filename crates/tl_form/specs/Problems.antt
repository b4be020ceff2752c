-- The problem of a table: what a search sees of it. Each cell needs at a width as many lines of its rows as its blocks need there,
-- one under the other, less the lines between its rows, which it has beside them; it begins at its floor, or where each of its
-- blocks has a height. What a nested table needs is given from outside: as a lower bound and an upper one of each, or as it is,
-- which gives the true problem.
use Rattle.std.specs.Prelude.{◌≡◌, ℕ, ◌-◌, ◌≤◌, ◌↔◌, ◌==◌, if◌then◌else◌, List, [], ◌∷◌, Option, None, Some, IsSomeAnd, sum}
use Rattle.std.specs.List.{All, AllZip}
use Rattle.tl_base.specs.declared.style.Style.{Style}
use Rattle.tl_base.specs.declared.steps.Config.{Config}
use Rattle.tl_base.specs.Steps.{AreSteps, height_at}
use Rattle.tl_problem.specs.declared.cell.Cell.{Cell}
use Rattle.tl_problem.specs.Problem.{ProblemModel}
use Rattle.tl_problem.specs.Sound.{IsSound}
use Rattle.tl_problem.specs.Spans.{count_of}
use Rattle.tl_text.specs.Cuttings.{LeastLines}
use Rattle.tl_table.specs.declared.cell.Content.{out-Content}
use Rattle.tl_table.specs.declared.cell.Content.TheOpen as open_content
use Rattle.tl_table.specs.declared.cell.Table.{Table, out-Table}
use Rattle.tl_table.specs.declared.cell.TableCell.{TableCell, out-TableCell}
use Rattle.tl_form.specs.declared.heights.InnerSteps.{InnerSteps}
use Rattle.tl_table.specs.Tables.{OpenTable, OpenCell, OpenContent, IsAmong, place_of}
use Rattle.tl_table.specs.Layouts.{lines_inside, spacing_in}
use Rattle.tl_table.specs.Least.{IsLeastHeight}

-- ---- what a cell needs

-- a block needs `h` lines in `w` columns: a paragraph the least number of lines of its cuttings, a nested table what
-- `needs` says of it
abbrev pub BlockNeeds : (Table → ℕ → ℕ → Type 0) → OpenContent → ℕ → ℕ → Type 0
BlockNeeds needs (open_content.Para paragraph) w h = LeastLines w paragraph h
BlockNeeds needs (open_content.Table box) w h = needs box.value w h

-- a cell with `inside` lines inside its place needs `h` lines of its rows in `w` columns, no fewer than its floor: the sum of
-- what its blocks need there, less the lines inside, and none where those are enough
pub record CellNeeds (needs : Table → ℕ → ℕ → Type 0) (inside : ℕ) (cell : OpenCell) (w h : ℕ) : Type 0 where
  pub floor : cell.least ≤ w
  pub heights : List ℕ
  pub blocks : AllZip (λ block height. BlockNeeds needs (out-Content block) w height) cell.blocks heights
  pub all : sum heights - inside ≡ h

-- ---- needs as steps

-- these are the steps of what is needed on a page of so many columns: none begins past the page, and at each width up to
-- it they have the height that is needed there, and none where none is
pub record AreStepsOf (needs : ℕ → ℕ → Type 0) (page : ℕ) (steps : List Config) : Type 0 where
  pub decreasing : AreSteps steps
  pub within : All (λ step. step.width ≤ page) steps
  pub each : (w h : ℕ) → w ≤ page → (height_at steps w ≡ Some h) ↔ needs w h

-- ---- the problem

-- the cell of a problem is that of a table: it lies where that does, and has the steps of what it needs with `inside` lines
-- inside its place, by what `lows` and `highs` say of nested tables
pub record IsCellBy (lows highs : Table → ℕ → ℕ → Type 0) (page inside : ℕ) (cell : OpenCell) (made : Cell) : Type 0 where
  pub left : made.left ≡ cell.place.left
  pub right : made.right ≡ cell.place.right
  pub top : made.top ≡ cell.place.top
  pub bottom : made.bottom ≡ cell.place.bottom
  pub low : AreStepsOf (CellNeeds lows inside cell) page made.low
  pub high : AreStepsOf (CellNeeds highs inside cell) page made.high

-- how many lines of a table lie inside the place of this cell, beside those of its rows
abbrev pub inside_of : Style → OpenTable → TableCell → ℕ
inside_of style table cell = lines_inside style table (place_of cell)

-- the problem of a table on a page of `page` columns
pub record IsProblemBy (lows highs : Table → ℕ → ℕ → Type 0) (style : Style) (page : ℕ) (table : OpenTable)
    (problem : ProblemModel) : Type 0 where
  pub columns : problem.cols ≡ table.cols
  pub lines : problem.rows ≡ table.rows
  pub spaced : problem.spacing ≡ spacing_in style table
  pub wide : problem.width ≡ page
  pub made : AllZip (λ cell made. IsCellBy lows highs page (inside_of style table cell) (out-TableCell cell) made)
      table.cells problem.cells

-- ---- from bounds of nested tables

-- the first steps of the table with this number
abbrev pub steps_for : List InnerSteps → ℕ → Option InnerSteps
steps_for [] number = None
steps_for (one ∷ more) number = if one.table == number then Some one else steps_for more number

-- the steps of a nested table, `low` or `high` of them, have this height at this width
abbrev pub InnerNeeds : (InnerSteps → List Config) → List InnerSteps → Table → ℕ → ℕ → Type 0
InnerNeeds bound inner nested w h = IsSomeAnd (steps_for inner (out-Table nested).number)
    (λ one. height_at (bound one) w ≡ Some h)

-- the problem of the table on a page of `page` columns, with these steps for the tables nested directly in it
abbrev pub IsProblemOf : Table → Style → ℕ → List InnerSteps → ProblemModel → Type 0
IsProblemOf table style page inner problem = IsProblemBy (InnerNeeds (λ one. one.low) inner)
    (InnerNeeds (λ one. one.high) inner) style page (out-Table table) problem

-- with these steps the table has a sound problem
abbrev pub HasSoundProblem : Table → Style → ℕ → List InnerSteps → Type 0
HasSoundProblem table style page inner = (problem : ProblemModel) × IsProblemOf table style page inner problem
    × IsSound problem

-- ---- the true problem, and counts

-- the true problem of the table: each nested table needs the least height of its layouts
abbrev pub IsTrueProblem : Table → Style → ℕ → ProblemModel → Type 0
IsTrueProblem table style page problem = IsProblemBy (λ nested. IsLeastHeight nested style)
    (λ nested. IsLeastHeight nested style) style page (out-Table table) problem

-- how many ways the true problem has to give each span a class
abbrev pub IsCount : Table → Style → ℕ → ℕ → Type 0
IsCount table style page count = (problem : ProblemModel) × IsTrueProblem table style page problem
    × (count_of problem ≡ count)

-- the greatest count of the table and of each table nested in it, each on a page of `page` columns
pub record IsCountAll (table : Table) (style : Style) (page most : ℕ) : Type 0 where
  pub attained : (inside : Table) × IsAmong table inside × IsCount inside style page most
  pub never_more : (inside : Table) → IsAmong table inside →
      (count : ℕ) × IsCount inside style page count × (count ≤ most)
