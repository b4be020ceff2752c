-- What a search sees of a table: a grid of cells on a page of some width, each with the heights that it needs at its
-- widths. A cell covers the columns from `left` on and before `right`, and the rows from `top` on and before `bottom`.
use Rattle.std.specs.Prelude.{ℕ, List}
use Rattle.tl_base.specs.declared.spacing.Spacing.{Spacing}
use Rattle.tl_problem.specs.declared.cell.Cell.{Cell}
use Rattle.tl_base.specs.Sizes.{room, total}

-- so many columns and rows, how far they stand apart, the width of the page, and the cells
pub record ProblemModel : Type 0 where
  pub cols : ℕ
  pub rows : ℕ
  pub spacing : Spacing
  pub width : ℕ
  pub cells : List Cell

-- the total width of columns of these widths: the widths, the gaps between columns and the edges
abbrev pub total_width : ProblemModel → List ℕ → ℕ
total_width problem widths = total problem.spacing.gap problem.spacing.edges widths

-- the total height of rows of these heights: the heights, the gaps between rows and the lines beside them
abbrev pub total_height : ProblemModel → List ℕ → ℕ
total_height problem heights = total problem.spacing.row_gap problem.spacing.lines heights

-- the room that columns of these widths give a cell: the widths of those that it covers, and the gaps between them
abbrev pub cell_width : ProblemModel → List ℕ → Cell → ℕ
cell_width problem widths cell = room problem.spacing.gap widths cell.left cell.right

-- the room that rows of these heights give a cell: the heights of those that it covers, and the gaps between them
abbrev pub cell_height : ProblemModel → List ℕ → Cell → ℕ
cell_height problem heights cell = room problem.spacing.row_gap heights cell.top cell.bottom
