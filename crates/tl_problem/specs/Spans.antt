-- The column spans of a problem's cells, and the classes of each span's widths. Within a class no cell of the span needs
-- another height, so that only the class matters for the heights.
use Rattle.std.specs.Prelude.{ℕ, ◌+◌, ◌-◌, ◌*◌, ◌^◌, min, max, Bool, ◌==◌, ◌&&◌, List, [], ◌∷◌, ◌++◌, length, map, filter}
use Rattle.std.specs.List.{list_any, flat_map, range_with_len}
use Rattle.tl_base.specs.Steps.{first_width}
use Rattle.tl_problem.specs.declared.cell.Cell.{Cell}
use Rattle.tl_problem.specs.declared.cell.Span.{Span}
use Rattle.tl_problem.specs.Problem.{ProblemModel}

-- the span of the columns from `left` on and before `right`
abbrev pub span : ℕ → ℕ → Span
span left right = record { left = left; right = right }

-- whether the cell covers exactly the columns of the span
abbrev pub has_span : Span → Cell → Bool
has_span columns cell = (cell.left == columns.left) && (cell.right == columns.right)

-- all spans of so many columns, by left, then right
abbrev pub all_spans : ℕ → List Span
all_spans cols = flat_map (λ left. map (span left) (range_with_len (left + 1) (cols - left))) (range_with_len 0 cols)

-- the distinct spans of the cells, by left, then right
unfoldable pub spans_of : ProblemModel → List Span
spans_of problem = filter (λ columns. list_any (has_span columns) problem.cells) (all_spans problem.cols)

-- the greatest of some numbers, 0 where there is none
abbrev pub greatest : List ℕ → ℕ
greatest [] = 0
greatest (n ∷ more) = max n (greatest more)

-- the cells of a span
abbrev pub cells_of : ProblemModel → Span → List Cell
cells_of problem columns = filter (has_span columns) problem.cells

-- the least width at which each cell of the span has a height
abbrev pub least_width : ProblemModel → Span → ℕ
least_width problem columns = greatest (map (λ cell. first_width cell.low) (cells_of problem columns))

-- the room that the page has for the columns
abbrev pub page_room : ProblemModel → ℕ
page_room problem = problem.width - problem.spacing.edges

-- whether `low` or `high` of a cell of the span has a step that begins at this width
abbrev pub begins_step : ProblemModel → Span → ℕ → Bool
begins_step problem columns w =
    list_any (λ cell. list_any (λ step. step.width == w) (cell.low ++ cell.high)) (cells_of problem columns)

-- the first widths of the span's classes: the least width, and each further width of the page at which a step begins
unfoldable pub classes_of : ProblemModel → Span → List ℕ
classes_of problem columns =
    let least = least_width problem columns in
    least ∷ filter (begins_step problem columns) (range_with_len (least + 1) (page_room problem - least))

-- the product of some numbers
abbrev pub product : List ℕ → ℕ
product [] = 1
product (n ∷ more) = n * product more

-- how many ways there are to give each span a class, counted up to the last number of 64 bits
abbrev pub count_of : ProblemModel → ℕ
count_of problem = min (product (map (λ columns. length (classes_of problem columns)) (spans_of problem))) (2 ^ 64 - 1)
