-- Cells by number.
use Rattle.std.specs.Prelude.{ℕ, List, [], get_or}
use Rattle.tl_problem.specs.declared.cell.Cell.{Cell}

-- what stands where there is no cell
abbrev pub no_cell : Cell
no_cell = record { left = 0; right = 0; top = 0; bottom = 0; low = []; high = [] }

-- the cell with this number
abbrev pub cell_at : List Cell → ℕ → Cell
cell_at cells k = get_or cells k no_cell
