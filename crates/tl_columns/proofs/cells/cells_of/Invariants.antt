use Rattle.std.proofs.Common.{take}
use Rattle.std.specs.List.{enumerate_from, flat_map}
use Rattle.tl_columns.specs.Columns.{placed_in}
use Rattle.tl_columns.proofs.TextCells.{AreCellsOf}
use Rattle.tl_columns.proofs.cells.cells_of.Given as goal

abbrev pub invariant-loop-row : goal.invariant-loop-row
invariant-loop-row l = AreCellsOf l.form.head l.form.least.now l.form.breaking
    (flat_map (λ one. placed_in one.0 one.1) (take l.row (enumerate_from 0 l.records))) l.cells
