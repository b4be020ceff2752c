use Rattle.std.proofs.Common.{take}
use Rattle.std.specs.List.{AllZip}
use Rattle.tl_table.specs.declared.cell.TableCell.{out-TableCell}
use Rattle.tl_form.specs.declared.heights.HeightBound.TheVariants.{Low, High}
use Rattle.tl_form.specs.Problems.{IsCellBy, inside_of}
use Rattle.tl_table.specs.declared.cell.Table.{out-Table}
use Rattle.tl_form.specs.inner.CellSteps.{NeedsBy}
use Rattle.tl_form.proofs.problems.problem_cells.Given as goal

abbrev pub invariant-loop-cell : goal.invariant-loop-cell
invariant-loop-cell l =
    AllZip (λ cell made. IsCellBy (NeedsBy Low l.inner) (NeedsBy High l.inner) l.page (inside_of l.style (out-Table l.table) cell)
    (out-TableCell cell) made)
    (take l.cell-index (out-Table l.table).cells) l.cells.items
