use Rattle.std.proofs.Common.{take}
use Rattle.std.specs.List.{AllByRecursion}
use Rattle.tl_table.specs.declared.cell.Table.{out-Table}
use Rattle.tl_table.specs.declared.cell.TableCell.{out-TableCell}
use Rattle.tl_table.specs.Tables.{tables_in}
use Rattle.tl_form.specs.inner.CellSteps.{HaveSteps}
use Rattle.tl_form.proofs.heights.have_steps.Given as goal

abbrev pub invariant-loop-cell : goal.invariant-loop-cell
invariant-loop-cell l = AllByRecursion (λ cell. HaveSteps l.inner (tables_in (out-TableCell cell)))
    (take l.cell-index (out-Table l.table).cells)
