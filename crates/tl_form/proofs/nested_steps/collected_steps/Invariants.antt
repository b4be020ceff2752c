use Rattle.std.proofs.Common.{[], take}
use Rattle.std.specs.List.{flat_map}
use Rattle.tl_table.specs.declared.cell.TableCell.{out-TableCell}
use Rattle.tl_table.specs.Tables.{tables_in}
use Rattle.tl_form.specs.inner.Collecting.{Collects}
use Rattle.tl_form.proofs.nested_steps.collected_steps.Given as goal

abbrev pub invariant-loop-cell : goal.invariant-loop-cell
invariant-loop-cell l =
    Collects l.style l.page l.sections (flat_map (λ cell. tables_in (out-TableCell cell)) (take l.cell-index l.cell-items))
    [] l.inner
