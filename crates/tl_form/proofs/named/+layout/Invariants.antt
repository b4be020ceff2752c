use Rattle.std.proofs.Common.{take}
use Rattle.std.specs.List.{flat_map}
use Rattle.tl_table.specs.declared.cell.Content.{out-Content}
use Rattle.tl_table.specs.Tables.{tables_of}
use Rattle.tl_form.specs.inner.Naming.{LaysOut}
use Rattle.tl_form.proofs.NamedSteps.{CellsLaid}
use Rattle.tl_form.proofs.named.+layout.Given as goal

abbrev pub invariant-layout_on-loop-cell : goal.invariant-layout_on-loop-cell
invariant-layout_on-loop-cell l = CellsLaid l.style l.sections l.placed.widths (take l.cell-index l.cell-items) l.inner

abbrev pub invariant-with_cell-loop-block : goal.invariant-with_cell-loop-block
invariant-with_cell-loop-block l =
    LaysOut l.style l.sections l.room (flat_map (λ block. tables_of (out-Content block)) (take l.block-index l.block-items))
    l.initial.inner l.inner
