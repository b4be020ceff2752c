use Rattle.std.proofs.Common.{take}
use Rattle.std.specs.List.{AllByRecursion}
use Rattle.tl_table.specs.declared.cell.Content.{out-Content}
use Rattle.tl_table.specs.Tables.{tables_of}
use Rattle.tl_form.specs.inner.CellSteps.{HaveSteps}
use Rattle.tl_form.proofs.heights.cell_has_steps.Given as goal

abbrev pub invariant-loop-block : goal.invariant-loop-block
invariant-loop-block l = AllByRecursion (λ block. HaveSteps l.inner (tables_of (out-Content block)))
    (take l.block-index l.cell.blocks)
