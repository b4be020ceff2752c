use Rattle.std.proofs.Common.{take}
use Rattle.std.specs.List.{flat_map}
use Rattle.tl_table.specs.declared.cell.Content.{out-Content}
use Rattle.tl_table.specs.Tables.{tables_of}
use Rattle.tl_form.specs.inner.Collecting.{Collects}
use Rattle.tl_form.proofs.nested_steps.steps_in_cell.Given as goal

abbrev pub invariant-loop-block : goal.invariant-loop-block
invariant-loop-block l =
    Collects l.style l.page l.sections (flat_map (λ block. tables_of (out-Content block)) (take l.block-index l.block-items))
    l.fn.inner l.inner
