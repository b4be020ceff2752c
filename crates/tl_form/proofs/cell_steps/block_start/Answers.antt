use Rattle.std.proofs.Common.{ap, ◌∙◌}
use Rattle.tl_table.specs.declared.cell.Content.{out-Content}
use Rattle.tl_table.specs.declared.cell.Content.TheVariants.{outs-Para, outs-Table}
use Rattle.tl_form.specs.inner.CellSteps.{NeedsBy, bound_of}
use Rattle.tl_form.proofs.CellNeedLemmas.{paragraph-begins, table-begins}
use Rattle.tl_form.proofs.cell_steps.block_start.Goals as goal

pub returns-in-Para : goal.returns-in-Para
returns-in-Para c =
    paragraph-begins (NeedsBy c.args.bound c.args.inner.now) (out-Content c.args.block.now)
    c.in-Para.paragraph c.least_width.result
    (ap out-Content c.in-Para.is ∙ outs-Para c.in-Para.paragraph) c.least_width.ensures.holds c.least_width.ensures.least

pub returns-in-Table : goal.returns-in-Table
returns-in-Table c =
    table-begins (bound_of c.args.bound) c.args.inner.now (out-Content c.args.block.now)
    c.in-Table.table c.deref.result.now c.bound_for.result.now
    c.start_of.result (ap out-Content c.in-Table.is ∙ outs-Table c.in-Table.table)
    c.deref.ensures c.bound_for.ensures c.start_of.ensures
