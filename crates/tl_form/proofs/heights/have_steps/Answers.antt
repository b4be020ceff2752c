use Rattle.std.proofs.Common.{◌≡◌, ◌<◌, ◌≤◌, length, get_or, refl, subst, sym, ◌∙◌}
use Rattle.std.specs.List.{AllByRecursion}
use Rattle.std.proofs.lemmas.List.{take_all}
use Rattle.tl_base.proofs.Taken.{AllByRecursion-taken}
use Rattle.tl_table.specs.declared.cell.Table.{out-Table}
use Rattle.tl_table.specs.declared.cell.TableCell.{out-TableCell}
use Rattle.tl_table.specs.Tables.{tables_in}
use Rattle.tl_form.specs.inner.CellSteps.{HaveSteps}
use Rattle.tl_table.proofs.SoundParts.{at_item}
use Rattle.tl_form.proofs.ProblemCells.{each-have, have-each}
use Rattle.tl_form.proofs.heights.have_steps.Goals as goal

pub returns-then-not-cell_has_steps : goal.returns-then-not-cell_has_steps
returns-then-not-cell_has_steps c = (
  λ yes. absurd cc,
  λ have. sym c.if-not-cell_has_steps.true ∙ c.cell_has_steps.ensures.1
      (at_item (λ cell. HaveSteps c.args.inner.now (tables_in (out-TableCell cell)))
      (out-Table c.args.table.now).cells c.loop-cell.cell-index
      c.cell-item.result (have-each c.args.inner.now c.args.table.now have)
      (subst (λ items. c.loop-cell.cell-index < length items) c.as_slice-cell-items.ensures c.loop-cell-test.true)
      (subst (λ items. c.cell-item.result ≡ get_or items c.loop-cell.cell-index c.cell-item.result)
      c.as_slice-cell-items.ensures c.cell-item.is)),
)

pub loop-cell-preserved : goal.loop-cell-preserved
loop-cell-preserved c =
    AllByRecursion-taken (λ cell. HaveSteps c.args.inner.now (tables_in (out-TableCell cell)))
    (out-Table c.args.table.now).cells c.loop-cell.cell-index
    c.cell-item.result c.cell-item.result
    (subst (λ items. c.loop-cell.cell-index < length items) c.as_slice-cell-items.ensures c.loop-cell-test.true)
    (subst (λ items. c.cell-item.result ≡ get_or items c.loop-cell.cell-index c.cell-item.result)
    c.as_slice-cell-items.ensures c.cell-item.is)
    c.loop-cell.invariant (c.cell_has_steps.ensures.0 c.if-not-cell_has_steps.false)

pub returns : goal.returns
returns c = (
  λ yes. each-have c.args.inner.now c.args.table.now
      (subst (AllByRecursion (λ cell. HaveSteps c.args.inner.now (tables_in (out-TableCell cell))))
      (take_all c.loop-cell.cell-index (out-Table c.args.table.now).cells
      (subst (λ items. length items ≤ c.loop-cell.cell-index) c.as_slice-cell-items.ensures c.loop-cell-test.false))
      c.loop-cell.invariant),
  λ have. refl,
)
