use Rattle.std.proofs.Common.{◌≡◌, ◌<◌, [], get_or, length, subst}
use Rattle.tl_table.specs.declared.cell.Table.{out-Table}
use Rattle.tl_table.specs.declared.cell.TableCell.{out-TableCell}
use Rattle.tl_table.specs.Tables.{tables_in}
use Rattle.tl_table.specs.Sound.{IsSoundCell}
use Rattle.tl_form.specs.inner.Collecting.{Collects}
use Rattle.tl_form.proofs.Collected.{collects_more, table_lacks}
use Rattle.tl_table.proofs.SoundParts.{sound_cells, at_item}
use Rattle.tl_form.proofs.nested_steps.collected_steps.Goals as goal

pub steps_in_cell-requires-clause-sound : goal.steps_in_cell-requires-clause-sound
steps_in_cell-requires-clause-sound c =
    at_item (λ cell. IsSoundCell (out-TableCell cell)) (out-Table c.args.table.now).cells c.loop-cell.cell-index
    c.cell-item.result
    (sound_cells c.args.table.now c.requires.sound)
    (subst (λ items. c.loop-cell.cell-index < length items) c.as_slice-cell-items.ensures c.loop-cell-test.true)
    (subst (λ items. c.cell-item.result ≡ get_or items c.loop-cell.cell-index c.cell-item.result)
    c.as_slice-cell-items.ensures c.cell-item.is)

pub returns-in_default : goal.returns-in_default
returns-in_default c =
    table_lacks c.args.style c.args.page c.args.sections.now (λ cell. tables_in (out-TableCell cell))
    (out-Table c.args.table.now).cells
    c.as_slice-cell-items.result.now c.loop-cell.cell-index c.cell-item.result c.as_slice-cell-items.ensures
    c.loop-cell-test.true c.cell-item.is
    (rw (c.in_ok-more.was, c.in_default.is) at c.steps_in_cell.ensures)

pub loop-cell-preserved : goal.loop-cell-preserved
loop-cell-preserved c =
    let found : Collects c.args.style c.args.page c.args.sections.now (tables_in (out-TableCell c.cell-item.result))
    c.loop-cell.inner c.in-Some.more =
    rw c.in-Some.is at c.in_ok-more.ensures in
    collects_more c.args.style c.args.page c.args.sections.now (λ cell. tables_in (out-TableCell cell))
    c.as_slice-cell-items.result.now
    c.loop-cell.cell-index c.cell-item.result [] c.loop-cell.inner c.in-Some.more found.more c.loop-cell-test.true c.cell-item.is
    c.loop-cell.invariant found.each found.joined
