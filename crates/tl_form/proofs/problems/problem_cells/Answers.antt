use Rattle.std.proofs.Common.{◌≡◌, ◌+◌, ◌<◌, ◌≤◌, length, get_or, subst, sym, take}
use Rattle.std.specs.List.{AllZip}
use Rattle.tl_base.specs.declared.limits.TheConstants.{MAX_HEIGHT}
use Rattle.tl_table.specs.declared.cell.Table.{out-Table}
use Rattle.tl_table.specs.declared.cell.TableCell.{out-TableCell}
use Rattle.tl_form.specs.declared.heights.HeightBound.TheVariants.{Low, High}
use Rattle.tl_form.specs.Problems.{IsCellBy, inside_of}
use Rattle.tl_table.specs.Tables.{place_of, tables_in}
use Rattle.tl_form.specs.inner.CellSteps.{HaveSteps, IsLowByBoth, NeedsBy}
use Rattle.std.proofs.lemmas.List.{take_all}
use Rattle.tl_form.proofs.ProblemCells.{cells-more, few-inside, have-each}
use Rattle.tl_table.proofs.SoundParts.{at_item}
use Rattle.tl_form.proofs.problems.problem_cells.Goals as goal

-- each place has a row
pub lines_inside-lines-requires : goal.lines_inside-lines-requires
lines_inside-lines-requires c =
    let few = at_item (λ cell. ((place_of cell).top < (place_of cell).bottom)
    × (inside_of c.args.style (out-Table c.args.table.now) cell ≤ MAX_HEIGHT))
    (out-Table c.args.table.now).cells c.loop-cell.cell-index
    c.cell-item.result (few-inside c.args.style c.args.table.now c.requires.sound)
    (subst (λ items. c.loop-cell.cell-index < length items) c.as_slice-cell-items.ensures c.loop-cell-test.true)
    (subst (λ items. c.cell-item.result ≡ get_or items c.loop-cell.cell-index c.cell-item.result)
    c.as_slice-cell-items.ensures c.cell-item.is) in
    few.0

pub problem_cell-requires-clause-steps : goal.problem_cell-requires-clause-steps
problem_cell-requires-clause-steps c =
    at_item (λ cell. HaveSteps c.args.inner.now (tables_in (out-TableCell cell)))
    (out-Table c.args.table.now).cells c.loop-cell.cell-index
    c.cell-item.result (have-each c.args.inner.now c.args.table.now c.requires.steps)
    (subst (λ items. c.loop-cell.cell-index < length items) c.as_slice-cell-items.ensures c.loop-cell-test.true)
    (subst (λ items. c.cell-item.result ≡ get_or items c.loop-cell.cell-index c.cell-item.result)
    c.as_slice-cell-items.ensures c.cell-item.is)

-- with few lines inside
pub problem_cell-requires-clause-few : goal.problem_cell-requires-clause-few
problem_cell-requires-clause-few c =
    let few = at_item (λ cell. ((place_of cell).top < (place_of cell).bottom)
    × (inside_of c.args.style (out-Table c.args.table.now) cell ≤ MAX_HEIGHT))
    (out-Table c.args.table.now).cells c.loop-cell.cell-index
    c.cell-item.result (few-inside c.args.style c.args.table.now c.requires.sound)
    (subst (λ items. c.loop-cell.cell-index < length items) c.as_slice-cell-items.ensures c.loop-cell-test.true)
    (subst (λ items. c.cell-item.result ≡ get_or items c.loop-cell.cell-index c.cell-item.result)
    c.as_slice-cell-items.ensures c.cell-item.is) in
    subst (λ lines. lines ≤ MAX_HEIGHT)
    (sym (c.lines_inside-lines.ensures (out-Table c.args.table.now) (sym c.head_end-end.ensures))) few.1

pub returns-in_default : goal.returns-in_default
returns-in_default c = λ low.
    let inside = inside_of c.args.style (out-Table c.args.table.now) in
    (rw c.in_default.is at c.in_ok-made.ensures)
    (subst (λ lines. IsLowByBoth c.args.inner.now c.args.page lines (out-TableCell c.cell-item.result))
    (sym (c.lines_inside-lines.ensures (out-Table c.args.table.now) (sym c.head_end-end.ensures)))
    (at_item (λ cell. IsLowByBoth c.args.inner.now c.args.page (inside cell) (out-TableCell cell))
    (out-Table c.args.table.now).cells c.loop-cell.cell-index
    c.cell-item.result low
    (subst (λ items. c.loop-cell.cell-index < length items) c.as_slice-cell-items.ensures c.loop-cell-test.true)
    (subst (λ items. c.cell-item.result ≡ get_or items c.loop-cell.cell-index c.cell-item.result)
    c.as_slice-cell-items.ensures c.cell-item.is)))

pub loop-cell-preserved : goal.loop-cell-preserved
loop-cell-preserved c =
    let cells = (out-Table c.args.table.now).cells in
    let inside = inside_of c.args.style (out-Table c.args.table.now) in
    let i = c.loop-cell.cell-index in
    subst (λ made. AllZip (λ cell one. IsCellBy (NeedsBy Low c.args.inner.now) (NeedsBy High c.args.inner.now) c.args.page
    (inside cell) (out-TableCell cell) one)
    (take (i + 1) cells) made) (sym c.in_ok-push.ensures.items)
    (cells-more c.args.inner.now c.args.page inside cells i c.cell-item.result c.loop-cell.cells.items c.in-Some.made
    (subst (λ items. c.loop-cell.cell-index < length items) c.as_slice-cell-items.ensures c.loop-cell-test.true)
    (subst (λ items. c.cell-item.result ≡ get_or items c.loop-cell.cell-index c.cell-item.result)
    c.as_slice-cell-items.ensures c.cell-item.is)
    c.loop-cell.invariant
    (subst (λ lines. IsCellBy (NeedsBy Low c.args.inner.now) (NeedsBy High c.args.inner.now) c.args.page lines
    (out-TableCell c.cell-item.result) c.in-Some.made)
    (c.lines_inside-lines.ensures (out-Table c.args.table.now) (sym c.head_end-end.ensures))
    (rw c.in-Some.is at c.in_ok-made.ensures)))

pub returns : goal.returns
returns c =
    rw c.from_vec.ensures
    (subst (λ cells. AllZip (λ cell made. IsCellBy (NeedsBy Low c.args.inner.now) (NeedsBy High c.args.inner.now) c.args.page
    (inside_of c.args.style (out-Table c.args.table.now) cell) (out-TableCell cell) made)
    cells c.loop-cell.cells.items)
    (take_all c.loop-cell.cell-index (out-Table c.args.table.now).cells
    (subst (λ items. length items ≤ c.loop-cell.cell-index) c.as_slice-cell-items.ensures c.loop-cell-test.false))
    c.loop-cell.invariant)
