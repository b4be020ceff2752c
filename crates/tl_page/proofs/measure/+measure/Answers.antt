-- One more block, and one more cell, takes its lines and layouts; a nested table takes the next layout.
use Rattle.std.proofs.Common.{◌≡◌, ◌∙◌, ◌+◌, ◌<◌, ◌≤◌, ℕ, List, Some, None, get_or, length, sym, ap, ap₂, subst, rules, arith}
use Rattle.tl_base.specs.Style.{gap_of, row_gap_of, edges_of}
use Rattle.tl_base.specs.Sizes.{room, total}
use Rattle.tl_base.proofs.SizeLaws.{room-total}
use Rattle.tl_table.specs.declared.cell.Content.{out-Content, the_lemmas}
use Rattle.tl_table.specs.declared.cell.Content.TheOpen as open_content
use Rattle.tl_table.specs.declared.cell.Content.TheVariants.{outs-Para, outs-Table}
use Rattle.tl_table.specs.declared.cell.Table.{out-Table}
use Rattle.tl_table.specs.declared.cell.TableCell.{out-TableCell}
use Rattle.tl_table.specs.declared.layout.Layout.{out-Layout}
use Rattle.tl_table.specs.Sound.{IsSoundBlock, IsSoundCell, place_of}
use Rattle.tl_table.specs.Layouts.{lines_of, width_for, height_for}
use Rattle.tl_table.proofs.SoundParts.{sound_cells, sound_blocks, at_item}
use Rattle.tl_page.specs.inner.Taking.{TakesBlock, TakesCell, TakesTable}
use Rattle.tl_page.proofs.Taking.{paragraph-takes, paragraph-too-wide, nested-takes, nested-fits-none, blocks_taken-none}
use Rattle.tl_page.proofs.Taking.{blocks_taken-more, blocks_taken-stuck, blocks_taken-high, blocks_taken-all}
use Rattle.tl_page.proofs.Taking.{cells_taken-none, cells_taken-more, cells_taken-stuck, cells_taken-over, cells_taken-all}
use Rattle.tl_page.proofs.Taking.{table-none}
use Rattle.tl_page.proofs.Fitting.{sound_table}
use Rattle.tl_page.proofs.Progress.{placed_cell}
use Rattle.tl_page.proofs.measure.+measure.Goals as goal
use Rattle.tl_page.proofs.measure.+measure.Goals.{height_in-then-widths-table-via-then-widths-table}
use Rattle.tl_page.proofs.measure.+measure.Goals.{height_in-then-widths-table-via-else-widths-table+then-heights-table}

-- ---- blocks

pub taken_by-returns-in-Some-clause-takes : goal.taken_by-returns-in-Some-clause-takes
taken_by-returns-in-Some-clause-takes t c =
    subst (λ block. TakesBlock c.args.style c.args.width block c.args.inner.now c.args.next
    (Some (record { lines = c.from.result; next = c.args.next })))
    (sym (ap out-Content c.in-Para.is ∙ outs-Para c.in-Para.paragraph))
    (subst (λ (lines : ℕ). TakesBlock c.args.style c.args.width (open_content.Para c.in-Para.paragraph)
    c.args.inner.now c.args.next
    (Some (record { lines = lines; next = c.args.next }))) (sym c.from.ensures)
    (paragraph-takes c.args.style c.args.width c.in-Para.paragraph c.args.inner.now c.args.next c.in-Some.lines
    c.in-Some.ensures.lines))

pub taken_by-returns-in-None-clause-takes : goal.taken_by-returns-in-None-clause-takes
taken_by-returns-in-None-clause-takes t c =
    subst (λ block. TakesBlock c.args.style c.args.width block c.args.inner.now c.args.next None)
    (sym (ap out-Content c.in-Para.is ∙ outs-Para c.in-Para.paragraph))
    (paragraph-too-wide c.args.style c.args.width c.in-Para.paragraph c.args.inner.now c.args.next
    (c.in-None.ensures.too_wide.0 (search rules)))

pub taken_by-returns-in-Some-height_in-clause-takes : goal.taken_by-returns-in-Some-height_in-clause-takes
taken_by-returns-in-Some-height_in-clause-takes t c =
    subst (λ block. TakesBlock c.args.style c.args.width block c.args.inner.now c.args.next
    (Some (record { lines = c.in-Some-height_in.height; next = c.args.next + 1 })))
    (sym (ap out-Content c.in-Table.is ∙ outs-Table c.in-Table.table))
    (nested-takes c.args.style c.args.width c.in-Table.table c.args.inner.now c.args.next c.in-Some-height_in.height
    c.index-inner-next.result
    c.if-next-inner.false c.index-inner-next.is
    (subst (λ table. TakesTable c.args.style c.args.width table c.index-inner-next.result (Some c.in-Some-height_in.height))
    c.deref.ensures
    c.in-Some-height_in.ensures.takes))

pub taken_by-returns-in-None-height_in-clause-takes : goal.taken_by-returns-in-None-height_in-clause-takes
taken_by-returns-in-None-height_in-clause-takes t c =
    subst (λ block. TakesBlock c.args.style c.args.width block c.args.inner.now c.args.next None)
    (sym (ap out-Content c.in-Table.is ∙ outs-Table c.in-Table.table))
    (nested-fits-none c.args.style c.args.width c.in-Table.table c.args.inner.now c.args.next c.index-inner-next.result
    c.if-next-inner.false
    c.index-inner-next.is
    (subst (λ table. TakesTable c.args.style c.args.width table c.index-inner-next.result None)
    c.deref.ensures c.in-None-height_in.ensures.takes))

-- ---- cells

pub past_cell-taken_by-requires : goal.past_cell-taken_by-requires
past_cell-taken_by-requires t c =
    let blocks = (out-TableCell c.args.cell.now).blocks in
    let within : c.loop-block.block-index < length blocks =
    subst (λ items. c.loop-block.block-index < length items) c.as_slice-block-items.ensures c.loop-block-test.true in
    let is : c.block-item.result ≡ get_or blocks c.loop-block.block-index c.block-item.result =
    subst (λ items. c.block-item.result ≡ get_or items c.loop-block.block-index c.block-item.result)
    c.as_slice-block-items.ensures c.block-item.is in (
      search (rules, the_lemmas),
      at_item (λ block. IsSoundBlock (out-Content block)) blocks c.loop-block.block-index c.block-item.result
          (sound_blocks c.args.cell.now c.requires.sound) within is,
    )

pub past_cell-loop-block-init : goal.past_cell-loop-block-init
past_cell-loop-block-init t c = record {
  taken = blocks_taken-none c.args.style c.args.width (out-TableCell c.args.cell.now).blocks c.args.inner.now c.args.next;
  low = omega arith;
}

pub past_cell-returns-in-None : goal.past_cell-returns-in-None
past_cell-returns-in-None t c =
    blocks_taken-stuck c.args.style c.args.width c.args.height (out-TableCell c.args.cell.now)
    c.args.inner.now c.args.next c.loop-block.block-index
    c.loop-block.lines c.loop-block.next c.block-item.result
    (subst (λ items. c.loop-block.block-index < length items) c.as_slice-block-items.ensures c.loop-block-test.true)
    (subst (λ items. c.block-item.result ≡ get_or items c.loop-block.block-index c.block-item.result)
    c.as_slice-block-items.ensures c.block-item.is)
    c.loop-block.invariant.taken c.in-None.ensures.takes

pub past_cell-loop-block-preserved : goal.past_cell-loop-block-preserved
past_cell-loop-block-preserved t c = record {
  taken = blocks_taken-more c.args.style c.args.width (out-TableCell c.args.cell.now).blocks c.args.inner.now c.args.next
      c.loop-block.block-index
      c.loop-block.lines c.loop-block.next c.block-item.result c.in-Some.taken
      (subst (λ items. c.loop-block.block-index < length items) c.as_slice-block-items.ensures c.loop-block-test.true)
      (subst (λ items. c.block-item.result ≡ get_or items c.loop-block.block-index c.block-item.result)
      c.as_slice-block-items.ensures c.block-item.is)
      c.loop-block.invariant.taken c.in-Some.ensures.takes;
  low = c.if-lines-height.false;
}

pub past_cell-returns-then-lines-height : goal.past_cell-returns-then-lines-height
past_cell-returns-then-lines-height t c =
    blocks_taken-high c.args.style c.args.width c.args.height (out-TableCell c.args.cell.now) c.args.inner.now c.args.next
    (c.loop-block.block-index + 1)
    (c.loop-block.lines + c.in-Some.taken.lines) c.in-Some.taken.next c.if-lines-height.true
    (blocks_taken-more c.args.style c.args.width (out-TableCell c.args.cell.now).blocks c.args.inner.now c.args.next
    c.loop-block.block-index
    c.loop-block.lines c.loop-block.next c.block-item.result c.in-Some.taken
    (subst (λ items. c.loop-block.block-index < length items) c.as_slice-block-items.ensures c.loop-block-test.true)
    (subst (λ items. c.block-item.result ≡ get_or items c.loop-block.block-index c.block-item.result)
    c.as_slice-block-items.ensures c.block-item.is)
    c.loop-block.invariant.taken c.in-Some.ensures.takes)

pub past_cell-returns : goal.past_cell-returns
past_cell-returns t c =
    blocks_taken-all c.args.style c.args.width c.args.height (out-TableCell c.args.cell.now)
    c.args.inner.now c.args.next c.loop-block.block-index
    c.loop-block.lines c.loop-block.next c.if-cell-width.false c.loop-block.invariant.low
    (subst (λ items. length items ≤ c.loop-block.block-index) c.as_slice-block-items.ensures c.loop-block-test.false)
    c.loop-block.invariant.taken

-- ---- tables

pub height_in-room_size-columns-requires-clause-ahead : goal.height_in-room_size-columns-requires-clause-ahead
height_in-room_size-columns-requires-clause-ahead t c =
    (placed_cell (out-Table c.args.table.now) c.loop-cell.cell-index c.cell-item.result
    (sound_table c.args.table.now c.requires.sound).placed
    (subst (λ items. c.loop-cell.cell-index < length items) c.as_slice-cell-items.ensures c.loop-cell-test.true)
    (subst (λ items. c.cell-item.result ≡ get_or items c.loop-cell.cell-index c.cell-item.result)
    c.as_slice-cell-items.ensures c.cell-item.is)).0

pub height_in-room_size-columns-requires-clause-within : goal.height_in-room_size-columns-requires-clause-within
height_in-room_size-columns-requires-clause-within t c =
    let placed = placed_cell (out-Table c.args.table.now) c.loop-cell.cell-index c.cell-item.result
    (sound_table c.args.table.now c.requires.sound).placed
    (subst (λ items. c.loop-cell.cell-index < length items) c.as_slice-cell-items.ensures c.loop-cell-test.true)
    (subst (λ items. c.cell-item.result ≡ get_or items c.loop-cell.cell-index c.cell-item.result)
    c.as_slice-cell-items.ensures c.cell-item.is) in
    omega (arith, placed.1, c.if-widths-table.false)

pub height_in-room_size-room-requires-clause-ahead : goal.height_in-room_size-room-requires-clause-ahead
height_in-room_size-room-requires-clause-ahead t c =
    (placed_cell (out-Table c.args.table.now) c.loop-cell.cell-index c.cell-item.result
    (sound_table c.args.table.now c.requires.sound).placed
    (subst (λ items. c.loop-cell.cell-index < length items) c.as_slice-cell-items.ensures c.loop-cell-test.true)
    (subst (λ items. c.cell-item.result ≡ get_or items c.loop-cell.cell-index c.cell-item.result)
    c.as_slice-cell-items.ensures c.cell-item.is)).2

pub height_in-room_size-room-requires-clause-within : goal.height_in-room_size-room-requires-clause-within
height_in-room_size-room-requires-clause-within t c =
    let placed = placed_cell (out-Table c.args.table.now) c.loop-cell.cell-index c.cell-item.result
    (sound_table c.args.table.now c.requires.sound).placed
    (subst (λ items. c.loop-cell.cell-index < length items) c.as_slice-cell-items.ensures c.loop-cell-test.true)
    (subst (λ items. c.cell-item.result ≡ get_or items c.loop-cell.cell-index c.cell-item.result)
    c.as_slice-cell-items.ensures c.cell-item.is) in
    omega (arith, placed.3, c.if-heights-table.false)

pub height_in-room_size-room-requires-clause-few : goal.height_in-room_size-room-requires-clause-few
height_in-room_size-room-requires-clause-few t c =
    omega (arith, (sound_table c.args.table.now c.requires.sound).few_rows, c.if-heights-table.false)

pub height_in-lines_inside-requires : goal.height_in-lines_inside-requires
height_in-lines_inside-requires t c =
    (placed_cell (out-Table c.args.table.now) c.loop-cell.cell-index c.cell-item.result
    (sound_table c.args.table.now c.requires.sound).placed
    (subst (λ items. c.loop-cell.cell-index < length items) c.as_slice-cell-items.ensures c.loop-cell-test.true)
    (subst (λ items. c.cell-item.result ≡ get_or items c.loop-cell.cell-index c.cell-item.result)
    c.as_slice-cell-items.ensures c.cell-item.is)).2

pub height_in-overflow_cast-columns : goal.height_in-overflow_cast-columns
height_in-overflow_cast-columns t c =
    let place = place_of c.cell-item.result in
    let placed = placed_cell (out-Table c.args.table.now) c.loop-cell.cell-index c.cell-item.result
    (sound_table c.args.table.now c.requires.sound).placed
    (subst (λ items. c.loop-cell.cell-index < length items) c.as_slice-cell-items.ensures c.loop-cell-test.true)
    (subst (λ items. c.cell-item.result ≡ get_or items c.loop-cell.cell-index c.cell-item.result)
    c.as_slice-cell-items.ensures c.cell-item.is) in
    let widths = c.as_slice-widths.result.now in
    let within : place.right ≤ length widths = omega (arith, placed.1, c.if-widths-table.false) in
    let all = room-total c.gap.result c.edges.result widths place.left place.right placed.0 within in
    let gap : c.gap-in-loop-cell.result ≡ c.gap.result = c.gap-in-loop-cell.ensures ∙ sym c.gap.ensures in
    omega (
      arith,
      all,
      c.room_size-columns.ensures.room,
      ap (λ (gap : ℕ). room gap widths place.left place.right) gap,
      c.total_size.ensures.total,
      c.if-total_size-from.false,
      c.from.ensures,
      c.ranges.width.fits,
    )

pub height_in-past_cell-requires : goal.height_in-past_cell-requires
height_in-past_cell-requires t c = (
  search (rules, the_lemmas),
  (
    at_item (λ cell. IsSoundCell (out-TableCell cell)) (out-Table c.args.table.now).cells c.loop-cell.cell-index
        c.cell-item.result
        (sound_cells c.args.table.now c.requires.sound)
        (subst (λ items. c.loop-cell.cell-index < length items) c.as_slice-cell-items.ensures c.loop-cell-test.true)
        (subst (λ items. c.cell-item.result ≡ get_or items c.loop-cell.cell-index c.cell-item.result)
        c.as_slice-cell-items.ensures c.cell-item.is),
    omega (arith, c.room_size-room.ensures.small),
  ),
)

pub height_in-returns-in-None-clause-takes : goal.height_in-returns-in-None-clause-takes
height_in-returns-in-None-clause-takes t c =
    let layout = out-Layout c.args.layout.now in
    let place = place_of c.cell-item.result in
    let columns : c.room_size-columns.result ≡ width_for c.args.style layout place =
    c.room_size-columns.ensures.room ∙ ap₂ (λ (gap : ℕ) (sizes : List ℕ). room gap sizes place.left place.right)
    c.gap-in-loop-cell.ensures
    c.as_slice-widths.ensures in
    let lines : c.room_size-room.result + c.from-in-loop-cell.result ≡ height_for c.args.style (out-Table c.args.table.now) layout place =
    ap₂ (λ (room inside : ℕ). room + inside)
    (c.room_size-room.ensures.room ∙ ap₂ (λ (gap : ℕ) (sizes : List ℕ). room gap sizes place.top place.bottom)
    c.row_gap.ensures c.as_slice-heights.ensures)
    (c.from-in-loop-cell.ensures ∙ c.lines_inside.ensures (out-Table c.args.table.now) (sym c.head_end-end.ensures)) in
    cells_taken-stuck c.args.style c.args.width c.args.table.now c.args.layout.now c.loop-cell.cell-index c.loop-cell.next
    c.cell-item.result
    (subst (λ items. c.loop-cell.cell-index < length items) c.as_slice-cell-items.ensures c.loop-cell-test.true)
    (subst (λ items. c.cell-item.result ≡ get_or items c.loop-cell.cell-index c.cell-item.result)
    c.as_slice-cell-items.ensures c.cell-item.is)
    c.loop-cell.invariant
    (subst
    (λ (w : ℕ). TakesCell c.args.style w (height_for c.args.style (out-Table c.args.table.now) layout place) (out-TableCell c.cell-item.result)
    layout.inner c.loop-cell.next None) columns
    (subst (λ (h : ℕ). TakesCell c.args.style c.room_size-columns.result h (out-TableCell c.cell-item.result)
    layout.inner c.loop-cell.next None) lines
    (subst
    (λ inner. TakesCell c.args.style c.room_size-columns.result (c.room_size-room.result + c.from-in-loop-cell.result) (out-TableCell c.cell-item.result)
    inner c.loop-cell.next None)
    c.as_slice-inner.ensures c.in-None.ensures)))

pub height_in-loop-cell-preserved : goal.height_in-loop-cell-preserved
height_in-loop-cell-preserved t c =
    let layout = out-Layout c.args.layout.now in
    let place = place_of c.cell-item.result in
    let past = c.in-Some.past in
    let columns : c.room_size-columns.result ≡ width_for c.args.style layout place =
    c.room_size-columns.ensures.room ∙ ap₂ (λ (gap : ℕ) (sizes : List ℕ). room gap sizes place.left place.right)
    c.gap-in-loop-cell.ensures
    c.as_slice-widths.ensures in
    let lines : c.room_size-room.result + c.from-in-loop-cell.result ≡ height_for c.args.style (out-Table c.args.table.now) layout place =
    ap₂ (λ (room inside : ℕ). room + inside)
    (c.room_size-room.ensures.room ∙ ap₂ (λ (gap : ℕ) (sizes : List ℕ). room gap sizes place.top place.bottom)
    c.row_gap.ensures c.as_slice-heights.ensures)
    (c.from-in-loop-cell.ensures ∙ c.lines_inside.ensures (out-Table c.args.table.now) (sym c.head_end-end.ensures)) in
    cells_taken-more c.args.style (out-Table c.args.table.now) layout c.loop-cell.cell-index c.loop-cell.next past
    c.cell-item.result
    (subst (λ items. c.loop-cell.cell-index < length items) c.as_slice-cell-items.ensures c.loop-cell-test.true)
    (subst (λ items. c.cell-item.result ≡ get_or items c.loop-cell.cell-index c.cell-item.result)
    c.as_slice-cell-items.ensures c.cell-item.is)
    c.loop-cell.invariant
    (subst
    (λ (w : ℕ). TakesCell c.args.style w (height_for c.args.style (out-Table c.args.table.now) layout place) (out-TableCell c.cell-item.result)
    layout.inner c.loop-cell.next
    (Some past)) columns
    (subst (λ (h : ℕ). TakesCell c.args.style c.room_size-columns.result h (out-TableCell c.cell-item.result)
    layout.inner c.loop-cell.next (Some past)) lines
    (subst
    (λ inner. TakesCell c.args.style c.room_size-columns.result (c.room_size-room.result + c.from-in-loop-cell.result) (out-TableCell c.cell-item.result)
    inner c.loop-cell.next (Some past))
    c.as_slice-inner.ensures c.in-Some.ensures)))

pub height_in-returns-then-next-len-clause-takes : goal.height_in-returns-then-next-len-clause-takes
height_in-returns-then-next-len-clause-takes t c =
    cells_taken-over c.args.style c.args.width c.args.table.now c.args.layout.now c.loop-cell.cell-index c.loop-cell.next
    (subst (λ items. length items ≤ c.loop-cell.cell-index) c.as_slice-cell-items.ensures c.loop-cell-test.false)
    (omega (arith, c.if-next-len.true, c.len.ensures)) c.loop-cell.invariant

pub height_in-returns-clause-takes : goal.height_in-returns-clause-takes
height_in-returns-clause-takes t c =
    let layout = out-Layout c.args.layout.now in
    let width : c.total_size.result ≡ total (gap_of c.args.style) (edges_of c.args.style) layout.widths =
    c.total_size.ensures.total ∙ ap₂ (λ (gap edges : ℕ). total gap edges c.as_slice-widths.result.now) c.gap.ensures c.edges.ensures
    ∙ ap (total (gap_of c.args.style) (edges_of c.args.style)) c.as_slice-widths.ensures in
    let lines = lines_of c.args.style (out-Table c.args.table.now) in
    let height : c.total_size-2.result ≡ total (row_gap_of c.args.style) lines layout.heights =
    c.total_size-2.ensures.total ∙ ap₂ (λ (gap edges : ℕ). total gap edges c.as_slice-heights.result.now)
    c.row_gap-2.ensures c.lines_beside.ensures.lines
    ∙ ap (total (row_gap_of c.args.style) lines) c.as_slice-heights.ensures in
    subst (λ (height : ℕ). TakesTable c.args.style c.args.width c.args.table.now c.args.layout.now (Some height)) (sym height)
    (cells_taken-all c.args.style c.args.width c.args.table.now c.args.layout.now c.loop-cell.cell-index c.loop-cell.next
    (omega (arith, ap length c.as_slice-widths.ensures, c.if-widths-table.false))
    (omega (arith, ap length c.as_slice-heights.ensures, c.if-heights-table.false))
    (omega (arith, width, c.if-total_size-from.false, c.from.ensures))
    (subst (λ items. length items ≤ c.loop-cell.cell-index) c.as_slice-cell-items.ensures c.loop-cell-test.false)
    (omega (arith, c.if-next-len.false, c.len.ensures)) c.loop-cell.invariant)

pub height_in-loop-cell-init : goal.height_in-loop-cell-init
height_in-loop-cell-init t c =
    cells_taken-none c.args.style (out-Table c.args.table.now) (out-Layout c.args.layout.now)

pub height_in-returns-then-widths-table-clause-takes : goal.height_in-returns-then-widths-table-clause-takes
height_in-returns-then-widths-table-clause-takes t c =
    table-none c.args.style c.args.width c.args.table.now c.args.layout.now (λ level height fits.
    elim c.then-widths-table.branch [
      | height_in-then-widths-table-via-then-widths-table w ↦
          omega (arith, w.if-widths-table, fits.columns, ap length c.as_slice-widths.ensures)
      | height_in-then-widths-table-via-else-widths-table+then-heights-table w ↦
          omega (arith, w.if-heights-table, fits.rows, ap length c.as_slice-heights.ensures)
    ])

pub height_in-returns-then-total_size-from-clause-takes : goal.height_in-returns-then-total_size-from-clause-takes
height_in-returns-then-total_size-from-clause-takes t c =
    let width : c.total_size.result ≡ total (gap_of c.args.style) (edges_of c.args.style)
    (out-Layout c.args.layout.now).widths =
    c.total_size.ensures.total ∙ ap₂ (λ (gap edges : ℕ). total gap edges c.as_slice-widths.result.now) c.gap.ensures
    c.edges.ensures
    ∙ ap (total (gap_of c.args.style) (edges_of c.args.style)) c.as_slice-widths.ensures in
    table-none c.args.style c.args.width c.args.table.now c.args.layout.now (λ level height fits.
    omega (arith, width, c.if-total_size-from.true, c.from.ensures, fits.within))
