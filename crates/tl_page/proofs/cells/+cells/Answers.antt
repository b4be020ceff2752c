-- One more block, and one more cell, stand in the lines; a nested table stands as its page.
use Rattle.std.proofs.Common.{◌≡◌, ◌∙◌, ◌+◌, ◌*◌, ◌^◌, ◌<◌, ◌≤◌, [], ◌∷◌, ◌++◌, ℕ, List, get_or, length, sum, sym, ap, ap₂, subst}
use Rattle.std.proofs.Common.{rules, arith}
use Rattle.std.proofs.lemmas.List.{take_all}
use Rattle.tl_base.specs.Style.{edge_of}
use Rattle.tl_base.specs.Sizes.{room}
use Rattle.tl_sides.specs.declared.side.Side.TheVariants.{Left}
use Rattle.tl_table.specs.declared.cell.Content.{out-Content, the_lemmas}
use Rattle.tl_table.specs.declared.cell.Content.TheVariants.{outs-Para, outs-Table}
use Rattle.tl_table.specs.declared.cell.Table.{out-Table}
use Rattle.tl_table.specs.declared.cell.TableCell.{out-TableCell}
use Rattle.tl_table.specs.declared.layout.Layout.{out-Layout}
use Rattle.tl_table.specs.Sound.{IsSoundBlock, IsSoundCell, place_of}
use Rattle.tl_table.specs.Layouts.{width_for}
use Rattle.tl_table.proofs.SoundParts.{sound_cells, sound_blocks, at_item}
use Rattle.tl_align.specs.Sides.{side_of}
use Rattle.tl_page.specs.Pages.{grid_of}
use Rattle.tl_page.specs.Pictures.{lines_of, row_gaps}
use Rattle.tl_page.specs.Strips.{begin_in, strips}
use Rattle.tl_page.specs.declared.strip.Gaps.{Gaps}
use Rattle.tl_page.specs.inner.Contents.{FitsBlockRoom, FitsCellRoom, ShowsPart, ShowsParts, ShowsCells, picture_with}
use Rattle.tl_page.proofs.Blocks.{paragraph_shown, nested_given, nested_within, nested_fits, nested_shown}
use Rattle.tl_page.proofs.Fitting.{fitting, sound_table, small_widths, small_heights}
use Rattle.tl_page.proofs.PictureLemmas.{same_drawn}
use Rattle.tl_page.proofs.Progress.{BlocksSoFar, CellsSoFar, blocks-none, block-next, blocks-more, blocks-all, cells-none}
use Rattle.tl_page.proofs.Progress.{cell-next, cells-more}
use Rattle.tl_page.proofs.Progress.{cells-all, placed_cell}
use Rattle.tl_page.proofs.Sides.{as_many_sides, side_at}
use Rattle.tl_page.proofs.cells.+cells.Goals as goal

-- ---- blocks

pub cell_part-loop-block-init : goal.cell_part-loop-block-init
cell_part-loop-block-init t c =
    subst (BlocksSoFar c.args.look.now c.args.room.side c.args.room.columns (out-TableCell c.args.cell.now).blocks c.args.inner.now c.args.next 0
    c.args.next) (sym (c.from_vec-lines.ensures ∙ c.in_ok-with_capacity.ensures.items))
    (blocks-none c.args.look.now c.args.room.side c.args.room.columns (out-TableCell c.args.cell.now) c.args.inner.now c.args.next c.requires.fit)

pub cell_part-with_block-requires : goal.cell_part-with_block-requires
cell_part-with_block-requires t c =
    let blocks = (out-TableCell c.args.cell.now).blocks in
    let within : c.loop-block.block-index < length blocks =
    subst (λ items. c.loop-block.block-index < length items) c.as_slice-block-items.ensures c.loop-block-test.true in
    let is : c.block-item.result ≡ get_or blocks c.loop-block.block-index c.block-item.result =
    subst (λ items. c.block-item.result ≡ get_or items c.loop-block.block-index c.block-item.result)
    c.as_slice-block-items.ensures c.block-item.is in (
      search (rules, the_lemmas),
      (
        at_item (λ block. IsSoundBlock (out-Content block)) blocks c.loop-block.block-index c.block-item.result
            (sound_blocks c.args.cell.now c.requires.sound) within is,
        block-next c.args.look.now c.args.room.side c.args.room.columns blocks c.args.inner.now c.args.next c.loop-block.block-index c.loop-block.part.next
            c.loop-block.part.lines
            c.block-item.result
            c.requires.fit.narrow within is c.loop-block.invariant,
      ),
    )

pub cell_part-loop-block-preserved : goal.cell_part-loop-block-preserved
cell_part-loop-block-preserved t c =
    let blocks = (out-TableCell c.args.cell.now).blocks in
    blocks-more c.args.look.now c.args.room.side c.args.room.columns blocks c.args.inner.now c.args.next c.loop-block.block-index c.loop-block.part.next
    c.in_ok-part.part.next c.loop-block.part.lines
    c.in_ok-part.part.lines c.block-item.result
    (subst (λ items. c.loop-block.block-index < length items) c.as_slice-block-items.ensures c.loop-block-test.true)
    (subst (λ items. c.block-item.result ≡ get_or items c.loop-block.block-index c.block-item.result)
    c.as_slice-block-items.ensures c.block-item.is)
    c.loop-block.invariant c.in_ok-part.ensures

pub cell_part-returns : goal.cell_part-returns
cell_part-returns t c =
    blocks-all c.args.look.now c.args.room.side c.args.room.columns (out-TableCell c.args.cell.now)
    c.args.inner.now c.args.next c.loop-block.block-index c.loop-block.part.next
    c.loop-block.part.lines
    (take_all c.loop-block.block-index (out-TableCell c.args.cell.now).blocks
    (subst (λ items. length items ≤ c.loop-block.block-index) c.as_slice-block-items.ensures c.loop-block-test.false))
    c.loop-block.invariant

pub with_block-put_page-requires : goal.with_block-put_page-requires
with_block-put_page-requires t c =
    let box = c.in-Table.table in
    let open_block = ap out-Content c.in-Table.is ∙ outs-Table box in
    let fit = subst (λ block. FitsBlockRoom c.args.look.now.style c.args.room.columns block c.args.inner.now c.args.part.next)
    open_block c.requires.fit in
    let sound = subst IsSoundBlock open_block c.requires.sound in
    let layout = c.index-inner-next.result in
    small_widths c.args.look.now.style (out-Table box.value) (out-Layout layout) (sound_table box.value sound.0)
    (fitting c.args.look.now.style box.value layout (nested_fits c.args.look.now.style c.args.room.columns box.value c.args.inner.now c.args.part.next layout
    (nested_given c.args.look.now.style c.args.room.columns box c.args.inner.now c.args.part.next fit) c.index-inner-next.is))

pub with_block-overflow_add-result : goal.with_block-overflow_add-result
with_block-overflow_add-result t c =
    let box = c.in-Table.table in
    let open_block = ap out-Content c.in-Table.is ∙ outs-Table box in
    let fit = subst (λ block. FitsBlockRoom c.args.look.now.style c.args.room.columns block c.args.inner.now c.args.part.next)
    open_block c.requires.fit in
    omega (
      arith,
      nested_within c.args.look.now.style c.args.room.columns box.value c.args.inner.now c.args.part.next
          (nested_given c.args.look.now.style c.args.room.columns box c.args.inner.now c.args.part.next fit),
    )

pub with_block-returns-in_ok-put_paragraph-in-Para : goal.with_block-returns-in_ok-put_paragraph-in-Para
with_block-returns-in_ok-put_paragraph-in-Para t c =
    let put = c.in_ok-put_paragraph-in-Para.ensures in
    subst (λ block. ShowsPart c.args.look.now c.args.room.side c.args.room.columns block c.args.inner.now c.args.part.next c.args.part.next c.args.part.lines
    c.put_paragraph.new.lines)
    (sym (ap out-Content c.in-Para.is ∙ outs-Para c.in-Para.paragraph))
    (paragraph_shown c.args.look.now c.args.room.side c.args.room.columns c.in-Para.paragraph c.args.inner.now c.args.part.next c.args.part.lines
    c.put_paragraph.new.lines put.0 put.1 put.2)

pub with_block-returns-in_ok-put_page-in-Table : goal.with_block-returns-in_ok-put_page-in-Table
with_block-returns-in_ok-put_page-in-Table t c =
    let box = c.in-Table.table in
    let open_block = ap out-Content c.in-Table.is ∙ outs-Table box in
    let fit = subst (λ block. FitsBlockRoom c.args.look.now.style c.args.room.columns block c.args.inner.now c.args.part.next)
    open_block c.requires.fit in
    let layout = c.index-inner-next.result in
    let cells = c.in_ok-cells-in-Table.cells in
    let page = c.in_ok-page-in-Table.page in
    subst (λ block. ShowsPart c.args.look.now c.args.room.side c.args.room.columns block c.args.inner.now c.args.part.next (c.args.part.next + 1)
    c.args.part.lines c.put_page.new.lines)
    (sym open_block)
    (nested_shown c.args.look.now c.args.room.side c.args.room.columns box c.args.inner.now c.args.part.next layout cells page c.args.part.lines
    c.put_page.new.lines c.index-inner-next.is
    (nested_within c.args.look.now.style c.args.room.columns box.value c.args.inner.now c.args.part.next
    (nested_given c.args.look.now.style c.args.room.columns box c.args.inner.now c.args.part.next fit))
    (subst (λ table. ShowsCells c.args.look.now table layout cells) c.deref.ensures c.in_ok-cells-in-Table.ensures)
    (subst (λ table. page ≡ lines_of (picture_with c.args.look.now.style (out-Table table) (out-Layout layout) cells))
    c.deref-in-Table.ensures
    c.in_ok-page-in-Table.ensures)
    c.in_ok-put_page-in-Table.ensures)

-- ---- cells

pub drawn_cells-strips-requires-clause-room : goal.drawn_cells-strips-requires-clause-room
drawn_cells-strips-requires-clause-room t c =
    subst (λ sizes. sum sizes + 3 * length sizes < 2 ^ 31) (sym c.as_slice.ensures)
    (small_widths c.args.look.now.style (out-Table c.args.table.now) (out-Layout c.args.layout.now)
    (sound_table c.args.table.now c.requires.sound)
    (fitting c.args.look.now.style c.args.table.now c.args.layout.now c.requires.fit))

pub drawn_cells-strips-requires-2-clause-room : goal.drawn_cells-strips-requires-2-clause-room
drawn_cells-strips-requires-2-clause-room t c =
    subst (λ sizes. sum sizes + 3 * length sizes < 2 ^ 31) (sym c.as_slice-2.ensures)
    (small_heights c.args.look.now.style (out-Table c.args.table.now) (out-Layout c.args.layout.now)
    (sound_table c.args.table.now c.requires.sound)
    (fitting c.args.look.now.style c.args.table.now c.args.layout.now c.requires.fit))

pub drawn_cells-loop-at-init : goal.drawn_cells-loop-at-init
drawn_cells-loop-at-init t c =
    subst (CellsSoFar c.args.look.now (out-Table c.args.table.now) (out-Layout c.args.layout.now) 0 0)
    (sym c.in_ok-cells.ensures.items)
    (cells-none c.args.look.now (out-Table c.args.table.now) (out-Layout c.args.layout.now)
    (fitting c.args.look.now.style c.args.table.now c.args.layout.now c.requires.fit))

pub drawn_cells-bounds-as_slice-at : goal.drawn_cells-bounds-as_slice-at
drawn_cells-bounds-as_slice-at t c =
    omega (
      arith,
      subst (λ items. c.loop-at.at < length items) c.as_slice-cell-items.ensures c.loop-at-test.true,
      as_many_sides c.args.look.now (out-Table c.args.table.now) c.as_slice-in-loop-at-2.result.now
          (c.as_slice-in-loop-at-2.ensures ∙ c.in_ok-sides.ensures),
    )

pub drawn_cells-cell_part-requires : goal.drawn_cells-cell_part-requires
drawn_cells-cell_part-requires t c =
    let table = out-Table c.args.table.now in
    let layout = out-Layout c.args.layout.now in
    let cell = c.cell-item.result in
    let place = place_of cell in
    let within : c.loop-at.at < length table.cells =
    subst (λ items. c.loop-at.at < length items) c.as_slice-cell-items.ensures c.loop-at-test.true in
    let is : cell ≡ get_or table.cells c.loop-at.at cell =
    subst (λ items. cell ≡ get_or items c.loop-at.at cell) c.as_slice-cell-items.ensures c.cell-item.is in
    let sound = sound_table c.args.table.now c.requires.sound in
    let fit = fitting c.args.look.now.style c.args.table.now c.args.layout.now c.requires.fit in
    let placed = placed_cell table c.loop-at.at cell sound.placed within is in
    let many : place.right ≤ length c.as_slice.result.now = omega
    (arith, ap length c.as_slice.ensures, fit.fits.columns, placed.1) in
    let columns : c.room_in-columns.result ≡ width_for c.args.look.now.style layout place =
    c.room_in-columns.ensures c.gap.result c.edge.result c.as_slice.result.now
    (c.as_slice-in-loop-at.ensures ∙ c.in_ok-across.ensures
    ∙ ap (λ gaps. strips gaps c.edge.result c.as_slice.result.now) c.even-columns.ensures) placed.0 many
    ∙ ap₂ (λ (gap : ℕ) (sizes : List ℕ). room gap sizes place.left place.right) c.gap.ensures c.as_slice.ensures in (
      search (rules, the_lemmas),
      (
        at_item (λ cell. IsSoundCell (out-TableCell cell)) table.cells c.loop-at.at cell
            (sound_cells c.args.table.now c.requires.sound) within is,
        subst (λ w. FitsCellRoom c.args.look.now.style w (out-TableCell cell) c.as_slice-in-loop-at-3.result.now c.loop-at.next)
            (sym columns)
            (subst (λ inner. FitsCellRoom c.args.look.now.style (width_for c.args.look.now.style layout place) (out-TableCell cell)
            inner c.loop-at.next)
            (sym c.as_slice-in-loop-at-3.ensures)
            (cell-next c.args.look.now table layout c.loop-at.at c.loop-at.next c.loop-at.cells.items cell fit placed
            within is c.loop-at.invariant)),
      ),
    )

pub drawn_cells-loop-at-preserved : goal.drawn_cells-loop-at-preserved
drawn_cells-loop-at-preserved t c =
    let look = c.args.look.now in
    let style = look.style in
    let table = out-Table c.args.table.now in
    let layout = out-Layout c.args.layout.now in
    let cell = c.cell-item.result in
    let place = place_of cell in
    let part = c.in_ok-part.part in
    let within : c.loop-at.at < length table.cells =
    subst (λ items. c.loop-at.at < length items) c.as_slice-cell-items.ensures c.loop-at-test.true in
    let is : cell ≡ get_or table.cells c.loop-at.at cell =
    subst (λ items. cell ≡ get_or items c.loop-at.at cell) c.as_slice-cell-items.ensures c.cell-item.is in
    let sound = sound_table c.args.table.now c.requires.sound in
    let fit = fitting style c.args.table.now c.args.layout.now c.requires.fit in
    let placed = placed_cell table c.loop-at.at cell sound.placed within is in
    let many : place.right ≤ length c.as_slice.result.now = omega
    (arith, ap length c.as_slice.ensures, fit.fits.columns, placed.1) in
    let below : place.top < length c.as_slice-2.result.now =
    omega (arith, ap length c.as_slice-2.ensures, fit.fits.rows, placed.2, placed.3) in
    let columns : c.room_in-columns.result ≡ width_for style layout place =
    c.room_in-columns.ensures c.gap.result c.edge.result c.as_slice.result.now
    (c.as_slice-in-loop-at.ensures ∙ c.in_ok-across.ensures
    ∙ ap (λ gaps. strips gaps c.edge.result c.as_slice.result.now) c.even-columns.ensures) placed.0 many
    ∙ ap₂ (λ (gap : ℕ) (sizes : List ℕ). room gap sizes place.left place.right) c.gap.ensures c.as_slice.ensures in
    let first : c.begin_of.result ≡ edge_of style + begin_in (row_gaps style (grid_of table)) layout.heights place.top =
    c.begin_of.ensures c.row_gaps-rows.result c.edge-2.result c.as_slice-2.result.now
    (c.as_slice-in-loop-at-4.ensures ∙ c.in_ok-down.ensures) below
    ∙ ap (λ (edge : ℕ). edge + begin_in c.row_gaps-rows.result c.as_slice-2.result.now place.top) c.edge-2.ensures
    ∙ ap₂ (λ (gaps : Gaps) (sizes : List ℕ). edge_of style + begin_in gaps sizes place.top)
    c.row_gaps-rows.ensures c.as_slice-2.ensures in
    let sides = c.as_slice-in-loop-at-2.result.now in
    let side : get_or sides c.loop-at.at Left ≡ side_of look.align table (out-TableCell cell) =
    side_at look table sides c.loop-at.at cell Left (c.as_slice-in-loop-at-2.ensures ∙ c.in_ok-sides.ensures) within is in
    let shown : ShowsParts look (side_of look.align table (out-TableCell cell)) (width_for style layout place) (out-TableCell cell)
    layout.inner c.loop-at.next part.next part.lines =
    subst (λ side. ShowsParts look side (width_for style layout place) (out-TableCell cell) layout.inner c.loop-at.next
    part.next part.lines) side
    (subst (λ inner. ShowsParts look (get_or sides c.loop-at.at Left) (width_for style layout place) (out-TableCell cell)
    inner c.loop-at.next part.next part.lines)
    c.as_slice-in-loop-at-3.ensures
    (subst (λ w. ShowsParts look (get_or sides c.loop-at.at Left) w (out-TableCell cell)
    c.as_slice-in-loop-at-3.result.now c.loop-at.next part.next part.lines) columns
    c.in_ok-part.ensures)) in
    subst (CellsSoFar look table layout (c.loop-at.at + 1) part.next)
    (sym (c.in_ok-push.ensures.items ∙ ap (λ one. c.loop-at.cells.items ++ one ∷ [])
    (same_drawn style (row_gaps style (grid_of table)) layout.widths layout.heights place c.room_in-columns.result c.begin_of.result part.lines columns first)))
    (cells-more look table layout c.loop-at.at c.loop-at.next part.next c.loop-at.cells.items part.lines cell within is
    c.loop-at.invariant shown)

pub drawn_cells-returns : goal.drawn_cells-returns
drawn_cells-returns t c =
    subst (ShowsCells c.args.look.now c.args.table.now c.args.layout.now) (sym c.from_vec.ensures)
    (cells-all c.args.look.now c.args.table.now c.args.layout.now c.loop-at.at c.loop-at.next c.loop-at.cells.items
    (fitting c.args.look.now.style c.args.table.now c.args.layout.now c.requires.fit).fits.rows
    (subst (λ items. length items ≤ c.loop-at.at) c.as_slice-cell-items.ensures c.loop-at-test.false)
    c.loop-at.invariant)
