-- The picture that is kept is that of the table.
use Rattle.std.proofs.Common.{◌≡◌, ◌+◌, ◌*◌, ◌^◌, ◌<◌, ◌∙◌, IfOk, length, sum, sym, ap, subst}
use Rattle.tl_base.specs.Style.{gap_of, edge_of}
use Rattle.tl_table.specs.declared.cell.Table.{out-Table}
use Rattle.tl_table.specs.declared.layout.Layout.{out-Layout}
use Rattle.tl_page.specs.Corners.{owner_of}
use Rattle.tl_table.specs.Heads.{head_row}
use Rattle.tl_page.specs.Pages.{grid_of}
use Rattle.tl_page.specs.Pictures.{lines_of, row_gaps}
use Rattle.tl_page.specs.Strips.{even, strips}
use Rattle.tl_page.specs.inner.Drawing.{owner_in}
use Rattle.tl_page.proofs.Fitting.{fitting, sound_table, small_widths, small_heights}
use Rattle.tl_page.proofs.PictureLemmas.{same_picture, same_strips}
use Rattle.tl_page.proofs.cells.page_with.Goals as goal

pub strips-requires-clause-room : goal.strips-requires-clause-room
strips-requires-clause-room c =
    subst (λ sizes. sum sizes + 3 * length sizes < 2 ^ 31) (sym c.as_slice.ensures)
    (small_widths c.args.style (out-Table c.args.table.now) (out-Layout c.args.layout.now)
    (sound_table c.args.table.now c.requires.sound)
    (fitting c.args.style c.args.table.now c.args.layout.now c.requires.fit))

pub strips-requires-2-clause-room : goal.strips-requires-2-clause-room
strips-requires-2-clause-room c =
    subst (λ sizes. sum sizes + 3 * length sizes < 2 ^ 31) (sym c.as_slice-2.ensures)
    (small_heights c.args.style (out-Table c.args.table.now) (out-Layout c.args.layout.now)
    (sound_table c.args.table.now c.requires.sound)
    (fitting c.args.style c.args.table.now c.args.layout.now c.requires.fit))

pub returns : goal.returns
returns c =
    let style = c.args.style in
    let layout = out-Layout c.args.layout.now in
    let grid = grid_of (out-Table c.args.table.now) in
    let head = head_row (out-Table c.args.table.now) in
    subst (λ picture. IfOk c.draw.result (λ page. page ≡ lines_of picture))
    (same_picture style c.in_ok-strips.field-0 (strips (even (gap_of style)) (edge_of style) layout.widths)
    c.in_ok-strips-2.field-0 (strips (row_gaps style grid) (edge_of style) layout.heights) (owner_in c.in_ok-new.field-0)
    (owner_of grid) c.head_row-head.result head c.args.cells
    (c.in_ok-strips.ensures ∙ same_strips c.even-columns.result (even (gap_of style)) c.edge.result (edge_of style)
    c.as_slice.result.now layout.widths
    (c.even-columns.ensures ∙ ap even c.gap.ensures) c.edge.ensures c.as_slice.ensures)
    (c.in_ok-strips-2.ensures ∙ same_strips c.row_gaps-rows.result (row_gaps style grid) c.edge-2.result (edge_of style)
    c.as_slice-2.result.now layout.heights
    c.row_gaps-rows.ensures c.edge-2.ensures c.as_slice-2.ensures)
    c.in_ok-new.ensures c.head_row-head.ensures)
    c.draw.ensures
