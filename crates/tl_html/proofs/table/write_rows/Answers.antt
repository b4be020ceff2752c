use Rattle.std.proofs.Common.{◌++◌, ◌+◌, ◌-◌, ap, sym, ◌∙◌, append_assoc}
use Rattle.std.specs.List.{flat_map, range_with_len}
use Rattle.tl_html.specs.Html.{row_html}
use Rattle.tl_html.proofs.Appending.{next_number}
use Rattle.tl_html.proofs.table.write_rows.Goals as goal

pub loop-row-preserved : goal.loop-row-preserved
loop-row-preserved c =
    let write = row_html c.args.cells.now in
    let row = c.loop-row.row in
    let rest = flat_map write (range_with_len (row + 1) (c.args.rows - (row + 1))) in
    ap (λ text. text ++ rest) c.in_ok-write_row.ensures ∙ append_assoc c.loop-row.out (write row) rest
    ∙ ap (λ text. c.loop-row.out ++ text) (sym (next_number write row c.args.rows c.loop-row-test.true)) ∙ c.loop-row.invariant
