use Rattle.std.proofs.Common.{◌≡◌, ◌++◌, ◌-◌}
use Rattle.std.specs.List.{flat_map, range_with_len}
use Rattle.tl_html.specs.Html.{row_html}
use Rattle.tl_html.proofs.table.write_rows.Given as goal

abbrev pub invariant-loop-row : goal.invariant-loop-row
invariant-loop-row l =
    l.out ++ flat_map (row_html l.cells) (range_with_len l.row (l.rows - l.row))
    ≡ l.initial.out ++ flat_map (row_html l.cells) (range_with_len l.captions (l.rows - l.captions))
