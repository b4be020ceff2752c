use Rattle.std.proofs.Common.{◌≡◌, ◌++◌, take}
use Rattle.std.specs.List.{flat_map}
use Rattle.tl_html.specs.Html.{column_html}
use Rattle.tl_html.proofs.table.write_column_list.Given as goal

abbrev pub invariant-loop-width : goal.invariant-loop-width
invariant-loop-width l = l.out ≡ l.initial.out ++ flat_map column_html (take l.width-index l.widths)
