use Rattle.std.proofs.Common.{◌≡◌, ◌++◌, take}
use Rattle.std.specs.List.{flat_map}
use Rattle.tl_html.specs.Html.{caption_line}
use Rattle.tl_html.proofs.table.write_caption.Given as goal

abbrev pub invariant-loop-cell : goal.invariant-loop-cell
invariant-loop-cell l = l.out ≡ l.initial.out ++ flat_map caption_line (take l.cell-index l.cells)
