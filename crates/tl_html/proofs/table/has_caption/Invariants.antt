use Rattle.std.proofs.Common.{◌≡◌, drop}
use Rattle.std.specs.List.{list_any}
use Rattle.tl_html.specs.Html.{is_caption}
use Rattle.tl_html.proofs.table.has_caption.Given as goal

abbrev pub invariant-loop-cell : goal.invariant-loop-cell
invariant-loop-cell l = list_any is_caption (drop l.cell-index l.cells) ≡ list_any is_caption l.cells
