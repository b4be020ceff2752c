use Rattle.std.proofs.Common.{◌≡◌, map, take}
use Rattle.tl_table.specs.Formed.{span_of}
use Rattle.tl_table.proofs.shape.row_spans.Given as goal

abbrev pub invariant-loop-cell : goal.invariant-loop-cell
invariant-loop-cell l = l.spans ≡ map span_of (take l.cell-index l.row)
