use Rattle.std.proofs.Common.{◌≡◌, map, take}
use Rattle.tl_table.specs.Formed.{span_of}
use Rattle.tl_table.proofs.shape.rows_spans.Given as goal

abbrev pub invariant-loop-row : goal.invariant-loop-row
invariant-loop-row l = l.spans ≡ map (map span_of) (take l.row-index l.rows)
