-- Spans in their ranges have a column.
use Rattle.std.proofs.Common.{List, [], ◌∷◌, arith}
use Rattle.std.specs.List.{AllByRecursion}
use Rattle.tl_grid.specs.declared.shape.SpanOf.{SpanOf}
use Rattle.tl_grid.specs.declared.shape.ShapeGroup.{ShapeGroup}
use Rattle.tl_grid.specs.Shapes.{IsSpan, AllSpans}
use Rattle.tl_grid.proofs.Rows.{IsWide}
use Rattle.tl_grid.proofs.Groups.{AllWide}
use Rattle.tl_grid.proofs.Tables.{GroupWide}

-- each cell has a column
wide_spans : (spans : List SpanOf) → AllByRecursion IsSpan spans → AllByRecursion IsWide spans
wide_spans [] all = tt
wide_spans (span ∷ spans) all = (omega (arith, all.0.0), wide_spans spans all.1)

-- so in all rows
wide_rows : (rows : List (List SpanOf)) → AllByRecursion (AllByRecursion IsSpan) rows → AllWide rows
wide_rows [] all = tt
wide_rows (spans ∷ rows) all = (wide_spans spans all.0, wide_rows rows all.1)

-- and in all groups
pub wide_groups : (groups : List ShapeGroup) → AllSpans groups → AllByRecursion GroupWide groups
wide_groups [] all = tt
wide_groups (group ∷ groups) all = (wide_rows group.rows all.0, wide_groups groups all.1)
