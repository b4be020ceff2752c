-- Which tables `form` takes: the ranges of the attributes `colspan` and `rowspan` in the HTML
-- Standard, section 4.9.11.
use Rattle.std.specs.Prelude.{◌≤◌, List}
use Rattle.std.specs.List.{AllByRecursion}
use Rattle.tl_base.specs.declared.limits.TheConstants.{MAX_COLSPAN, MAX_ROWSPAN}
use Rattle.tl_grid.specs.declared.shape.SpanOf.{SpanOf}
use Rattle.tl_grid.specs.declared.shape.ShapeGroup.{ShapeGroup}

-- the spans that a cell may have
abbrev pub IsSpan : SpanOf → Type 0
IsSpan span = (1 ≤ span.colspan) × (span.colspan ≤ MAX_COLSPAN) × (span.rowspan ≤ MAX_ROWSPAN)

-- each cell of the groups has such a span
abbrev pub AllSpans : List ShapeGroup → Type 0
AllSpans groups =
    AllByRecursion
    (λ (group : ShapeGroup). AllByRecursion (AllByRecursion IsSpan) group.rows)
    groups
