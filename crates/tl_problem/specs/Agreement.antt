-- Where `low` and `high` of the cells are the same: in a zone of one class for each span nothing is then left to search.
use Rattle.std.specs.Prelude.{◌≡◌, ◌≢◌, IsTrue, ℕ, ◌<◌, ◌≤◌, List, length}
use Rattle.std.specs.List.{All, Contains}
use Rattle.tl_base.specs.Steps.{height_at}
use Rattle.tl_problem.specs.declared.cell.Cell.{Cell}
use Rattle.tl_problem.specs.declared.zone.Range.{Range}
use Rattle.tl_problem.specs.Problem.{ProblemModel}
use Rattle.tl_problem.specs.Spans.{has_span, page_room}
use Rattle.tl_problem.specs.Zones.{span_at, IsWidthOf}

-- each span of the zone has one class
abbrev pub HasOneClass : List Range → Type 0
HasOneClass zone = All (λ r. r.first ≡ r.last) zone

-- at each width that the zone gives its span, a cell needs the same by `low` and by `high`
abbrev pub AgreeIn : ProblemModel → List Range → Type 0
AgreeIn problem zone = (s w : ℕ) (cell : Cell) → s < length zone → IsWidthOf problem zone s w →
    Contains problem.cells cell → IsTrue (has_span (span_at problem s) cell) → height_at cell.low w ≡ height_at cell.high w

-- each cell needs the same by `low` and by `high`, at all widths up to `most`, or has no height by either
abbrev pub AgreeUpTo : ProblemModel → ℕ → Type 0
AgreeUpTo problem most = (cell : Cell) → Contains problem.cells cell → (w : ℕ) → w ≤ most →
    height_at cell.low w ≡ height_at cell.high w

-- each cell needs the same by `low` and by `high`, at all widths that the page has room for
abbrev pub LowIsHigh : ProblemModel → Type 0
LowIsHigh problem = AgreeUpTo problem (page_room problem)

-- and at all widths up to the page's: also at the last ones of a page with edges, which no room reaches
abbrev pub AgreesOnPage : ProblemModel → Type 0
AgreesOnPage problem = AgreeUpTo problem problem.width

-- some cell needs less by `low` than by `high` at a width that the zone gives its span
pub record DifferIn (problem : ProblemModel) (zone : List Range) : Type 0 where
  pub s : ℕ
  pub w : ℕ
  pub cell : Cell
  pub span : s < length zone
  pub width : IsWidthOf problem zone s w
  pub inside : Contains problem.cells cell
  pub has : IsTrue (has_span (span_at problem s) cell)
  pub differ : height_at cell.low w ≢ height_at cell.high w
