-- Zones of a problem, the widths in them, and their class vectors. A zone gives each span a range of its classes; spans and classes go by
-- number, from 0.
use Rattle.std.specs.Prelude.{◌≡◌, ◌≢◌, ℕ, ◌+◌, ◌-◌, ◌<◌, ◌≤◌, List, length, map, get_or, set}
use Rattle.tl_problem.specs.declared.cell.Span.{Span}
use Rattle.tl_problem.specs.declared.zone.Range.{Range}
use Rattle.tl_base.specs.Sizes.{room}
use Rattle.tl_problem.specs.Problem.{ProblemModel}
use Rattle.tl_problem.specs.Layouts.{WithinPage}
use Rattle.tl_problem.specs.Spans.{span, spans_of, classes_of, page_room}

-- the span with this number
abbrev pub span_at : ProblemModel → ℕ → Span
span_at problem s = get_or (spans_of problem) s (span 0 0)

-- the first widths of the classes of the span with this number
abbrev pub classes_at : ProblemModel → ℕ → List ℕ
classes_at problem s = classes_of problem (span_at problem s)

-- the first width of a class of a span
abbrev pub first_in_class : ProblemModel → ℕ → ℕ → ℕ
first_in_class problem s class = get_or (classes_at problem s) class 0

-- the last width of a class of a span: one before the next class, or all the room of the page
abbrev pub last_in_class : ProblemModel → ℕ → ℕ → ℕ
last_in_class problem s class = get_or (classes_at problem s) (class + 1) (page_room problem + 1) - 1

-- the range of classes from `first` to `last`, both in it
abbrev pub range : ℕ → ℕ → Range
range first last = record { first = first; last = last }

-- the range of classes that the zone gives the span with this number
abbrev pub range_at : List Range → ℕ → Range
range_at zone s = get_or zone s (range 0 0)

-- a zone of the problem: for each span a range of its classes
pub record IsZone (problem : ProblemModel) (zone : List Range) : Type 0 where
  pub spans : length zone ≡ length (spans_of problem)
  pub ranges : (s : ℕ) → s < length zone →
      ((range_at zone s).first ≤ (range_at zone s).last) × ((range_at zone s).last < length (classes_at problem s))

-- the whole: each span has all its classes
abbrev pub whole_zone : ProblemModel → List Range
whole_zone problem = map (λ columns. range 0 (length (classes_of problem columns) - 1)) (spans_of problem)

-- the lower part of a zone that is cut at a span after a class: the span has its classes up to that one
abbrev pub lower_part : List Range → ℕ → ℕ → List Range
lower_part zone s class = set zone s (range (range_at zone s).first class)

-- the upper part of a zone that is cut at a span after a class: the span has its classes after that one
abbrev pub upper_part : List Range → ℕ → ℕ → List Range
upper_part zone s class = set zone s (range (class + 1) (range_at zone s).last)

-- the room that columns of these widths give a span
abbrev pub span_width : ProblemModel → List ℕ → ℕ → ℕ
span_width problem widths s = room problem.spacing.gap widths (span_at problem s).left (span_at problem s).right

-- the range with this number is the first of more than one class
pub record IsFirstOpen (zone : List Range) (s : ℕ) : Type 0 where
  pub there : s < length zone
  pub more : (range_at zone s).first ≢ (range_at zone s).last
  pub before : (t : ℕ) → t < s → (range_at zone t).first ≡ (range_at zone t).last

-- a class vector: for each span the number of one of its classes
pub record IsVector (problem : ProblemModel) (vector : List ℕ) : Type 0 where
  pub spans : length vector ≡ length (spans_of problem)
  pub classes : (s : ℕ) → s < length vector → get_or vector s 0 < length (classes_at problem s)

-- the zone has the class vector: each class is in the range of its span
abbrev pub HasVector : List Range → List ℕ → Type 0
HasVector zone vector = (s : ℕ) → s < length zone →
    ((range_at zone s).first ≤ get_or vector s 0) × (get_or vector s 0 ≤ (range_at zone s).last)

-- the width is one of those that the zone gives the span
abbrev pub IsWidthOf : ProblemModel → List Range → ℕ → ℕ → Type 0
IsWidthOf problem zone s w =
    (first_in_class problem s (range_at zone s).first ≤ w) × (w ≤ last_in_class problem s (range_at zone s).last)

-- the widths are in the zone: within the page, and the room of each span is a width of its range's classes
pub record InZone (problem : ProblemModel) (zone : List Range) (widths : List ℕ) : Type 0 where
  pub page : WithinPage problem widths
  pub ranges : (s : ℕ) → s < length zone → IsWidthOf problem zone s (span_width problem widths s)
