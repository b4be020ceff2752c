-- Constraints of the page, one after another; no public clause cites this file.
use Rattle.std.specs.Prelude.{◌≡◌, ℕ, ◌+◌, ◌<◌, ℤ, pos, ◌+ℤ◌, ◌≤ℤ◌, List, [], length}
use Rattle.tl_diff.specs.Bounds.{Satisfies}
use Rattle.tl_diff.specs.Marks.{MarkedBounds}
use Rattle.tl_problem.specs.Problem.{ProblemModel}
use Rattle.tl_problem.specs.declared.zone.Range.{Range}
use Rattle.tl_problem.specs.Layouts.{WithinPage}
use Rattle.tl_problem.specs.Sound.{IsSound}
use Rattle.tl_problem.specs.Zones.{span_at, range_at, first_in_class, last_in_class, span_width, IsWidthOf}
use Rattle.tl_problem.specs.Works.{AreAllowed}

-- columns a and b are at least `m` apart
abbrev pub StandApart : (ℕ → ℤ) → ℕ → ℕ → ℕ → Type 0
StandApart x a b m = (x a +ℤ pos m) ≤ℤ x b

-- columns a and b are at most `m` apart
abbrev pub AreNear : (ℕ → ℤ) → ℕ → ℕ → ℕ → Type 0
AreNear x a b m = x b ≤ℤ (x a +ℤ pos m)

-- the constraints so far: all widths of the page satisfy them, and each that satisfies them has the gaps of the first
-- columns, and gives the first spans the first widths of their first classes
pub record PageUpto (problem : ProblemModel) (columns spans : ℕ) (matrix : MarkedBounds) : Type 0 where
  pub sound : IsSound problem
  pub variables : matrix.bounds.n ≡ problem.cols + 1
  pub marks : matrix.marks ≡ 4
  pub none_held : matrix.held ≡ []
  pub whole : (widths : List ℕ) → WithinPage problem widths → AreAllowed problem matrix.bounds widths
  pub gaps : (x : ℕ → ℤ) → Satisfies matrix.bounds x → (k : ℕ) → k < columns → StandApart x k (k + 1) problem.spacing.gap
  pub rooms : (x : ℕ → ℤ) → Satisfies matrix.bounds x → (s : ℕ) → s < spans →
      StandApart x (span_at problem s).left (span_at problem s).right (first_in_class problem s 0 + problem.spacing.gap)

-- the matrix with one fact more: the marks stay as they are
pub record AddsFact (old new : MarkedBounds) (Fact : (ℕ → ℤ) → Type 0) : Type 0 where
  pub variables : new.bounds.n ≡ old.bounds.n
  pub marks : new.marks ≡ old.marks
  pub held : new.held ≡ old.held
  pub keeps : (x : ℕ → ℤ) → Satisfies new.bounds x → Satisfies old.bounds x
  pub adds : (x : ℕ → ℤ) → Satisfies new.bounds x → Fact x
  pub all : (x : ℕ → ℤ) → Satisfies old.bounds x → Fact x → Satisfies new.bounds x

-- the room of the span is at least the first width of its first class
abbrev pub HasFirst : ProblemModel → List Range → ℕ → (ℕ → ℤ) → Type 0
HasFirst problem zone s x = StandApart x (span_at problem s).left (span_at problem s).right
    (first_in_class problem s (range_at zone s).first + problem.spacing.gap)

-- the room of the span is at most the last width of its last class
abbrev pub HasLast : ProblemModel → List Range → ℕ → (ℕ → ℤ) → Type 0
HasLast problem zone s x = AreNear x (span_at problem s).left (span_at problem s).right
    (last_in_class problem s (range_at zone s).last + problem.spacing.gap)

-- the matrix with the ranges of the first spans of a zone; where they were not added whole, no widths are left
pub record AddsRanges (problem : ProblemModel) (zone : List Range) (upto : ℕ) (old new : MarkedBounds)
    (Whole : Type 0) : Type 0 where
  pub variables : new.bounds.n ≡ old.bounds.n
  pub marks : new.marks ≡ old.marks
  pub held : new.held ≡ old.held
  pub keeps : (x : ℕ → ℤ) → Satisfies new.bounds x → Satisfies old.bounds x
  pub from : (widths : List ℕ) → AreAllowed problem old.bounds widths →
      ((s : ℕ) → s < length zone → IsWidthOf problem zone s (span_width problem widths s)) → AreAllowed problem new.bounds widths
  pub to : Whole → (widths : List ℕ) → AreAllowed problem new.bounds widths → (s : ℕ) → s < upto →
      IsWidthOf problem zone s (span_width problem widths s)
