-- What a problem keeps beside its cells; no public clause cites this file.
use Rattle.std.specs.Prelude.{◌≡◌, ℕ, List, map}
use Rattle.tl_problem.specs.declared.axis.Axis.TheVariants.{Columns, Rows}
use Rattle.tl_problem.specs.declared.axis.Turn.{Turn}
use Rattle.tl_problem.specs.declared.cell.Span.{Span}
use Rattle.tl_problem.specs.Problem.{ProblemModel}
use Rattle.tl_problem.specs.Sound.{IsSound}
use Rattle.tl_problem.specs.Spans.{spans_of, classes_of}
use Rattle.tl_problem.specs.inner.Axes.{IsOrder}

-- a sound problem with its spans, their classes, and its cells by left and by top
pub record HasParts (problem : ProblemModel) (spans : List Span) (classes : List (List ℕ))
    (by_left by_top : List Turn) : Type 0 where
  pub sound : IsSound problem
  pub each_span : spans ≡ spans_of problem
  pub each_class : classes ≡ map (classes_of problem) (spans_of problem)
  pub columns : IsOrder Columns problem.cells by_left
  pub rows : IsOrder Rows problem.cells by_top
