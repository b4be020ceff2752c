-- No public clause cites this file. What a matrix leaves, in the words of nogoods.
use Rattle.std.specs.Prelude.{◌≡◌, ℕ, List, [], ◌∷◌, Option, Some, None}
use Rattle.tl_diff.specs.Bounds.{Bounds}
use Rattle.tl_diff.specs.Marks.{MarkedBounds}
use Rattle.tl_problem.specs.declared.zone.Range.{Range}
use Rattle.tl_problem.specs.Problem.{ProblemModel}
use Rattle.tl_problem.specs.Works as works
use Rattle.tl_problem.specs.Zones.{InZone}
use Rattle.tl_cert.specs.declared.log.Bound.{Bound}
use Rattle.tl_check.specs.Matrices.{IsMatrixOf}

-- the new matrix leaves the widths of the old one of which a fact is so; the marks stay
pub record Restricts (problem : ProblemModel) (old new : MarkedBounds) (Fact : List ℕ → Type 0) : Type 0 where
  pub keeps : IsMatrixOf problem new.bounds
  pub marks : new.marks ≡ old.marks
  pub held : new.held ≡ old.held
  pub before : (widths : List ℕ) → works.AreAllowed problem new.bounds widths → works.AreAllowed problem old.bounds widths
  pub fact : (widths : List ℕ) → works.AreAllowed problem new.bounds widths → Fact widths
  pub all : (widths : List ℕ) → works.AreAllowed problem old.bounds widths → Fact widths →
      works.AreAllowed problem new.bounds widths

-- of the widths in a zone the constraints leave those in its part
pub record LeavesPart (problem : ProblemModel) (zone part : List Range) (bounds : Bounds) : Type 0 where
  pub keeps : IsMatrixOf problem bounds
  pub to : (widths : List ℕ) → works.AreAllowed problem bounds widths → InZone problem zone widths → InZone problem part widths
  pub from : (widths : List ℕ) → InZone problem part widths → works.AreAllowed problem bounds widths × InZone problem zone widths

-- a bound where there is one
abbrev pub some_list : Option Bound → List Bound
some_list None = []
some_list (Some bound) = bound ∷ []
