-- What a matrix leaves, in the words of nogoods.
use Rattle.std.specs.Prelude.{◌≡◌, ℕ, List}
use Rattle.tl_diff.specs.Bounds.{Bounds}
use Rattle.tl_diff.specs.Marks.{MarkedBounds}
use Rattle.tl_problem.specs.Problem.{ProblemModel}
use Rattle.tl_problem.specs.Sound.{IsSound}
use Rattle.tl_problem.specs.Works as works
use Rattle.tl_cert.specs.declared.log.Bound.{Bound}
use Rattle.tl_cert.specs.Implied as implied

-- the constraints are on the columns of a sound problem, and keep its page
pub record IsMatrixOf (problem : ProblemModel) (bounds : Bounds) : Type 0 where
  pub sound : IsSound problem
  pub page : works.KeepsPage problem bounds

-- the constraints leave the widths that are left under the given bounds once those that joined are broken
pub record Describes (problem : ProblemModel) (given joined : List Bound) (bounds : Bounds) : Type 0 where
  pub keeps : IsMatrixOf problem bounds
  pub to : (widths : List ℕ) → works.AreAllowed problem bounds widths → implied.IsLeft problem given joined widths
  pub from : (widths : List ℕ) → implied.IsLeft problem given joined widths → works.AreAllowed problem bounds widths

-- the marks of a matrix stay as they are
pub record KeepsMarks (old new : MarkedBounds) : Type 0 where
  pub marks : new.marks ≡ old.marks
  pub held : new.held ≡ old.held
