-- No public clause cites this file. What is left of a nogood once the implied bounds are taken away, and what firing does.
use Rattle.std.specs.Prelude.{◌≢◌, ◌⊎◌, ℕ, List, []}
use Rattle.std.specs.List.{All, Contains}
use Rattle.tl_diff.specs.Bounds.{Bounds}
use Rattle.tl_problem.specs.Problem.{ProblemModel}
use Rattle.tl_cert.specs.declared.log.Bound.{Bound}
use Rattle.tl_cert.specs.declared.log.LogLine.{LogLine}
use Rattle.tl_cert.specs.declared.trace.CutAt.{CutAt}
use Rattle.tl_cert.specs.Nogoods.{nogood_bounds}
use Rattle.tl_cert.specs.Implied.{IsLeft, Implied, OneLeft}
use Rattle.tl_cert.specs.Lines.{Fires, LineEndsBy, fired}
use Rattle.tl_check.specs.declared.left.Left.{Left}
use Rattle.tl_check.specs.declared.left.Left.TheVariants.{Nothing, One, More}
use Rattle.tl_check.specs.Matrices.{Describes}

-- two different bounds of the nogood are not implied
pub record TwoLeft (problem : ProblemModel) (Among : List ℕ → Type 0) (nogood : List Bound) : Type 0 where
  pub one : Bound
  pub other : Bound
  pub among : Contains nogood one
  pub among_too : Contains nogood other
  pub differ : one ≢ other
  pub not_implied : Implied problem Among one → ⊥
  pub not_implied_too : Implied problem Among other → ⊥

-- what is left of a nogood
abbrev pub HasLeft : ProblemModel → (List ℕ → Type 0) → List Bound → Left → Type 0
HasLeft problem Among nogood Nothing = All (Implied problem Among) nogood
HasLeft problem Among nogood (One bound) = OneLeft problem Among nogood bound
HasLeft problem Among nogood More = TwoLeft problem Among nogood

-- what is left of a nogood as far as it was looked at: each of its bounds is implied, was looked at, or is one of the rest
pub record HasLeftBut (problem : ProblemModel) (Among : List ℕ → Type 0) (nogood rest : List Bound) (left : Left) : Type 0 where
  pub seen : List Bound
  pub has_left : HasLeft problem Among seen left
  pub among : (bound : Bound) → Contains seen bound → Contains nogood bound
  pub others : (bound : Bound) → Contains nogood bound → Implied problem Among bound ⊎ (Contains seen bound ⊎ Contains rest bound)

-- the nogoods were fired, and the constraints leave what is left then
pub record LeadsTo (problem : ProblemModel) (given : List Bound) (nogoods : List (List Bound)) (bounds : Bounds) : Type 0 where
  pub joined : List Bound
  pub fires : Fires problem given [] nogoods joined
  pub describes : Describes problem given joined bounds

-- the nogoods cannot all be fired
abbrev pub NeverFires : ProblemModel → List Bound → List (List Bound) → Type 0
NeverFires problem given nogoods = (last : List Bound) → Fires problem given [] nogoods last → ⊥

-- the line's bounds and fires lead to its end
pub record LeadsToEnd (problem : ProblemModel) (trace : List CutAt) (log : List LogLine) (line : LogLine)
    (lower : ℕ) : Type 0 where
  pub joined : List Bound
  pub fires : Fires problem (nogood_bounds problem trace line.nogood) [] (fired problem trace log line) joined
  pub ends : LineEndsBy problem (IsLeft problem (nogood_bounds problem trace line.nogood) joined) (fired problem trace log line)
      lower line.end
