-- What is left of the widths within the page under bounds, and which bounds follow.
use Rattle.std.specs.Prelude.{◌≢◌, ℕ, List}
use Rattle.std.specs.List.{All, Contains}
use Rattle.tl_problem.specs.Problem.{ProblemModel}
use Rattle.tl_problem.specs.Layouts.{WithinPage}
use Rattle.tl_cert.specs.declared.log.Bound.{Bound}
use Rattle.tl_cert.specs.Nogoods.{Meets, Breaks}

-- the widths are left: they are within the page, meet the given bounds, and break those whose negation joined them
pub record IsLeft (problem : ProblemModel) (given joined : List Bound) (widths : List ℕ) : Type 0 where
  pub page : WithinPage problem widths
  pub meets : All (Meets problem widths) given
  pub breaks : All (Breaks problem widths) joined

-- the bound is implied by a set of widths: all of them meet it. Where there are none, every bound is
abbrev pub Implied : ProblemModel → (List ℕ → Type 0) → Bound → Type 0
Implied problem Among bound = (widths : List ℕ) → Among widths → Meets problem widths bound

-- all bounds of the nogood are implied but this one
pub record OneLeft (problem : ProblemModel) (Among : List ℕ → Type 0) (nogood : List Bound) (bound : Bound) : Type 0 where
  pub among : Contains nogood bound
  pub not_implied : Implied problem Among bound → ⊥
  pub others : (other : Bound) → Contains nogood other → other ≢ bound → Implied problem Among other
