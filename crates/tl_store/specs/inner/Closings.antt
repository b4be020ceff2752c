-- No public clause cites this file. The first nogood that is implied, among those looked at so far.
use Rattle.std.specs.Prelude.{ℕ, ◌<◌, ◌≤◌, List, [], Option, None, Some, get_or}
use Rattle.std.specs.List.{All}
use Rattle.tl_problem.specs.Problem.{ProblemModel}
use Rattle.tl_cert.specs.declared.log.Bound.{Bound}
use Rattle.tl_cert.specs.Implied.{Implied}

-- the widths imply the nogood under this number whole
abbrev pub IsImpliedWhole : ProblemModel → (List ℕ → Type 0) → List (List Bound) → ℕ → Type 0
IsImpliedWhole problem Among nogoods k = All (Implied problem Among) (get_or nogoods k [])

-- it is the least of the listed numbers that closes and is below a number, or that number where none is
pub record IsFirstIn (Closes Listed : ℕ → Type 0) (below first : ℕ) : Type 0 where
  pub most : first ≤ below
  pub closes : first < below → Closes first
  pub none : (k : ℕ) → Listed k → k < first → Closes k → ⊥

-- the widths imply the bound of a group, if it has one
abbrev pub MayHold : ProblemModel → (List ℕ → Type 0) → Option Bound → Type 0
MayHold problem Among None = Unit {0}
MayHold problem Among (Some bound) = Implied problem Among bound
