-- When the problem of a table is sound: always, for a sound table that fits the page, where the steps of its nested tables
-- are. Each law is the contract of a function of `problem_laws`.
use Rattle.std.specs.Prelude.{◌≡◌, ℕ, ◌*◌, ◌≤◌, List, IsSomeAnd}
use Rattle.std.specs.List.{AllByRecursion}
use Rattle.tl_base.specs.declared.limits.TheConstants.{MAX_PAGE_WIDTH}
use Rattle.tl_base.specs.declared.style.Style.{Style}
use Rattle.tl_base.specs.Steps.{AreSteps, IsLowAt, first_height, first_width}
use Rattle.tl_problem.specs.declared.placed.Placed.{Placed}
use Rattle.tl_problem.specs.Problem.{ProblemModel}
use Rattle.tl_problem.specs.Placements.{IsPlacement}
use Rattle.tl_table.specs.declared.cell.Table.{Table, out-Table}
use Rattle.tl_form.specs.declared.heights.InnerSteps.{InnerSteps}
use Rattle.tl_table.specs.Tables.{inner_tables}
use Rattle.tl_table.specs.Least.{IsLeastWidth}
use Rattle.tl_table.specs.Sound.{IsSound, table_size}
use Rattle.tl_form.specs.Problems.{HasSoundProblem, IsProblemOf, steps_for}

-- steps of a nested table that leave a problem sound: both begin at its least width, `low` is nowhere above `high`, and
-- they need no more than two lines for all that the table holds
pub record AreSoundSteps (style : Style) (page : ℕ) (nested : Table) (one : InnerSteps) : Type 0 where
  pub decreasing : AreSteps one.low × AreSteps one.high
  pub least : IsLeastWidth nested style (first_width one.low)
  pub same : first_width one.high ≡ first_width one.low
  pub below : (w h : ℕ) → w ≤ page → IsLowAt one.high h w → IsLowAt one.low h w
  pub small : first_height one.high ≤ 2 * table_size nested

-- a sound table that fits the page, with such steps for each table nested directly in it
pub record AreSoundPremises (table : Table) (style : Style) (page : ℕ) (inner : List InnerSteps) : Type 0 where
  pub sound : IsSound table
  pub narrow : page ≤ MAX_PAGE_WIDTH
  pub least : ℕ
  pub is_least : IsLeastWidth table style least
  pub wide : least ≤ page
  pub each : AllByRecursion (λ nested. IsSomeAnd (steps_for inner (out-Table nested).number) (AreSoundSteps style page nested))
      (inner_tables (out-Table table))

-- a sound table that fits the page has a sound problem, where the steps of its nested tables leave it sound
abbrev pub SoundProblemsAlone : Type 0
SoundProblemsAlone = (table : Table) (style : Style) (page : ℕ) (inner : List InnerSteps) →
    AreSoundPremises table style page inner →
    HasSoundProblem table style page inner

-- no placement of such a problem needs more than two lines for all that the table holds
abbrev pub PlacementsAreLow : Type 0
PlacementsAreLow = (table : Table) (style : Style) (page : ℕ) (inner : List InnerSteps) (problem : ProblemModel)
    (placed : Placed) →
    AreSoundPremises table style page inner → IsProblemOf table style page inner problem → IsPlacement problem placed →
    placed.height ≤ 2 * table_size table
