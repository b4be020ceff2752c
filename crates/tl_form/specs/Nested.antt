-- What the sections of a nested table tell of it: at each width a height that no layout is below, and one that a layout
-- has.
use Rattle.std.specs.Prelude.{◌≡◌, ℕ, ◌<◌, ◌≤◌, ◌^◌, List, length}
use Rattle.std.specs.List.{All, AllZip, Any}
use Rattle.tl_base.specs.declared.limits.TheConstants.{MAX_BUDGET, MAX_COLUMNS, MAX_PAGE_WIDTH}
use Rattle.tl_base.specs.declared.style.Style.{Style}
use Rattle.tl_base.specs.Steps.{first_width}
use Rattle.tl_problem.specs.Problem.{ProblemModel}
use Rattle.tl_problem.specs.Sound.{IsSound}
use Rattle.tl_cert.specs.declared.section.Section.{Section}
use Rattle.tl_table.specs.declared.cell.Table.{Table, out-Table}
use Rattle.tl_form.specs.declared.heights.InnerSteps.{InnerSteps}
use Rattle.tl_form.specs.Expected.{placed_width}
use Rattle.tl_table.specs.Least.{IsLeastWidth}
use Rattle.tl_form.specs.Problems.{AreStepsOf, IsProblemOf}
use Rattle.tl_table.specs.Tables.{inner_tables}

-- the section is one of this table on a page of at least `w` columns: its lower bound holds in `w` columns as well
pub record IsAsWide (number w : ℕ) (section : Section) : Type 0 where
  pub of : section.table ≡ number
  pub wide : w ≤ section.width

-- the section is one of this table, and its placement takes at most `w` columns
pub record IsPlacedWithin (style : Style) (number w : ℕ) (section : Section) : Type 0 where
  pub of : section.table ≡ number
  pub narrow : placed_width style section ≤ w

-- the greatest lower bound of the table's sections on pages of at least `w` columns
pub record IsGreatestLower (sections : List Section) (number w lower : ℕ) : Type 0 where
  pub attained : Any (λ section. IsAsWide number w section × (section.lower ≡ lower)) sections
  pub never_more : All (λ section. IsAsWide number w section → section.lower ≤ lower) sections

-- the least height of the table's sections whose placements take at most `w` columns
pub record IsLeastFound (style : Style) (sections : List Section) (number w height : ℕ) : Type 0 where
  pub attained : Any (λ section. IsPlacedWithin style number w section × (section.height ≡ height)) sections
  pub never_less : All (λ section. IsPlacedWithin style number w section → height ≤ section.height) sections

-- the steps of a nested table by the sections: both begin at its least width, and go up to `page` columns
pub record AreStepsBy (style : Style) (page : ℕ) (sections : List Section) (nested : Table) (steps : InnerSteps) : Type 0 where
  pub named : steps.table ≡ (out-Table nested).number
  pub least : ℕ
  pub is_least : IsLeastWidth nested style least
  pub begins : (first_width steps.low ≡ least) × (first_width steps.high ≡ least)
  pub low : AreStepsOf (λ w lower. (least ≤ w) × IsGreatestLower sections (out-Table nested).number w lower) page steps.low
  pub high : AreStepsOf (λ w height. (least ≤ w) × IsLeastFound style sections (out-Table nested).number w height) page
      steps.high

-- the steps of the tables nested directly in a table, in the order of its cells and their blocks
abbrev pub AreInnerSteps : Table → Style → ℕ → List Section → List InnerSteps → Type 0
AreInnerSteps table style page sections inner = AllZip (AreStepsBy style page sections) (inner_tables (out-Table table)) inner

-- ---- the problem of a section

-- the problem of a section of the table at a width, on what the sections before it tell
pub record IsProblemFor (table : Table) (style : Style) (width : ℕ) (before : List Section)
    (problem : ProblemModel) : Type 0 where
  pub inner : List InnerSteps
  pub steps : AreInnerSteps table style width before inner
  pub made : IsProblemOf table style width inner problem
  pub sound : IsSound problem

-- a section whose numbers are in their ranges
pub record IsSectionInRange (section : Section) : Type 0 where
  pub narrow : section.width ≤ MAX_PAGE_WIDTH
  pub cuts : length section.trace ≤ MAX_BUDGET
  pub lines : length section.log < 2 ^ 32
  pub few : length section.widths ≤ MAX_COLUMNS
