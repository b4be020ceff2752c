-- Laws of the problem of a table. Each is the contract of a function of `problem_laws`.
use Rattle.std.specs.Prelude.{◌≡◌, ℕ, ◌≤◌, List, Some}
use Rattle.std.specs.List.{AllZip, AllByRecursion}
use Rattle.tl_base.specs.declared.style.Style.{Style}
use Rattle.tl_base.specs.Steps.{IsLowAt, height_at}
use Rattle.tl_problem.specs.declared.cell.Cell.{Cell}
use Rattle.tl_problem.specs.Problem.{ProblemModel, total_width, total_height}
use Rattle.tl_problem.specs.Layouts.{IsLayoutByLow, IsLayoutByHigh}
use Rattle.tl_problem.specs.Sound.{IsSound}
use Rattle.tl_table.specs.declared.cell.Table.{Table, out-Table}
use Rattle.tl_form.specs.declared.heights.InnerSteps.{InnerSteps}
use Rattle.tl_table.specs.declared.layout.Layout.{Layout, out-Layout}
use Rattle.tl_table.specs.Tables.{inner_tables}
use Rattle.tl_table.specs.Layouts.{Fits}
use Rattle.tl_table.specs.Least.{IsLeastHeight}
use Rattle.tl_form.specs.Problems.{InnerNeeds, IsProblemOf, IsTrueProblem}

-- ---- bounds between which the true heights of nested tables lie

-- where a layout of the nested table fits so many columns, up to those of the page, the bound is no higher than it
abbrev pub IsBelowLayouts : (Table → ℕ → ℕ → Type 0) → Style → ℕ → Table → Type 0
IsBelowLayouts needs style page nested = (w height : ℕ) (layout : Layout) → w ≤ page → Fits nested style w height layout →
    (h : ℕ) × needs nested w h × (h ≤ height)

-- where there is a bound, a layout that is no higher fits
abbrev pub IsAboveLayouts : (Table → ℕ → ℕ → Type 0) → Style → ℕ → Table → Type 0
IsAboveLayouts needs style page nested = (w h : ℕ) → w ≤ page → needs nested w h →
    (height : ℕ) × (layout : Layout) × Fits nested style w height layout × (height ≤ h)

-- on up to `page` columns the `low` steps of a table nested directly in this one are no higher than any layout that fits
abbrev pub LowIsBelow : Table → Style → ℕ → List InnerSteps → Type 0
LowIsBelow table style page inner = AllByRecursion (IsBelowLayouts (InnerNeeds (λ one. one.low) inner) style page)
    (inner_tables (out-Table table))

-- on up to `page` columns, where the `high` steps of a table nested directly in this one have a height, a layout that is
-- no higher fits
abbrev pub HighIsAbove : Table → Style → ℕ → List InnerSteps → Type 0
HighIsAbove table style page inner = AllByRecursion (IsAboveLayouts (InnerNeeds (λ one. one.high) inner) style page)
    (inner_tables (out-Table table))

-- ---- laws

-- a table has one problem with the same steps for its nested tables
abbrev pub ProblemIsDetermined : Type 0
ProblemIsDetermined = (table : Table) (style : Style) (page : ℕ) (inner : List InnerSteps) (one other : ProblemModel) →
    IsProblemOf table style page inner one → IsProblemOf table style page inner other → one ≡ other

-- with `low` below, each layout of the table that fits the page is one of the problem by `low`, as high
abbrev pub LayoutsAreByLow : Type 0
LayoutsAreByLow = (table : Table) (style : Style) (page : ℕ) (inner : List InnerSteps) (problem : ProblemModel) →
    IsProblemOf table style page inner problem → IsSound problem → LowIsBelow table style page inner →
    (height : ℕ) (layout : Layout) → Fits table style page height layout →
    IsLayoutByLow problem (out-Layout layout).widths (out-Layout layout).heights
    × (total_height problem (out-Layout layout).heights ≡ height)

-- with `high` above, the widths and heights of each layout of the problem by `high` are those of a layout of the table
-- that fits a page just as wide
abbrev pub LayoutsByHighFit : Type 0
LayoutsByHighFit = (table : Table) (style : Style) (page : ℕ) (inner : List InnerSteps) (problem : ProblemModel) →
    IsProblemOf table style page inner problem → IsSound problem → HighIsAbove table style page inner →
    (widths heights : List ℕ) → IsLayoutByHigh problem widths heights →
    (layout : Layout) × Fits table style (total_width problem widths) (total_height problem heights) layout
    × ((out-Layout layout).widths ≡ widths) × ((out-Layout layout).heights ≡ heights)

-- at each width up to the page's the `low` of a cell is at most what it needs truly, and its `high` at least that
pub record CellIsBetween (page : ℕ) (cell real : Cell) : Type 0 where
  pub low : (w h : ℕ) → w ≤ page → height_at real.low w ≡ Some h → IsLowAt cell.low h w
  pub high : (w h k : ℕ) → w ≤ page → height_at real.high w ≡ Some h → height_at cell.high w ≡ Some k → h ≤ k

-- with `low` below the layouts of nested tables and `high` above some, what each cell needs truly lies between its `low` and its
-- `high`
abbrev pub TrueStepsLieBetween : Type 0
TrueStepsLieBetween = (table : Table) (style : Style) (page : ℕ) (inner : List InnerSteps) (problem real : ProblemModel) →
    IsProblemOf table style page inner problem → IsTrueProblem table style page real → LowIsBelow table style page inner →
    HighIsAbove table style page inner → AllZip (CellIsBetween page) problem.cells real.cells

-- `low` and `high` of each nested table are the same up to the page's width
abbrev pub BoundsMeet : Table → ℕ → List InnerSteps → Type 0
BoundsMeet table page inner = AllByRecursion (λ nested. (w h : ℕ) → w ≤ page →
    InnerNeeds (λ one. one.low) inner nested w h → InnerNeeds (λ one. one.high) inner nested w h)
    (inner_tables (out-Table table))

-- `height` is the least total height of any layout by `high`
pub record IsLeastByHigh (problem : ProblemModel) (height : ℕ) : Type 0 where
  pub attained : (widths heights : List ℕ) × IsLayoutByHigh problem widths heights × (total_height problem heights ≡ height)
  pub least : (widths heights : List ℕ) → IsLayoutByHigh problem widths heights → height ≤ total_height problem heights

-- where the bounds meet the problem is the true one, and the least height of its layouts is that of the table's
abbrev pub TrueWhereBoundsMeet : Type 0
TrueWhereBoundsMeet = (table : Table) (style : Style) (page : ℕ) (inner : List InnerSteps) (problem : ProblemModel) →
    IsProblemOf table style page inner problem → IsSound problem → LowIsBelow table style page inner →
    HighIsAbove table style page inner → BoundsMeet table page inner →
    IsTrueProblem table style page problem
    × ((height : ℕ) → IsLeastByHigh problem height → IsLeastHeight table style page height)
    × ((height : ℕ) → IsLeastHeight table style page height → IsLeastByHigh problem height)
