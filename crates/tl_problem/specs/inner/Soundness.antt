-- What the parts of the test for a sound problem find; no public clause cites this file.
use Rattle.tl_base.specs.Style.{spacing_of}
use Rattle.std.specs.Prelude.{◌≡◌, ℕ, ◌+◌, ◌*◌, ◌<◌, ◌≤◌, ◌⊎◌, List, [], length, get_or, Option, Some, None}
use Rattle.std.specs.List.{AllPairs, Any}
use Rattle.std.specs.Option.{IsSomeAnd}
use Rattle.tl_base.specs.declared.spacing.Spacing.{Spacing}
use Rattle.tl_base.specs.declared.style.Style.TheVariants.{Plain}
use Rattle.tl_base.specs.declared.steps.Config.{Config}
use Rattle.tl_base.specs.Steps.{first_width, IsLowAt}
use Rattle.tl_problem.specs.declared.axis.Axis.{Axis}
use Rattle.tl_problem.specs.declared.cell.Cell.{Cell}
use Rattle.tl_base.specs.Sizes.{position}
use Rattle.tl_problem.specs.Problem.{ProblemModel}
use Rattle.tl_problem.specs.Layouts.{WithinPage}
use Rattle.tl_problem.specs.Sound.{ShareSlot}
use Rattle.tl_problem.specs.inner.Axes.{start_of}
use Rattle.tl_problem.specs.inner.Demands.{cell_at}
use Rattle.tl_problem.specs.inner.Spanning.{slot_of}

-- so many columns and rows, with no cells and no page: what a cell alone is tested against
abbrev pub grid : ℕ → ℕ → ProblemModel
grid cols rows = record { cols = cols; rows = rows; spacing = spacing_of Plain 0; width = 0; cells = [] }

-- where no more than `h` lines are needed by `high`, no more are needed by `low`
abbrev pub IsNowhereAbove : List Config → List Config → Type 0
IsNowhereAbove low high = (h w : ℕ) → IsLowAt high h w → IsLowAt low h w

-- no two cells cover one slot
abbrev pub AreSeparate : List Cell → Type 0
AreSeparate cells = AllPairs (λ a b. ShareSlot a b → ⊥) cells

-- the cell with this number covers no slot that a later one covers
abbrev pub IsSeparate : List Cell → ℕ → Type 0
IsSeparate cells number = (later : ℕ) → number < later → later < length cells →
    ShareSlot (cell_at cells number) (cell_at cells later) → ⊥

-- no cell begins above one before it
abbrev pub AreByTop : List Cell → Type 0
AreByTop cells = (number later : ℕ) → number ≤ later → later < length cells →
    (cell_at cells number).top ≤ (cell_at cells later).top

-- no cell from `first` to before `past` begins in this column, or row
abbrev pub BeginsNowhere : Axis → ℕ → List Cell → ℕ → ℕ → Type 0
BeginsNowhere axis place cells first past = (k : ℕ) → first ≤ k → k < past → start_of axis (cell_at cells k) ≡ place → ⊥

-- in each column, or row, a cell begins
abbrev pub EachBegins : Axis → ℕ → List Cell → Type 0
EachBegins axis count cells = (place : ℕ) → place < count → Any (λ cell. start_of axis cell ≡ place) cells

-- some widths of so many columns are within a page of this spacing and width
abbrev pub FitsPageWidth : ℕ → Spacing → ℕ → List Cell → Type 0
FitsPageWidth cols spacing width cells = (widths : List ℕ)
    × WithinPage (record { cols = cols; rows = 0; spacing = spacing; width = width; cells = cells }) widths

-- the column begins at or past this place: past the gap of the column before it, and past each cell that ends there
abbrev pub IsPastRoom : ℕ → List ℕ → Cell → ℕ → Type 0
IsPastRoom gap places cell place = get_or places cell.left 0 + first_width cell.low + gap ≤ place

-- the cell begins at one of so many places of columns, and ends at a later one
abbrev pub IsOnPlaces : ℕ → Cell → Type 0
IsOnPlaces side cell = (cell.left < cell.right) × (cell.right < side)

-- for each two of so many places of columns, row by row, the greatest least width of the first cells, up to a number,
-- between them
pub record AreWidest (side : ℕ) (cells : List Cell) (upto : ℕ) (widest : List (Option ℕ)) : Type 0 where
  pub size : length widest ≡ side * side
  pub all : (k : ℕ) → k < upto →
      IsSomeAnd (get_or widest (slot_of side (cell_at cells k)) None) (λ w. first_width (cell_at cells k).low ≤ w)
  pub some : (pair w : ℕ) → get_or widest pair None ≡ Some w →
      (k : ℕ) × ((k < upto) × ((slot_of side (cell_at cells k) ≡ pair) × (first_width (cell_at cells k).low ≡ w)))

-- the least place for the column after this one, by the places before it and the cells that begin in the first columns, up
-- to one
pub record IsNextPlace (gap : ℕ) (cells : List Cell) (upto : ℕ) (places : List ℕ) (column place : ℕ) : Type 0 where
  pub gaps : get_or places column 0 + gap ≤ place
  pub rooms : (k : ℕ) → k < length cells → (cell_at cells k).left < upto → (cell_at cells k).right ≡ column + 1 →
      IsPastRoom gap places (cell_at cells k) place
  pub attained : (get_or places column 0 + gap ≡ place)
      ⊎ ((k : ℕ) × ((k < length cells) × (((cell_at cells k).right ≡ column + 1)
      × (get_or places (cell_at cells k).left 0 + first_width (cell_at cells k).low + gap ≡ place))))

-- each place up to a column is the least: widths that give each cell its least width begin no column before it
pub record AreLeastPlaces (gap : ℕ) (cells : List Cell) (upto : ℕ) (places : List ℕ) : Type 0 where
  pub first : get_or places 0 0 ≡ 0
  pub gaps : (k : ℕ) → k < upto → get_or places k 0 + gap ≤ get_or places (k + 1) 0
  pub rooms : (k : ℕ) → k < length cells → (cell_at cells k).right ≤ upto →
      IsPastRoom gap places (cell_at cells k) (get_or places (cell_at cells k).right 0)
  pub least : (widths : List ℕ) → ((k : ℕ) → k < length cells →
      position gap widths (cell_at cells k).left + first_width (cell_at cells k).low + gap ≤ position gap widths
      (cell_at cells k).right) →
      (place : ℕ) → place ≤ upto → get_or places place 0 ≤ position gap widths place
