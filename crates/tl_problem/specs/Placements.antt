-- Placements: widths within the page with the least heights of rows under them, by `high`.
use Rattle.std.specs.Prelude.{◌≡◌, ℕ, ◌≤◌, List, length}
use Rattle.tl_problem.specs.declared.placed.Outline.{Outline}
use Rattle.tl_problem.specs.declared.placed.Placed.{Placed}
use Rattle.tl_base.specs.Sizes.{position}
use Rattle.tl_problem.specs.Problem.{ProblemModel, total_width, total_height}
use Rattle.tl_problem.specs.Layouts.{WithinPage, GiveHigh}
use Rattle.tl_problem.specs.Bounds.{IsBound}

-- of all sizes of this kind, these begin each column, or row, at the least place, and end at the least
pub record AreLeast (gap : ℕ) (OfKind : List ℕ → Type 0) (sizes : List ℕ) : Type 0 where
  pub kind : OfKind sizes
  pub earliest : (other : List ℕ) → OfKind other → (place : ℕ) → place ≤ length sizes →
      position gap sizes place ≤ position gap other place

-- a placement: widths within the page, the least heights that give each cell its `high` at its room, and both totals
pub record IsPlacement (problem : ProblemModel) (placed : Placed) : Type 0 where
  pub page : WithinPage problem placed.widths
  pub rows : AreLeast problem.spacing.row_gap (GiveHigh problem placed.widths) placed.heights
  pub width : placed.width ≡ total_width problem placed.widths
  pub height : placed.height ≡ total_height problem placed.heights

-- the placement at the least positions of a set of widths
pub record IsPlacementIn (problem : ProblemModel) (Among : List ℕ → Type 0) (placed : Placed) : Type 0 where
  pub columns : AreLeast problem.spacing.gap Among placed.widths
  pub placement : IsPlacement problem placed

-- the opening: the placement at the least positions of all widths within the page
abbrev pub IsOpening : ProblemModel → Placed → Type 0
IsOpening problem placed = IsPlacementIn problem (WithinPage problem) placed

-- the outline of a set of widths: its bound, and the widths at its least positions
pub record IsOutline (problem : ProblemModel) (Among : List ℕ → Type 0) (outline : Outline) : Type 0 where
  pub bound : IsBound problem Among outline.bound
  pub widths : AreLeast problem.spacing.gap Among outline.widths

-- no rows that give each cell its `high` under these widths are lower than the height
abbrev pub HasNoLower : ProblemModel → List ℕ → ℕ → Type 0
HasNoLower problem widths height = (heights : List ℕ) → GiveHigh problem widths heights → height ≤ total_height problem heights
