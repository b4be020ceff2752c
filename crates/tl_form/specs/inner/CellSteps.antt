-- What the calls that find the steps of a cell promise each other. No public clause cites this file.
use Rattle.std.specs.Prelude.{◌≡◌, ℕ, ◌-◌, ◌≤◌, List, [], IsSome, option_map, sum}
use Rattle.std.specs.List.{All, AllZip, AllByRecursion}
use Rattle.tl_base.specs.declared.limits.TheConstants.{MAX_HEIGHT}
use Rattle.tl_base.specs.declared.steps.Config.{Config}
use Rattle.tl_base.specs.Steps.{AreSteps, height_at}
use Rattle.tl_table.specs.declared.cell.Content.{Content, out-Content}
use Rattle.tl_table.specs.declared.cell.Table.{Table, out-Table}
use Rattle.tl_table.specs.declared.cell.TableCell.{TableCell, out-TableCell}
use Rattle.tl_form.specs.declared.heights.HeightBound.{HeightBound}
use Rattle.tl_form.specs.declared.heights.HeightBound.TheVariants.{Low, High}
use Rattle.tl_form.specs.declared.heights.InnerSteps.{InnerSteps}
use Rattle.tl_table.specs.Tables.{OpenCell, tables_of}
use Rattle.tl_form.specs.Problems.{BlockNeeds, CellNeeds, InnerNeeds, steps_for}

-- the steps of a nested table that are this bound
abbrev pub bound_of : HeightBound → InnerSteps → List Config
bound_of Low one = one.low
bound_of High one = one.high

-- what nested tables need by this bound of them
abbrev pub NeedsBy : HeightBound → List InnerSteps → Table → ℕ → ℕ → Type 0
NeedsBy bound inner = InnerNeeds (bound_of bound) inner

-- each of the tables has its steps among these
abbrev pub HaveSteps : List InnerSteps → List Table → Type 0
HaveSteps inner tables = AllByRecursion (λ nested. IsSome (steps_for inner (out-Table nested).number)) tables

-- from `least` columns on there is a height, and none before
pub record IsStart (needs : ℕ → ℕ → Type 0) (least : ℕ) : Type 0 where
  pub from : (w h : ℕ) → needs w h → least ≤ w
  pub has : (w : ℕ) → least ≤ w → (h : ℕ) × needs w h

-- what is needed, from a width on
abbrev pub From : ℕ → (ℕ → ℕ → Type 0) → ℕ → ℕ → Type 0
From from needs w h = (from ≤ w) × needs w h

-- blocks one under the other need `h` lines in `w` columns
abbrev pub BlocksNeed : (Table → ℕ → ℕ → Type 0) → List Content → ℕ → ℕ → Type 0
BlocksNeed needs blocks w h = (heights : List ℕ)
    × AllZip (λ block height. BlockNeeds needs (out-Content block) w height) blocks heights × (sum heights ≡ h)

-- no table is nested in the block
abbrev pub IsPlainBlock : Content → Type 0
IsPlainBlock block = tables_of (out-Content block) ≡ []

-- these are the steps so many lines lower, and none below 0: they reach no further, and at each width up to which there is a
-- height they have one
pub record AreLowered (lines : ℕ) (steps low : List Config) : Type 0 where
  pub decreasing : AreSteps low
  pub within : (page : ℕ) → All (λ step. step.width ≤ page) steps → All (λ step. step.width ≤ page) low
  pub heights : (w : ℕ) → height_at low w ≡ option_map (λ h. h - lines) (height_at steps w)

-- the cell with so many lines inside has a height on a page of so many columns, and its greatest, at its least width, is
-- within the limit
pub record IsLowCell (needs : Table → ℕ → ℕ → Type 0) (page inside : ℕ) (cell : OpenCell) : Type 0 where
  pub some : (h : ℕ) × CellNeeds needs inside cell page h
  pub low : (start h : ℕ) → IsStart (CellNeeds needs inside cell) start → CellNeeds needs inside cell start h → h ≤ MAX_HEIGHT

-- by both bounds the cell has a height on a page of so many columns, and none above the limit
pub record IsLowByBoth (inner : List InnerSteps) (page inside : ℕ) (cell : OpenCell) : Type 0 where
  pub by_low : IsLowCell (NeedsBy Low inner) page inside cell
  pub by_high : IsLowCell (NeedsBy High inner) page inside cell

-- by both bounds each cell has a height on a page of so many columns, and none above the limit; `inside` says how many lines lie
-- inside each
abbrev pub AreLowCells : List InnerSteps → ℕ → (TableCell → ℕ) → List TableCell → Type 0
AreLowCells inner page inside cells = AllByRecursion (λ cell. IsLowByBoth inner page (inside cell) (out-TableCell cell)) cells
