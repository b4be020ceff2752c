-- Demands of cells on the columns that they cover, and the heaviest chain of them. No public clause cites this file.
use Rattle.std.specs.Prelude.{◌≡◌, ℕ, ◌+◌, ◌-◌, ◌*◌, ◌^◌, ◌<◌, ◌≤◌, ◌⊎◌, List, [], ◌∷◌, length, sum_by, Some, IsSomeAnd, Contains}
use Rattle.std.specs.Prelude.{slice_get, get_or}
use Rattle.std.specs.List.{All, AllZip, Any}
use Rattle.tl_base.specs.declared.style.Style.{Style}
use Rattle.tl_base.specs.declared.limits.TheConstants.{MAX_COLUMNS, MAX_PAGE_WIDTH}
use Rattle.tl_base.specs.Style.{gap_of, edges_of}
use Rattle.tl_diff.specs.declared.paths.Arc.{Arc}
use Rattle.tl_diff.specs.declared.paths.TheConstants.{MAX_PATH_WEIGHT}
use Rattle.tl_base.specs.Sizes.{room, IsLeastTotal}
use Rattle.tl_table.specs.declared.widest.Demand.{Demand}
use Rattle.tl_table.specs.declared.widest.NumberedArc.{NumberedArc}

-- a demand covers columns of a table of so many
abbrev pub IsPlacedDemand : ℕ → Demand → Type 0
IsPlacedDemand cols demand = (demand.left < demand.right) × (demand.right ≤ cols)

-- no table has more columns of text in its gaps and edges
abbrev pub most_gaps : ℕ
most_gaps = 2 * MAX_COLUMNS

-- how wide a table, a cell or a block of this size is at most: for each cell, unit and break of it a page and the gaps
abbrev pub most_width : ℕ → ℕ
most_width size = (MAX_PAGE_WIDTH + most_gaps) * size

-- the demands, and the gaps of a table for each of them, are small beside a table of this size
abbrev pub AreSmallDemands : List Demand → ℕ → Type 0
AreSmallDemands demands size = sum_by (λ demand. demand.width) demands + most_gaps * length demands ≤ most_width size

-- demands that a table of so many columns may have: each covers columns, one covers the last column alone, and their
-- widths are small
pub record AreDemands (cols : ℕ) (demands : List Demand) : Type 0 where
  pub few_columns : cols ≤ MAX_COLUMNS
  pub few : length demands < 2 ^ 32
  pub placed : All (IsPlacedDemand cols) demands
  pub anchored : 0 < cols → Any (λ demand. demand.left + 1 ≡ cols) demands
  pub small : sum_by (λ demand. demand.width) demands ≤ MAX_PATH_WEIGHT

-- the widths, one for each column, give each demand its room
pub record GiveRooms (gap cols : ℕ) (demands : List Demand) (widths : List ℕ) : Type 0 where
  pub columns : length widths ≡ cols
  pub each : All (λ demand. demand.width ≤ room gap widths demand.left demand.right) demands

-- the least total width of columns that give each demand its room
abbrev pub IsLeastFor : Style → ℕ → List Demand → ℕ → Type 0
IsLeastFor style cols demands weight = IsLeastTotal (gap_of style) (edges_of style)
    (GiveRooms (gap_of style) cols demands) weight

-- what the demand asks of its columns beside the gaps between them
abbrev pub arc_of : ℕ → Demand → Arc
arc_of gap demand = record
    { from = demand.left; to = demand.right; weight = demand.width - gap * (demand.right - demand.left - 1) }

-- the arc is that of the demand of its number, and has a weight
abbrev pub IsArcOf : ℕ → List Demand → NumberedArc → Type 0
IsArcOf gap demands one = IsSomeAnd (slice_get demands one.number)
    (λ demand. (one.arc ≡ arc_of gap demand) × (0 < one.arc.weight))

-- the first `n` demands have their arcs among these, but those that the gaps are enough for
pub record HaveArcs (gap : ℕ) (demands : List Demand) (n : ℕ) (arcs : List NumberedArc) : Type 0 where
  pub each : All (IsArcOf gap demands) arcs
  pub every : (k : ℕ) (demand : Demand) → k < n → slice_get demands k ≡ Some demand →
      ((arc_of gap demand).weight ≡ 0) ⊎ Contains arcs (record { number = k; arc = arc_of gap demand })

-- from a column on, each begins at or past the right edge of the one before
abbrev pub AreInRow : ℕ → List Demand → Type 0
AreInRow from [] = Unit {0}
AreInRow from (demand ∷ demands) = (from ≤ demand.left) × AreInRow demand.right demands

-- how many columns the demands cover
abbrev pub columns_demanded : List Demand → ℕ
columns_demanded demands = sum_by (λ demand. demand.right - demand.left) demands

-- what demands in a row weigh in a table of so many columns
abbrev pub demands_weight : Style → ℕ → List Demand → ℕ
demands_weight style cols demands = sum_by (λ demand. demand.width) demands
    + gap_of style * (length demands + (cols - columns_demanded demands) - 1) + edges_of style

-- the numbers are those of demands in a row, at least one, and these weigh `weight`
pub record IsRowOf (style : Style) (cols : ℕ) (demands : List Demand) (numbers : List ℕ) (weight : ℕ) : Type 0 where
  pub some : 0 < length numbers
  pub picked : List Demand
  pub named : AllZip (λ number demand. slice_get demands number ≡ Some demand) numbers picked
  pub in_row : AreInRow 0 picked
  pub weighed : weight ≡ demands_weight style cols picked

-- the number of the demand of an arc
abbrev pub demand_number : List NumberedArc → ℕ → ℕ
demand_number arcs i = (get_or arcs i (record { number = 0; arc = record { from = 0; to = 0; weight = 0 } })).number
