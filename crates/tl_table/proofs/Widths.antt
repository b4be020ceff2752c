-- Demands of a sound table, and how wide it is beside what it holds.
use Rattle.std.proofs.Common.{◌≡◌, ◌∙◌, ℕ, zero, suc, ◌+◌, ◌-◌, ◌<◌, ◌≤◌, max, List, [], ◌∷◌, ◌++◌, length, take, map, get_or}
use Rattle.std.proofs.Common.{sum_by}
use Rattle.std.proofs.Common.{slice_index_or, refl, sym, ap, subst, length-append, arith}
use Rattle.std.specs.List.{All, AllByRecursion}
use Rattle.std.proofs.lemmas.List.Sums.{sum_by-cons, sum_by-append, sum_by_more}
use Rattle.std.proofs.lemmas.List.Elements.{recursion_from_All, All-from_recursion}
use Rattle.tl_base.specs.declared.limits.TheConstants.{MAX_COLUMNS, MAX_PAGE_WIDTH}
use Rattle.tl_base.specs.declared.style.Style.{Style}
use Rattle.tl_base.specs.Style.{gap_of}
use Rattle.tl_grid.specs.declared.shape.Place.{Place}
use Rattle.tl_grid.specs.Dropping.{IsPlaced}
use Rattle.tl_grid.specs.Slots.{HasAnchorInColumn}
use Rattle.tl_base.specs.Sizes.{room}
use Rattle.tl_base.proofs.Taken.{taken_more, AllZip-taken}
use Rattle.tl_table.specs.declared.cell.Content.{Content, out-Content}
use Rattle.tl_table.specs.declared.cell.Table.{Table, out-Table}
use Rattle.tl_table.specs.declared.cell.TableCell.{TableCell, out-TableCell}
use Rattle.tl_table.specs.declared.widest.Demand.{Demand}
use Rattle.tl_table.specs.Tables.{OpenTable}
use Rattle.tl_table.specs.Least.{IsLeastWidth}
use Rattle.tl_table.specs.Sound.{IsSoundWithin, IsSound, place_of, places_of, table_size, cell_size, content_size}
use Rattle.tl_table.specs.inner.Demands.{AreDemands, AreSmallDemands, IsPlacedDemand, IsLeastFor, most_gaps, most_width}
use Rattle.tl_table.specs.inner.LeastRooms.{IsDemandOf, AreDemandsOf, IsLeastForBlock, IsLeastForBlocks, IsLeastCellRoom}
use Rattle.tl_table.proofs.LeastRoomLemmas.{least_for_none, least_for_more, least_for_cell}
use Rattle.tl_table.proofs.LeastWidths.{least_width_for}
use Rattle.tl_table.proofs.SizesOpen.{table_size-out, cell_size-out}

-- ---- a table without a column

placed_nowhere : (demands : List Demand) → All (IsPlacedDemand 0) demands → AllByRecursion (λ demand. demand.width ≤ 0) demands
placed_nowhere demands placed = go demands (recursion_from_All (IsPlacedDemand 0) demands placed)
  where
    go : (demands : List Demand) → AllByRecursion (IsPlacedDemand 0) demands → AllByRecursion (λ demand. demand.width ≤ 0) demands
    go [] placed = tt
    go (demand ∷ demands) placed = (absurd (omega (arith, placed.0.0, placed.0.1)), go demands placed.1)

nowhere : (gap : ℕ) (demands : List Demand) → All (IsPlacedDemand 0) demands →
    All (λ demand. demand.width ≤ room gap [] demand.left demand.right) demands
nowhere gap demands placed = All-from_recursion (λ demand. demand.width ≤ room gap [] demand.left demand.right) demands
    (go demands (placed_nowhere demands placed))
  where
    go : (demands : List Demand) → AllByRecursion (λ demand. demand.width ≤ 0) demands →
        AllByRecursion (λ demand. demand.width ≤ room gap [] demand.left demand.right) demands
    go [] small = tt
    go (demand ∷ demands) small = (omega (arith, small.0), go demands small.1)

pub least_for_no_columns : (style : Style) (cols : ℕ) (demands : List Demand) → cols ≡ 0 → AreDemands cols demands →
    IsLeastFor style cols demands 0
least_for_no_columns style cols demands none those =
    subst (λ n. IsLeastFor style n demands 0) (sym none) (record {
      attained = (
        [],
        record {
          columns = refl;
          each = nowhere (gap_of style) demands
              (subst (λ n. All (IsPlacedDemand n) demands) none those.placed);
        },
        refl,
      );
      never_less = λ sizes give. omega arith;
    })

-- ---- the demands of a sound table

module _ (style : Style) (cols : ℕ) where
  placed_demands : (rows : ℕ) (cells : List TableCell) (demands : List Demand) → AreDemandsOf style cells demands →
      AllByRecursion (IsPlaced cols rows) (map place_of cells) → AllByRecursion (IsPlacedDemand cols) demands
  placed_demands rows [] [] those placed = tt
  placed_demands rows [] (demand ∷ demands) those placed = absurd those
  placed_demands rows (cell ∷ cells) [] those placed = absurd those
  placed_demands rows (cell ∷ cells) (demand ∷ demands) those placed = (
    (omega (arith, those.0.left, those.0.right, placed.0.0), omega (arith, those.0.right, placed.0.1)),
    placed_demands rows cells demands those.1
        placed.1,
  )

  anchored_demand : (column : ℕ) (cells : List TableCell) (demands : List Demand) (k : ℕ) (place : Place) →
      AreDemandsOf style cells demands →
      k < length (map place_of cells) →
      (slice_index_or (map place_of cells) k place).left ≡ column →
      (demand : Demand) × (k < length demands) × (slice_index_or demands k demand ≡ demand) × (demand.left ≡ column)
  anchored_demand column [] demands k place those within at = absurd (omega arith)
  anchored_demand column (cell ∷ cells) [] k place those within at = absurd those
  anchored_demand column (cell ∷ cells) (demand ∷ demands) zero place those within at =
      (demand, omega arith, refl, those.0.left ∙ at)
  anchored_demand column (cell ∷ cells) (demand ∷ demands) (suc k) place those within at =
      let rest = anchored_demand column cells demands k place those.1 (omega arith) at in
      (rest.0, omega (arith, rest.1), rest.2, rest.3)

-- a sound table has these facts at any depth
pub record HasGrid (table : OpenTable) : Type 0 where
  pub few : table.cols ≤ MAX_COLUMNS
  pub placed : All (IsPlaced table.cols table.rows) (places_of table)
  pub columns : (column : ℕ) → column < table.cols → HasAnchorInColumn (places_of table) column

pub grid_of : (table : Table) (depth : ℕ) → IsSoundWithin depth table → HasGrid (out-Table table)
grid_of table zero sound = absurd sound
grid_of table (suc depth) sound = record { few = sound.few_columns; placed = sound.placed; columns = sound.columns }

placed_cells : (cols rows : ℕ) (cells : List TableCell) → AllByRecursion (IsPlaced cols rows) (map place_of cells) →
    AllByRecursion (λ cell. IsPlaced cols rows (place_of cell)) cells
placed_cells cols rows [] placed = tt
placed_cells cols rows (cell ∷ cells) placed = (placed.0, placed_cells cols rows cells placed.1)

pub are_demands : (style : Style) (table : Table) (demands : List Demand) → IsSound table →
    AreDemandsOf style (out-Table table).cells demands →
    AreSmallDemands demands (table_size table) → AreDemands (out-Table table).cols demands
are_demands style table demands sound those small = record {
  few_columns = grid.few;
  few = omega (arith, sound.size);
  placed = All-from_recursion (IsPlacedDemand open_table.cols) demands
      (placed_demands style open_table.cols open_table.rows open_table.cells demands those
      (recursion_from_All (IsPlaced open_table.cols open_table.rows) (places_of open_table) grid.placed));
  anchored = λ some.
      let there = grid.columns (open_table.cols - 1) (omega arith) in
      let at = anchored_demand style open_table.cols (open_table.cols - 1) open_table.cells demands there.0 there.1 those there.2
      (ap (λ place. place.left) there.3 ∙ there.4) in
      (there.0, at.0, at.1, at.2, omega (arith, at.3));
  small = omega (arith, sound.size);
} where
  open_table : OpenTable
  open_table = out-Table table

  grid : HasGrid (out-Table table)
  grid = grid_of table sound.depth sound.sound

-- the least total for its demands is the least width of a sound table
pub least_of_demands : (style : Style) (table : Table) (demands : List Demand) (width : ℕ) → IsSound table →
    AreDemandsOf style (out-Table table).cells demands → IsLeastFor style (out-Table table).cols demands width →
    IsLeastWidth table style width
least_of_demands style table demands width sound those least =
    let grid = grid_of table sound.depth sound.sound in
    least_width_for style table demands width
    (All-from_recursion (λ cell. IsPlaced (out-Table table).cols (out-Table table).rows (place_of cell)) (out-Table table).cells
    (placed_cells (out-Table table).cols (out-Table table).rows (out-Table table).cells
    (recursion_from_All (IsPlaced (out-Table table).cols (out-Table table).rows) (places_of (out-Table table)) grid.placed)))
    those least

-- ---- loops over blocks and cells

pub record BlocksSoFar (style : Style) (floor : ℕ) (blocks : List Content) (n width : ℕ) : Type 0 where
  pub least : IsLeastForBlocks style floor (take n blocks) width
  pub small : width ≤ MAX_PAGE_WIDTH + most_width (sum_by content_size (take n blocks))

pub BlocksSoFar-none : (style : Style) (floor : ℕ) (blocks : List Content) → floor ≤ MAX_PAGE_WIDTH →
    BlocksSoFar style floor blocks 0 floor
BlocksSoFar-none style floor blocks narrow = record { least = least_for_none style floor; small = omega arith }

pub BlocksSoFar-more : (style : Style) (floor : ℕ) (blocks : List Content) (n width more : ℕ) (block : Content) →
    n < length blocks →
    block ≡ get_or blocks n block → BlocksSoFar style floor blocks n width →
    IsLeastForBlock style (out-Content block) more → more ≤ most_width (content_size block) →
    BlocksSoFar style floor blocks (n + 1) (max width more)
BlocksSoFar-more style floor blocks n width more block within is before least small = record {
  least = subst (λ prefix. IsLeastForBlocks style floor prefix (max width more))
      (sym (taken_more blocks n block block within is))
      (least_for_more style floor (take n blocks) block width more before.least least);
  small = omega (arith, before.small, sum_by_more content_size blocks n block within, ap content_size is);
}

pub BlocksSoFar-all : (style : Style) (cell : TableCell) (n width : ℕ) →
    take n (out-TableCell cell).blocks ≡ (out-TableCell cell).blocks →
    BlocksSoFar style (out-TableCell cell).least (out-TableCell cell).blocks n width →
    IsLeastCellRoom style (out-TableCell cell) width × (width + most_gaps ≤ most_width (cell_size cell))
BlocksSoFar-all style cell n width whole far = (
  least_for_cell style (out-TableCell cell) width (subst (λ prefix. IsLeastForBlocks style
      (out-TableCell cell).least prefix width) whole far.least),
  omega (arith, far.small, cell_size-out cell, ap (sum_by content_size) whole),
)

pub record CellsSoFar (style : Style) (cells : List TableCell) (n : ℕ) (demands : List Demand) : Type 0 where
  pub each : AreDemandsOf style (take n cells) demands
  pub small : AreSmallDemands demands (sum_by cell_size (take n cells))

pub CellsSoFar-none : (style : Style) (cells : List TableCell) → CellsSoFar style cells 0 []
CellsSoFar-none style cells = record { each = tt; small = omega arith }

pub CellsSoFar-more : (style : Style) (cells : List TableCell) (n : ℕ) (demands : List Demand) (cell : TableCell)
    (demand : Demand) →
    n < length cells → cell ≡ get_or cells n cell → CellsSoFar style cells n demands →
    demand.left ≡ (place_of cell).left → demand.right ≡ (place_of cell).right →
    IsLeastCellRoom style (out-TableCell cell) demand.width →
    demand.width + most_gaps ≤ most_width (cell_size cell) → CellsSoFar style cells (n + 1) (demands ++ demand ∷ [])
CellsSoFar-more style cells n demands cell demand within is before left right least small = record {
  each = AllZip-taken (λ one wants. IsDemandOf style (out-TableCell one) wants) cells demands n cell cell demand within is
      before.each (record { left = left; right = right; room = least });
  small = omega (
    arith,
    before.small,
    sum_by_more cell_size cells n cell within,
    ap cell_size is,
    sum_by-append (λ (one : Demand). one.width) demands
        (demand ∷ []),
    sum_by-cons (λ (one : Demand). one.width) demand [],
    length-append demands (demand ∷ []),
  );
}

pub CellsSoFar-all : (style : Style) (table : Table) (n : ℕ) (demands : List Demand) →
    take n (out-Table table).cells ≡ (out-Table table).cells →
    CellsSoFar style (out-Table table).cells n demands →
    AreDemandsOf style (out-Table table).cells demands × (AreSmallDemands demands (table_size table))
CellsSoFar-all style table n demands whole far = (
  subst (λ prefix. AreDemandsOf style prefix demands) whole far.each,
  omega (arith, far.small, table_size-out table, ap (sum_by cell_size) whole),
)

-- a table with a column has a cell, and is no wider than so many columns for each cell and byte
pub small_width : (style : Style) (table : Table) (demands : List Demand) (width : ℕ) → IsSound table →
    AreDemandsOf style (out-Table table).cells demands →
    AreSmallDemands demands (table_size table) → width ≤ sum_by (λ demand. demand.width) demands + most_gaps →
    ((out-Table table).cols ≡ 0 → width ≡ 0) → width ≤ most_width (table_size table)
small_width style table demands width sound those small near none = go (out-Table table).cols refl
  where
    those_demands : AreDemands (out-Table table).cols demands
    those_demands = are_demands style table demands sound those small

    go : (cols : ℕ) → (out-Table table).cols ≡ cols → width ≤ most_width (table_size table)
    go zero is = omega (arith, none is)
    go (suc cols) is = let there = those_demands.anchored (omega (arith, is)) in omega (arith, there.2)
