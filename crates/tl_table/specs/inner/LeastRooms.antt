-- The least room of a block and of a cell, and the demands of a table's cells. No public clause cites this file.
use Rattle.std.specs.Prelude.{◌≡◌, ℕ, ◌≤◌, List}
use Rattle.std.specs.List.{AllZip}
use Rattle.tl_base.specs.declared.style.Style.{Style}
use Rattle.tl_table.specs.declared.cell.Content.{Content, out-Content}
use Rattle.tl_table.specs.declared.cell.TableCell.{TableCell, out-TableCell}
use Rattle.tl_table.specs.declared.layout.Layout.{Layout}
use Rattle.tl_table.specs.declared.widest.Demand.{Demand}
use Rattle.tl_table.specs.Tables.{OpenCell, OpenContent}
use Rattle.tl_table.specs.Layouts.{Share, FitsShare, FitsRoom, FitsWithin}

-- from `w` columns on the block fits by some share, and in no fewer
pub record IsLeastForBlock (style : Style) (block : OpenContent) (w : ℕ) : Type 0 where
  pub fits : (v : ℕ) → w ≤ v → (depth : ℕ) × (share : Share) × FitsShare (FitsWithin depth style) v block share
  pub least : (depth v : ℕ) (share : Share) → FitsShare (FitsWithin depth style) v block share → w ≤ v

-- from `w` columns on the blocks fit one under the other by some shares, and in no fewer that are at least `floor`
pub record IsLeastForBlocks (style : Style) (floor : ℕ) (blocks : List Content) (w : ℕ) : Type 0 where
  pub floored : floor ≤ w
  pub fits : (v : ℕ) → w ≤ v → (depth : ℕ) × (shares : List Share) ×
      AllZip (λ block share. FitsShare (FitsWithin depth style) v (out-Content block) share) blocks shares
  pub least : (depth v : ℕ) (shares : List Share) → floor ≤ v →
      AllZip (λ block share. FitsShare (FitsWithin depth style) v (out-Content block) share) blocks shares → w ≤ v

-- from `w` columns on the cell fits in some height, and in no fewer columns in any
pub record IsLeastCellRoom (style : Style) (cell : OpenCell) (w : ℕ) : Type 0 where
  pub fits : (v : ℕ) → w ≤ v → (depth : ℕ) × (height : ℕ) × (inner : List Layout) ×
      FitsRoom (FitsWithin depth style) v height cell inner
  pub least : (depth v height : ℕ) (inner : List Layout) → FitsRoom (FitsWithin depth style) v height cell inner →
      w ≤ v

-- the demand is that of the cell: its columns, and its least room
pub record IsDemandOf (style : Style) (cell : OpenCell) (demand : Demand) : Type 0 where
  pub left : demand.left ≡ cell.place.left
  pub right : demand.right ≡ cell.place.right
  pub room : IsLeastCellRoom style cell demand.width

-- the demands are those of the cells, in their order
abbrev pub AreDemandsOf : Style → List TableCell → List Demand → Type 0
AreDemandsOf style cells demands = AllZip (λ cell demand. IsDemandOf style (out-TableCell cell) demand) cells demands
