-- When a height, or a width, is the least that any layout has.
use Rattle.std.specs.Prelude.{ℕ, ◌≤◌}
use Rattle.tl_base.specs.declared.style.Style.{Style}
use Rattle.tl_table.specs.declared.cell.Table.{Table}
use Rattle.tl_table.specs.declared.layout.Layout.{Layout}
use Rattle.tl_table.specs.Layouts.{Fits}

-- `height` is the least height of any layout that fits the page
pub record IsLeastHeight (table : Table) (style : Style) (width height : ℕ) : Type 0 where
  pub attained : (layout : Layout) × Fits table style width height layout
  pub least : (other : ℕ) (layout : Layout) → Fits table style width other layout → height ≤ other

-- `width` is the least width of a page that any layout fits
pub record IsLeastWidth (table : Table) (style : Style) (width : ℕ) : Type 0 where
  pub attained : (height : ℕ) × (layout : Layout) × Fits table style width height layout
  pub least : (other height : ℕ) (layout : Layout) → Fits table style other height layout → width ≤ other
