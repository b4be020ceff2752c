-- How the words of a file may break so that a page of a width holds its table, and as few of them as can be:
-- a property of file, style and width, not of a search.
use Rattle.std.specs.Prelude.{◌≡◌, ◌⊎◌, ℕ, ◌<◌, ◌≤◌, List}
use Rattle.tl_base.specs.declared.breaking.Breaking.{Breaking}
use Rattle.tl_base.specs.declared.breaking.Breaking.TheVariants.{Words, Wider}
use Rattle.tl_base.specs.declared.limits.TheConstants.{MAX_PAGE_WIDTH}
use Rattle.tl_base.specs.declared.style.Style.{Style}
use Rattle.tl_table.specs.declared.cell.Table.{Table}
use Rattle.tl_table.specs.declared.layout.Layout.{Layout}
use Rattle.tl_table.specs.Layouts.{Fits}
use Rattle.tl_read.specs.declared.source.Source.{Source}
use Rattle.tl_read.specs.declared.reading.Reading.TheVariants as readings
use Rattle.tl_read.specs.Reading.{IsReading, with_breaking}

-- the bytes are this table, where its paragraphs are broken so
abbrev pub IsTableWith : Breaking → Source → List ℕ → Table → Type 0
IsTableWith breaking source bytes table = IsReading (with_breaking breaking source) bytes (readings.Table table)

-- a layout of the table fits a page of this width
abbrev pub HasLayout : Table → Style → ℕ → Type 0
HasLayout table style width = (height : ℕ) × (layout : Layout) × Fits table style width height layout

-- the bytes are a table that a page of this width holds, where its paragraphs are broken so
abbrev pub FitsWith : Source → Style → ℕ → List ℕ → Breaking → Type 0
FitsWith source style width bytes breaking =
    (table : Table) × IsTableWith breaking source bytes table × HasLayout table style width

-- of all numbers of columns up to `MAX_PAGE_WIDTH` this is the greatest with which, the words of at most so
-- many columns whole, a page of the width holds the table; or there is none, and it is 0
pub record IsGreatest (source : Source) (style : Style) (width : ℕ) (bytes : List ℕ) (most : ℕ) : Type 0 where
  pub within : most ≤ MAX_PAGE_WIDTH
  pub fits : (most ≡ 0) ⊎ FitsWith source style width bytes (Wider most)
  pub greatest : (more : ℕ) → most < more → more ≤ MAX_PAGE_WIDTH → FitsWith source style width bytes (Wider more) → ⊥

-- the bytes are a table, and no page of this width holds it with its words whole
pub record HasWideWords (source : Source) (style : Style) (width : ℕ) (bytes : List ℕ) : Type 0 where
  pub table : Table
  pub is : IsTableWith Words source bytes table
  pub narrow : FitsWith source style width bytes Words → ⊥

-- the words stay whole where a page of the width holds the table so, and where the bytes are no table; else
-- the greatest number says which stay whole
abbrev pub IsFit : Source → Style → ℕ → List ℕ → Breaking → Type 0
IsFit source style width bytes Words =
    FitsWith source style width bytes Words ⊎ ((table : Table) → IsTableWith Words source bytes table → ⊥)
IsFit source style width bytes (Wider most) =
    HasWideWords source style width bytes × IsGreatest source style width bytes most
