-- Laws of the HTML page. Each is the contract of a function of `laws`.
use Rattle.std.specs.Prelude.{ℕ, List}
use Rattle.tl_base.specs.declared.style.Style.{Style}
use Rattle.tl_table.specs.declared.cell.Table.{Table}
use Rattle.tl_table.specs.declared.layout.Layout.{Layout}
use Rattle.tl_table.specs.Layouts.{Fits}
use Rattle.tl_html.specs.Readable.{HasColumns, IsHtmlPage, ReadsBack}

-- the page of a sound table reads back
abbrev pub PageReadsBack : Type 0
PageReadsBack = (table : Table) (layout : Layout) (bytes : List ℕ) → IsHtmlPage table layout bytes → ReadsBack table layout bytes

-- a layout that fits some page has a width for each column
abbrev pub AFittingLayoutHasColumns : Type 0
AFittingLayoutHasColumns = (table : Table) (style : Style) (width height : ℕ) (layout : Layout) →
    Fits table style width height layout →
    HasColumns table layout
