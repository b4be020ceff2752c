-- A layout that fits a page has a width for each column.
use Rattle.std.proofs.Common.{ℕ, zero, suc, List, [], ◌∷◌, sym, subst}
use Rattle.std.specs.List.{AllZip, flat_map}
use Rattle.tl_base.specs.declared.style.Style.{Style}
use Rattle.tl_base.proofs.Zips.{AllZip-append}
use Rattle.tl_table.specs.declared.cell.Content.{Content, out-Content}
use Rattle.tl_table.specs.declared.cell.Content.TheOpen as open_content
use Rattle.tl_table.specs.declared.cell.Table.{Table, out-Table}
use Rattle.tl_table.specs.declared.cell.TableCell.{TableCell, out-TableCell}
use Rattle.tl_table.specs.declared.layout.Layout.{Layout, out-Layout}
use Rattle.tl_table.specs.Layouts.{OpenLayout, Share, FitsShare, FitsCell, FitsWithin}
use Rattle.tl_table.specs.Tables.{OpenContent, OpenTable, tables_of, tables_in}
use Rattle.tl_html.specs.Laws.{AFittingLayoutHasColumns}
use Rattle.tl_html.specs.Readable.{HasColumnsWithin}

module _ (fits : Table → ℕ → ℕ → Layout → Type 0) (has : Table → Layout → Type 0)
    (each : (table : Table) (width height : ℕ) (layout : Layout) → fits table width height layout → has table layout) where
  share_columns : (w : ℕ) (block : OpenContent) (share : Share) → FitsShare fits w block share →
      AllZip has (tables_of block) share.inner
  share_columns w (open_content.Para paragraph) share laid = subst (AllZip has []) (sym laid.1) tt
  share_columns w (open_content.Table box) share laid =
      subst (AllZip has (box.value ∷ [])) (sym laid.given) (each box.value w laid.height laid.layout laid.laid, tt)

  shares_columns : (w : ℕ) (blocks : List Content) (shares : List Share) →
      AllZip (λ block share. FitsShare fits w (out-Content block) share) blocks shares →
      AllZip has (flat_map (λ block. tables_of (out-Content block)) blocks) (flat_map (λ (share : Share). share.inner) shares)
  shares_columns w [] [] laid = tt
  shares_columns w [] (share ∷ shares) laid = absurd laid
  shares_columns w (block ∷ blocks) [] laid = absurd laid
  shares_columns w (block ∷ blocks) (share ∷ shares) laid =
      AllZip-append has (tables_of (out-Content block)) (flat_map (λ other. tables_of (out-Content other)) blocks) share.inner
      (flat_map (λ (other : Share). other.inner) shares) (share_columns w (out-Content block) share laid.0)
      (shares_columns w blocks shares laid.1)

  cells_columns : (style : Style) (table : OpenTable) (layout : OpenLayout) (cells : List TableCell) (parts : List (List Layout)) →
      AllZip (λ cell inner. FitsCell fits style table layout (out-TableCell cell) inner) cells parts →
      AllZip has (flat_map (λ cell. tables_in (out-TableCell cell)) cells) (flat_map (λ inner. inner) parts)
  cells_columns style table layout [] [] laid = tt
  cells_columns style table layout [] (inner ∷ parts) laid = absurd laid
  cells_columns style table layout (cell ∷ cells) [] laid = absurd laid
  cells_columns style table layout (cell ∷ cells) (inner ∷ parts) laid =
      AllZip-append has (tables_in (out-TableCell cell)) (flat_map (λ other. tables_in (out-TableCell other)) cells) inner
      (flat_map (λ more. more) parts)
      (subst (AllZip has (tables_in (out-TableCell cell))) laid.0.given
      (shares_columns _ (out-TableCell cell).blocks laid.0.shares laid.0.blocks))
      (cells_columns style table layout cells parts laid.1)

columns_within : (depth : ℕ) (style : Style) (table : Table) (width height : ℕ) (layout : Layout) →
    FitsWithin depth style table width height layout →
    HasColumnsWithin depth table layout
columns_within zero style table width height layout fits = absurd fits
columns_within (suc depth) style table width height layout fits = record {
  columns = fits.columns;
  inner = subst (AllZip (HasColumnsWithin depth) (flat_map (λ cell. tables_in (out-TableCell cell)) (out-Table table).cells))
      fits.given
      (cells_columns (FitsWithin depth style) (HasColumnsWithin depth) (columns_within depth style) style (out-Table table)
      (out-Layout layout) (out-Table table).cells
      fits.parts fits.cells);
}

pub fitting_columns : AFittingLayoutHasColumns
fitting_columns table style width height layout fits = (fits.0, columns_within fits.0 style table width height layout fits.1)
