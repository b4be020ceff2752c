-- A layout fits a page with one table where it fits that page with a table that is the same.
use Rattle.std.proofs.Common.{◌≡◌, ◌∙◌, ℕ, zero, suc, ◌+◌, List, [], sym, ap, subst, arith}
use Rattle.tl_base.specs.declared.style.Style.{Style}
use Rattle.tl_base.specs.Sizes.{room, total}
use Rattle.tl_base.specs.Style.{row_gap_of}
use Rattle.tl_text.specs.declared.paragraph.Atom.{Atom}
use Rattle.tl_table.specs.declared.cell.Content.{out-Content}
use Rattle.tl_table.specs.declared.cell.Content.TheOpen as open_content
use Rattle.tl_table.specs.declared.cell.Table.{Table, out-Table}
use Rattle.tl_table.specs.declared.cell.TableCell.{out-TableCell}
use Rattle.tl_table.specs.declared.layout.Layout.{Layout, out-Layout}
use Rattle.tl_table.specs.Layouts.{OpenLayout, Share, FitsParagraph, FitsShare, FitsRoom, FitsCell, FitsBy, FitsWithin, Fits}
use Rattle.tl_table.specs.Layouts.{width_for, height_for}
use Rattle.tl_table.specs.Least.{IsLeastWidth}
use Rattle.tl_table.specs.Same.{AreSameContent, AreSameCell, AreSameBy, AreSame}
use Rattle.tl_table.specs.Tables.{OpenTable, OpenCell, OpenContent}
use Rattle.tl_table.proofs.SameHeads.{inside_same, lines_same}
use Rattle.tl_table.proofs.SameTables.{same_opened, same_turned, zip_over}

module _ (fits : Table → ℕ → ℕ → Layout → Type 0)
    (each : (a b : Table) (w h : ℕ) (layout : Layout) → AreSame a b → fits a w h layout → fits b w h layout) where
  -- a block, and a cell, fits by the same shares
  share_same : (a b : OpenContent) (w : ℕ) (share : Share) → AreSameContent AreSame a b → FitsShare fits w a share →
      FitsShare fits w b share
  share_same (open_content.Para p) (open_content.Para q) w share is fit =
      subst (λ (units : List Atom). FitsParagraph w units share.height × (share.inner ≡ [])) is fit
  share_same (open_content.Para p) (open_content.Table box) w share is fit = absurd is
  share_same (open_content.Table box) (open_content.Para q) w share is fit = absurd is
  share_same (open_content.Table box) (open_content.Table crate) w share is fit = record {
    layout = fit.layout;
    height = fit.height;
    laid = each box.value crate.value w fit.height fit.layout is fit.laid;
    within = fit.within;
    given = fit.given;
  }

  room_same : (a b : OpenCell) (w h : ℕ) (inner : List Layout) → AreSameCell AreSame a b → FitsRoom fits w h a inner →
      FitsRoom fits w h b inner
  room_same a b w h inner is fit = record {
    floor = omega (arith, is.least, fit.floor);
    shares = fit.shares;
    blocks = zip_over (λ c d. AreSameContent AreSame (out-Content c) (out-Content d))
        (λ c share. FitsShare fits w (out-Content c) share)
        (λ d share. FitsShare fits w (out-Content d) share)
        (λ c d share one. share_same (out-Content c) (out-Content d) w share one)
        a.blocks b.blocks fit.shares is.blocks fit.blocks;
    within = fit.within;
    given = fit.given;
  }

  cell_same : (style : Style) (one other : OpenTable) (a b : OpenCell) (layout : OpenLayout) (inner : List Layout) →
      AreSameBy AreSame one other → AreSameCell AreSame a b → FitsCell fits style one layout a inner →
      FitsCell fits style other layout b inner
  cell_same style one other a b layout inner are is fit =
      subst (λ place. FitsRoom fits (width_for style layout place) (height_for style other layout place) b inner) is.place
      (subst (λ more. FitsRoom fits (width_for style layout a.place)
      (room (row_gap_of style) layout.heights a.place.top a.place.bottom + more) b inner)
      (inside_same one other are style a.place)
      (room_same a b (width_for style layout a.place) (height_for style one layout a.place) inner is fit))

  table_same : (style : Style) (a b : OpenTable) (width height : ℕ) (layout : OpenLayout) → AreSameBy AreSame a b →
      FitsBy fits style a width height layout → FitsBy fits style b width height layout
  table_same style a b width height layout is fit = record {
    columns = fit.columns ∙ is.cols;
    rows = fit.rows ∙ is.rows;
    within = fit.within;
    high = ap (λ lines. total (row_gap_of style) lines layout.heights) (sym (lines_same a b is style)) ∙ fit.high;
    parts = fit.parts;
    cells = zip_over (λ c d. AreSameCell AreSame (out-TableCell c) (out-TableCell d))
        (λ c inner. FitsCell fits style a layout (out-TableCell c) inner)
        (λ d inner. FitsCell fits style b layout (out-TableCell d) inner)
        (λ c d inner one. cell_same style a b (out-TableCell c) (out-TableCell d) layout inner is one)
        a.cells b.cells fit.parts is.cells fit.cells;
    given = fit.given;
  }

fits_within : (depth : ℕ) (style : Style) (one other : Table) (width height : ℕ) (layout : Layout) → AreSame one other →
    FitsWithin depth style one width height layout → FitsWithin depth style other width height layout
fits_within zero style one other width height layout same fit = absurd fit
fits_within (suc depth) style one other width height layout same fit =
    table_same (FitsWithin depth style) (fits_within depth style) style (out-Table one) (out-Table other) width height
    (out-Layout layout)
    (same_opened one other same) fit

-- a layout that fits a page with one fits it with the other
pub same_fits : (one other : Table) (style : Style) (width height : ℕ) (layout : Layout) → AreSame one other →
    Fits one style width height layout → Fits other style width height layout
same_fits one other style width height layout same fit = (fit.0, fits_within fit.0 style one other width height layout same fit.1)

-- the least width of one is that of the other
pub same_least : (one other : Table) (style : Style) (least : ℕ) → AreSame one other → IsLeastWidth one style least →
    IsLeastWidth other style least
same_least one other style least same is = record {
  attained = (is.attained.0, is.attained.1, same_fits one other style least is.attained.0 is.attained.1 same is.attained.2);
  least = λ width height layout fit. is.least width height layout
      (same_fits other one style width height layout (same_turned one other same) fit);
}
