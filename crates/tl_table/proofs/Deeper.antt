-- What fits by layouts of some depth fits by those of any greater one, in wider rooms and in higher ones.
use Rattle.std.proofs.Common.{◌≡◌, ℕ, zero, suc, ◌+◌, ◌≤◌, List, sym, subst, arith}
use Rattle.tl_base.specs.declared.style.Style.{Style}
use Rattle.tl_base.proofs.Zips.{AllZip-weaker}
use Rattle.tl_table.specs.declared.cell.Content.{out-Content}
use Rattle.tl_table.specs.declared.cell.Content.TheOpen as open_content
use Rattle.tl_table.specs.declared.cell.Table.{Table, out-Table}
use Rattle.tl_table.specs.declared.cell.TableCell.{out-TableCell}
use Rattle.tl_table.specs.declared.layout.Layout.{Layout, out-Layout}
use Rattle.tl_table.specs.Tables.{OpenTable, OpenCell, OpenContent}
use Rattle.tl_table.specs.Layouts.{OpenLayout, Share, FitsShare, FitsRoom, FitsCell, FitsBy, FitsWithin}

module _ (some more : Table → ℕ → ℕ → Layout → Type 0)
    (weaker : (table : Table) (width height : ℕ) (layout : Layout) → some table width height layout →
    more table width height layout) where
  pub FitsShare-weaker : (w : ℕ) (block : OpenContent) (share : Share) → FitsShare some w block share →
      FitsShare more w block share
  FitsShare-weaker w (open_content.Para paragraph) share fits = fits
  FitsShare-weaker w (open_content.Table box) share fits = record {
    layout = fits.layout;
    height = fits.height;
    laid = weaker box.value w fits.height fits.layout fits.laid;
    within = fits.within;
    given = fits.given;
  }

  pub FitsRoom-weaker : (w h : ℕ) (cell : OpenCell) (inner : List Layout) → FitsRoom some w h cell inner →
      FitsRoom more w h cell inner
  FitsRoom-weaker w h cell inner fits = record {
    floor = fits.floor;
    shares = fits.shares;
    blocks = AllZip-weaker (λ block share. FitsShare some w (out-Content block) share)
        (λ block share. FitsShare more w (out-Content block) share)
        cell.blocks fits.shares (λ block share one. FitsShare-weaker w (out-Content block) share one) fits.blocks;
    within = fits.within;
    given = fits.given;
  }

  pub FitsBy-weaker : (style : Style) (table : OpenTable) (width height : ℕ) (layout : OpenLayout) →
      FitsBy some style table width height layout →
      FitsBy more style table width height layout
  FitsBy-weaker style table width height layout fits = record {
    columns = fits.columns;
    rows = fits.rows;
    within = fits.within;
    high = fits.high;
    parts = fits.parts;
    cells = AllZip-weaker (λ cell inner. FitsCell some style table layout (out-TableCell cell) inner)
        (λ cell inner. FitsCell more style table layout (out-TableCell cell) inner) table.cells fits.parts
        (λ cell inner one. FitsRoom-weaker _ _ (out-TableCell cell) inner one) fits.cells;
    given = fits.given;
  }

FitsWithin-next : (depth : ℕ) (style : Style) (table : Table) (width height : ℕ) (layout : Layout) →
    FitsWithin depth style table width height layout → FitsWithin (suc depth) style table width height layout
FitsWithin-next zero style table width height layout fits = absurd fits
FitsWithin-next (suc depth) style table width height layout fits =
    FitsBy-weaker (FitsWithin depth style) (FitsWithin (suc depth) style) (FitsWithin-next depth style) style (out-Table table)
    width height
    (out-Layout layout) fits

-- fewer tables inside one another than fewer are fewer than more
pub FitsWithin-deeper : (more depth : ℕ) (style : Style) (table : Table) (width height : ℕ) (layout : Layout) →
    FitsWithin depth style table width height layout → FitsWithin (more + depth) style table width height layout
FitsWithin-deeper zero depth style table width height layout fits = let same : 0 + depth ≡ depth =
    omega arith in subst (λ d. FitsWithin d style table width height layout) (sym same) fits
FitsWithin-deeper (suc more) depth style table width height layout fits =
    let same : suc more + depth ≡ suc (more + depth) = omega arith in
    subst (λ d. FitsWithin d style table width height layout) (sym same)
    (FitsWithin-next (more + depth) style table width height layout
    (FitsWithin-deeper more depth style table width height layout fits))

-- the same in any order of the two
pub FitsWithin-deeper' : (more depth : ℕ) (style : Style) (table : Table) (width height : ℕ) (layout : Layout) →
    FitsWithin depth style table width height layout → FitsWithin (depth + more) style table width height layout
FitsWithin-deeper' more depth style table width height layout fits = let same : depth + more ≡ more + depth =
    omega arith in subst (λ d. FitsWithin d style table width height layout) (sym same)
    (FitsWithin-deeper more depth style table width height layout fits)

-- a room may be higher
pub FitsRoom-higher : (fits : Table → ℕ → ℕ → Layout → Type 0) (w h more : ℕ) (cell : OpenCell) (inner : List Layout) → h ≤ more →
    FitsRoom fits w h cell inner → FitsRoom fits w more cell inner
FitsRoom-higher fits w h more cell inner higher room =
    record {
      floor = room.floor;
      shares = room.shares;
      blocks = room.blocks;
      within = omega (arith, room.within);
      given =
          room.given;
    }

-- a page may be wider
pub FitsWithin-wider : (depth : ℕ) (style : Style) (table : Table) (width wider height : ℕ) (layout : Layout) → width ≤ wider →
    FitsWithin depth style table width height layout → FitsWithin depth style table wider height layout
FitsWithin-wider zero style table width wider height layout more fits = absurd fits
FitsWithin-wider (suc depth) style table width wider height layout more fits = record {
  columns = fits.columns;
  rows = fits.rows;
  within = omega (arith, fits.within);
  high = fits.high;
  parts = fits.parts;
  cells = fits.cells;
  given = fits.given;
}
