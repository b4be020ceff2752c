-- What follows where a layout fits: sizes that are small, rooms within the page, and layouts of nested tables one after
-- the other.
use Rattle.std.proofs.Common.{◌≡◌, ℕ, zero, suc, ◌+◌, ◌*◌, ◌^◌, ◌<◌, ◌≤◌, List, [], ◌∷◌, ◌++◌, length, drop, sum, refl, sym, ◌∙◌}
use Rattle.std.proofs.Common.{ap, arith}
use Rattle.std.specs.List.{All, AllZip, flat_map}
use Rattle.std.proofs.lemmas.List.{drop_at, length-append}
use Rattle.tl_base.specs.declared.limits.TheConstants.{MAX_COLUMNS, MAX_HEIGHT, MAX_PAGE_WIDTH, MAX_ROWS}
use Rattle.tl_base.specs.declared.style.Style.{Style}
use Rattle.tl_base.specs.Style.{gap_of, row_gap_of, edges_of}
use Rattle.tl_base.proofs.SizeLaws.{sum-total}
use Rattle.tl_grid.specs.Dropping.{IsPlaced}
use Rattle.tl_sides.specs.declared.side.Side.{Side}
use Rattle.tl_table.specs.declared.cell.Content.{Content as Block, out-Content}
use Rattle.tl_table.specs.declared.cell.Content.TheOpen as open_content
use Rattle.tl_table.specs.declared.cell.Table.{Table, out-Table}
use Rattle.tl_table.specs.declared.layout.Layout.{Layout, out-Layout}
use Rattle.tl_table.specs.Tables.{OpenTable, OpenCell, OpenContent}
use Rattle.tl_table.specs.Layouts.{OpenLayout, Share, FitsShare, FitsRoom, FitsBy, FitsWithin, lines_of}
use Rattle.tl_table.specs.Sound.{IsSound, IsSoundWithin, places_of}
use Rattle.tl_page.specs.declared.look.Look.{Look}
use Rattle.tl_page.specs.Pages.{Content, ShowsBlock, ShowsCell}
use Rattle.tl_page.specs.inner.Contents.{FitsPage}

-- ---- sizes

-- what holds of a table and a layout that fits a page
pub record Fitting (style : Style) (table : OpenTable) (layout : OpenLayout) : Type 0 where
  pub depth : ℕ
  pub width : ℕ
  pub height : ℕ
  pub narrow : width ≤ MAX_PAGE_WIDTH
  pub low : height ≤ MAX_HEIGHT
  pub fits : FitsBy (FitsWithin depth style) style table width height layout

pub fitting : (style : Style) (table : Table) (layout : Layout) → FitsPage style table layout →
    Fitting style (out-Table table) (out-Layout layout)
fitting style table layout (width, height, narrow, low, (zero, fits)) = absurd fits
fitting style table layout (width, height, narrow, low, (suc depth, fits)) = record {
  depth = depth;
  width = width;
  height = height;
  narrow = narrow;
  low = low;
  fits = fits;
}

pub record Sound (table : OpenTable) : Type 0 where
  pub few_columns : table.cols ≤ MAX_COLUMNS
  pub few_rows : table.rows ≤ MAX_ROWS + 1
  pub placed : All (IsPlaced table.cols table.rows) (places_of table)

sound_within : (table : Table) (depth : ℕ) → IsSoundWithin depth table → Sound (out-Table table)
sound_within table zero sound = absurd sound
sound_within table (suc depth) sound = record {
  few_columns = sound.few_columns;
  few_rows = sound.few_rows;
  placed =
      sound.placed;
}

pub sound_table : (table : Table) → IsSound table → Sound (out-Table table)
sound_table table sound = sound_within table sound.depth sound.sound

-- sums far below a machine's numbers
pub small_widths : (style : Style) (table : OpenTable) (layout : OpenLayout) → Sound table → Fitting style table layout →
    sum layout.widths + 3 * length layout.widths < 2 ^ 31
small_widths style table layout sound fit =
    omega (
      arith,
      sum-total (gap_of style) (edges_of style) layout.widths,
      fit.fits.columns,
      fit.fits.within,
      fit.narrow,
      sound.few_columns,
    )

pub small_heights : (style : Style) (table : OpenTable) (layout : OpenLayout) → Sound table → Fitting style table layout →
    sum layout.heights + 3 * length layout.heights < 2 ^ 31
small_heights style table layout sound fit =
    omega (
      arith,
      sum-total (row_gap_of style) (lines_of style table) layout.heights,
      fit.fits.rows,
      fit.fits.high,
      fit.low,
      sound.few_rows,
    )

-- ---- layouts one after the other

-- of two splits of a list at one place the rests are the same
pub same_rest : {X : Type 0} (xs ys more rest all : List X) → length xs ≡ length ys → xs ++ more ≡ all → ys ++ rest ≡ all →
    more ≡ rest
same_rest xs ys more rest all same one other =
    sym (drop_at xs more (length xs) refl) ∙ ap (drop (length xs)) (one ∙ sym other) ∙ drop_at ys rest (length xs) (sym same)

module _ (fits : Table → ℕ → ℕ → Layout → Type 0) (shows : Table → Layout → List (List ℕ) → Type 0) (look : Look) (side : Side)
    (w : ℕ) where
  -- a block is given as many layouts as it shows
  pub as_many_in_block : (block : OpenContent) (share : Share) (content : Content) → FitsShare fits w block share →
      ShowsBlock shows look side w block content →
      length share.inner ≡ length content.inner
  as_many_in_block (open_content.Para paragraph) share content fit shown = ap length fit.1 ∙ sym (ap length shown.inner)
  as_many_in_block (open_content.Table box) share content fit shown = ap length fit.given ∙ sym (ap length shown.inner)

  as_many_in_blocks : (blocks : List Block) (shares : List Share) (parts : List Content) →
      AllZip (λ block share. FitsShare fits w (out-Content block) share) blocks shares →
      AllZip (λ block part. ShowsBlock shows look side w (out-Content block) part) blocks parts →
      length (flat_map (λ share. share.inner) shares) ≡ length (flat_map (λ part. part.inner) parts)
  as_many_in_blocks [] [] [] fit shown = refl
  as_many_in_blocks [] [] (part ∷ parts) fit shown = absurd shown
  as_many_in_blocks [] (share ∷ shares) parts fit shown = absurd fit
  as_many_in_blocks (block ∷ blocks) [] parts fit shown = absurd fit
  as_many_in_blocks (block ∷ blocks) (share ∷ shares) [] fit shown = absurd shown
  as_many_in_blocks (block ∷ blocks) (share ∷ shares) (part ∷ parts) fit shown =
      omega (
        arith,
        length-append share.inner (flat_map (λ share. share.inner) shares),
        length-append part.inner (flat_map (λ part. part.inner) parts),
        as_many_in_block (out-Content block) share part fit.0 shown.0,
        as_many_in_blocks blocks shares parts fit.1 shown.1,
      )

  -- a cell is given as many layouts as it shows
  pub as_many_in_cell : (h : ℕ) (cell : OpenCell) (given : List Layout) (content : Content) → FitsRoom fits w h cell given →
      ShowsCell shows look side w cell content →
      length given ≡ length content.inner
  as_many_in_cell h cell given content fit shown =
      ap length (sym fit.given) ∙ as_many_in_blocks cell.blocks fit.shares shown.parts fit.blocks shown.blocks ∙ ap length
      shown.inner
