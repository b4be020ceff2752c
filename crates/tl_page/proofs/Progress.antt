-- Cells and blocks one after the other: what stands so far, and what is left to fit.
use Rattle.std.proofs.Common.{◌≡◌, ℕ, ◌+◌, ◌<◌, ◌≤◌, List, [], ◌∷◌, ◌++◌, length, take, drop, map, get_or, sum_by, refl, sym, ◌∙◌}
use Rattle.std.proofs.Common.{ap, ap₂}
use Rattle.std.proofs.Common.{subst, append_assoc, append-nil, arith}
use Rattle.std.specs.List.{All, AllZip, flat_map}
use Rattle.std.proofs.lemmas.List.{take_all, drop_more, drop_all, map_push, length-map, get_or-map}
use Rattle.std.proofs.lemmas.List.Concat.{flat_map-append}
use Rattle.std.proofs.lemmas.List.Sums.{sum_by-cons}
use Rattle.tl_align.specs.Sides.{side_of}
use Rattle.tl_base.proofs.Zips.{AllZip-weaker, AllZip-length}
use Rattle.tl_base.specs.declared.limits.TheConstants.{MAX_HEIGHT, MAX_PAGE_WIDTH}
use Rattle.tl_base.specs.declared.style.Style.{Style}
use Rattle.tl_base.specs.Style.{gap_of, row_gap_of, edges_of}
use Rattle.tl_grid.specs.Dropping.{IsPlaced}
use Rattle.tl_grid.specs.declared.shape.Place.{Place}
use Rattle.tl_base.proofs.SizeLaws.{room-total, total-sum}
use Rattle.tl_base.proofs.Taken.{taken_more, AllZip-taken}
use Rattle.tl_sides.specs.declared.side.Side.{Side}
use Rattle.tl_table.specs.declared.cell.Content.{Content as Block, out-Content}
use Rattle.tl_table.specs.declared.cell.Table.{Table, out-Table}
use Rattle.tl_table.specs.declared.cell.TableCell.{TableCell, out-TableCell}
use Rattle.tl_table.specs.declared.layout.Layout.{Layout, out-Layout}
use Rattle.tl_table.specs.Tables.{OpenTable, OpenCell}
use Rattle.tl_table.specs.Layouts.{OpenLayout, Share, FitsShare, FitsCell, FitsWithin, lines_of, width_for, height_for}
use Rattle.tl_table.specs.Sound.{place_of, places_of}
use Rattle.tl_page.specs.declared.line.Drawn.{Drawn}
use Rattle.tl_page.specs.declared.line.TextLine.{TextLine}
use Rattle.tl_page.specs.declared.look.Look.{Look}
use Rattle.tl_page.specs.declared.strip.Gaps.{Gaps}
use Rattle.tl_page.specs.Pages.{Content, ShowsBlock, ShowsCellOf, ShowsWithin, grid_of}
use Rattle.tl_page.specs.Pictures.{drawn_cell, drawn_cells, row_gaps}
use Rattle.tl_page.specs.inner.Contents.{FitsBlockRoom, FitsCellRoom, ShowsPart, ShowsParts, ShowsCells}
use Rattle.tl_page.proofs.Deeper.{ShowsBlock-weaker, ShowsCell-weaker, ShowsWithin-deeper, ShowsWithin-deeper'}
use Rattle.tl_page.proofs.Fitting.{Fitting, same_rest, as_many_in_block, as_many_in_cell}
use Rattle.tl_page.proofs.HeadRows.{lines_inside-few}

-- ---- lists

-- the first pair, and the others
pub AllZip-first : {A B : Type 0} (R : A → B → Type 0) (x : A) (xs : List A) (ys : List B) → AllZip R (x ∷ xs) ys →
    (y : B) × (rest : List B) × (ys ≡ y ∷ rest) × R x y × AllZip R xs rest
AllZip-first R x xs [] all = absurd all
AllZip-first R x xs (y ∷ ys) all = (y, ys, refl, all.0, all.1)

-- the first of those that are left
pub left_first : {A B : Type 0} (R : A → B → Type 0) (xs : List A) (i : ℕ) (x : A) (ys : List B) → i < length xs →
    x ≡ get_or xs i x →
    AllZip R (drop i xs) ys → (y : B) × (rest : List B) × (ys ≡ y ∷ rest) × R x y × AllZip R (drop (i + 1) xs) rest
left_first R xs i x ys within is all =
    AllZip-first R x (drop (i + 1) xs) ys
    (subst (λ some. AllZip R some ys) (drop_more xs i x within ∙ ap (λ first. first ∷ drop (i + 1) xs) (sym is)) all)

pub flat_map-push : {X A : Type 0} (f : X → List A) (xs : List X) (x : X) → flat_map f (xs ++ x ∷ []) ≡ flat_map f xs ++ f x
flat_map-push f xs x = flat_map-append f xs (x ∷ []) ∙ ap (λ last. flat_map f xs ++ last) (append-nil (f x))

-- what was before, one more, and what is left
pub one_further : {X : Type 0} (before one left now all : List X) → one ++ left ≡ now → before ++ now ≡ all →
    (before ++ one) ++ left ≡ all
one_further before one left now all step sofar = append_assoc before one left ∙ ap (λ rest. before ++ rest) step ∙ sofar

-- ---- the blocks of a cell

-- the first `i` blocks stand in the lines, and the others are left to fit
pub record BlocksSoFar (look : Look) (side : Side) (w : ℕ) (blocks : List Block) (inner : List Layout) (start : ℕ) (i next : ℕ)
    (lines : List TextLine) : Type 0 where
  pub depth : ℕ
  pub parts : List Content
  pub shows : AllZip (λ block part. ShowsBlock (ShowsWithin depth look) look side w (out-Content block) part) (take i blocks) parts
  pub written : lines ≡ flat_map (λ part. part.lines) parts
  pub rest : flat_map (λ part. part.inner) parts ++ drop next inner ≡ drop start inner
  pub level : ℕ
  pub shares : List Share
  pub fits : AllZip (λ block share. FitsShare (FitsWithin level look.style) w (out-Content block) share) (drop i blocks) shares
  pub low : sum_by (λ share. share.height) shares ≤ MAX_HEIGHT
  pub more : List Layout
  pub left : flat_map (λ share. share.inner) shares ++ more ≡ drop next inner

pub blocks-none : (look : Look) (side : Side) (w : ℕ) (cell : OpenCell) (inner : List Layout) (start : ℕ) →
    FitsCellRoom look.style w cell inner start →
    BlocksSoFar look side w cell.blocks inner start 0 start []
blocks-none look side w cell inner start fit = record {
  depth = 0;
  parts = [];
  shows = tt;
  written = refl;
  rest = refl;
  level = fit.depth;
  shares = fit.fits.shares;
  fits = fit.fits.blocks;
  low = omega (arith, fit.fits.within, fit.low);
  more = fit.more;
  left = ap (λ given. given ++ fit.more) fit.fits.given ∙ fit.rest;
}

-- the next block fits by the next layouts
pub block-next : (look : Look) (side : Side) (w : ℕ) (blocks : List Block) (inner : List Layout) (start i next : ℕ) (lines : List TextLine)
    (block : Block) →
    w ≤ MAX_PAGE_WIDTH → i < length blocks → block ≡ get_or blocks i block → BlocksSoFar look side w blocks inner start i next lines →
    FitsBlockRoom look.style w (out-Content block) inner next
block-next look side w blocks inner start i next lines block narrow within is sofar =
    let first = left_first (λ block share. FitsShare (FitsWithin sofar.level look.style) w (out-Content block) share)
    blocks i block sofar.shares within is
    sofar.fits in
    let sum = sum_by-cons (λ (share : Share). share.height) first.0 first.1 in
    let whole = ap (sum_by (λ (share : Share). share.height)) first.2 in
    record {
      narrow = narrow;
      depth = sofar.level;
      share = first.0;
      low = omega (arith, sofar.low, whole, sum);
      fits = first.3;
      more = flat_map (λ share. share.inner) first.1 ++ sofar.more;
      rest = sym (append_assoc first.0.inner (flat_map (λ share. share.inner) first.1) sofar.more)
          ∙ ap (λ shares. flat_map (λ share. share.inner) shares ++ sofar.more) (sym first.2) ∙ sofar.left;
    }

-- the next block stands after those so far
pub blocks-more : (look : Look) (side : Side) (w : ℕ) (blocks : List Block) (inner : List Layout) (start i next after : ℕ)
    (lines new : List TextLine) (block : Block) →
    i < length blocks → block ≡ get_or blocks i block → BlocksSoFar look side w blocks inner start i next lines →
    ShowsPart look side w (out-Content block) inner next after lines new → BlocksSoFar look side w blocks inner start (i + 1) after new
blocks-more look side w blocks inner start i next after lines new block within is sofar part =
    let first = left_first (λ block share. FitsShare (FitsWithin sofar.level look.style) w (out-Content block) share)
    blocks i block sofar.shares within is
    sofar.fits in
    let sum = sum_by-cons (λ (share : Share). share.height) first.0 first.1 in
    let whole = ap (sum_by (λ (share : Share). share.height)) first.2 in
    let deep = part.depth + sofar.depth in
    let shown = λ (block : Block) (part : Content). ShowsBlock (ShowsWithin deep look) look side w (out-Content block) part in
    let others : AllZip shown (take i blocks) sofar.parts =
    AllZip-weaker (λ block part. ShowsBlock (ShowsWithin sofar.depth look) look side w (out-Content block) part) shown
    (take i blocks) sofar.parts
    (λ block content one. ShowsBlock-weaker (ShowsWithin sofar.depth look) (ShowsWithin deep look)
    (ShowsWithin-deeper part.depth sofar.depth look)
    look side w (out-Content block) content one) sofar.shows in
    let this : shown block part.content =
    ShowsBlock-weaker (ShowsWithin part.depth look) (ShowsWithin deep look) (ShowsWithin-deeper' sofar.depth part.depth look)
    look side w (out-Content block) part.content part.shows in
    let given : first.0.inner ++ (flat_map (λ share. share.inner) first.1 ++ sofar.more) ≡ drop next inner =
    sym (append_assoc first.0.inner (flat_map (λ share. share.inner) first.1) sofar.more)
    ∙ ap (λ shares. flat_map (λ share. share.inner) shares ++ sofar.more) (sym first.2) ∙ sofar.left in
    record {
      depth = deep;
      parts = sofar.parts ++ part.content ∷ [];
      shows = AllZip-taken shown blocks sofar.parts i block block part.content within is others this;
      written = part.written ∙ ap (λ before. before ++ part.content.lines) sofar.written
          ∙ sym (flat_map-push (λ (part : Content). part.lines) sofar.parts part.content);
      rest = ap (λ used. used ++ drop after inner) (flat_map-push (λ (part : Content). part.inner) sofar.parts part.content)
          ∙ one_further (flat_map (λ part. part.inner) sofar.parts) part.content.inner (drop after inner) (drop next inner)
          (drop start inner) part.rest sofar.rest;
      level = sofar.level;
      shares = first.1;
      fits = first.4;
      low = omega (arith, sofar.low, whole, sum);
      more = sofar.more;
      left = same_rest first.0.inner part.content.inner (flat_map (λ share. share.inner) first.1 ++ sofar.more)
          (drop after inner) (drop next inner)
          (as_many_in_block (FitsWithin sofar.level look.style) (ShowsWithin part.depth look) look side w (out-Content block)
          first.0 part.content first.3 part.shows)
          given part.rest;
    }

pub blocks-all : (look : Look) (side : Side) (w : ℕ) (cell : OpenCell) (inner : List Layout) (start i next : ℕ) (lines : List TextLine) →
    take i cell.blocks ≡ cell.blocks →
    BlocksSoFar look side w cell.blocks inner start i next lines → ShowsParts look side w cell inner start next lines
blocks-all look side w cell inner start i next lines all sofar = record {
  depth = sofar.depth;
  content = record { lines = flat_map (λ part. part.lines) sofar.parts; inner = flat_map (λ part. part.inner) sofar.parts };
  shows = record {
    parts = sofar.parts;
    blocks = subst (λ some. AllZip (λ block part. ShowsBlock (ShowsWithin sofar.depth look) look side w (out-Content block) part)
        some sofar.parts) all
        sofar.shows;
    lines = refl;
    inner = refl;
  };
  written = sofar.written;
  rest = sofar.rest;
}

-- ---- the cells of a table

drawn_cells-push : (style : Style) (gaps : Gaps) (widths heights : List ℕ) (places : List Place) (contents : List (List TextLine))
    (place : Place) (lines : List TextLine) →
    length places ≡ length contents →
    drawn_cells style gaps widths heights (places ++ place ∷ []) (contents ++ lines ∷ [])
    ≡ drawn_cells style gaps widths heights places contents ++ drawn_cell style gaps widths heights place lines ∷ []
drawn_cells-push style gaps widths heights [] [] place lines same = refl
drawn_cells-push style gaps widths heights [] (content ∷ contents) place lines same = absurd (omega arith)
drawn_cells-push style gaps widths heights (one ∷ places) [] place lines same = absurd (omega arith)
drawn_cells-push style gaps widths heights (one ∷ places) (content ∷ contents) place lines same =
    ap (λ rest. drawn_cell style gaps widths heights one content ∷ rest)
    (drawn_cells-push style gaps widths heights places contents place lines (omega arith))

AllZip-none : {A B : Type 0} (R : A → B → Type 0) (ys : List B) → AllZip R [] ys → ys ≡ []
AllZip-none R [] all = refl
AllZip-none R (y ∷ ys) all = absurd all

-- the first `i` cells are drawn, and the others are left to fit
pub record CellsSoFar (look : Look) (table : OpenTable) (layout : OpenLayout) (i next : ℕ) (cells : List Drawn) : Type 0 where
  pub depth : ℕ
  pub contents : List Content
  pub shows : AllZip (λ cell content. ShowsCellOf (ShowsWithin depth look) look table layout (out-TableCell cell) content)
      (take i table.cells) contents
  pub written : cells ≡ drawn_cells look.style (row_gaps look.style (grid_of table)) layout.widths layout.heights (map place_of (take i table.cells))
      (map (λ content. content.lines) contents)
  pub rest : flat_map (λ content. content.inner) contents ++ drop next layout.inner ≡ layout.inner
  pub level : ℕ
  pub parts : List (List Layout)
  pub fits : AllZip (λ cell given. FitsCell (FitsWithin level look.style) look.style table layout (out-TableCell cell) given)
      (drop i table.cells) parts
  pub left : flat_map (λ given. given) parts ≡ drop next layout.inner

pub cells-none : (look : Look) (table : OpenTable) (layout : OpenLayout) → Fitting look.style table layout →
    CellsSoFar look table layout 0 0 []
cells-none look table layout fit = record {
  depth = 0;
  contents = [];
  shows = tt;
  written = refl;
  rest = refl;
  level = fit.depth;
  parts = fit.fits.parts;
  fits = fit.fits.cells;
  left = fit.fits.given;
}

-- the rooms of a cell of a table that fits are small
pub narrow_room : (style : Style) (table : OpenTable) (layout : OpenLayout) (place : Place) → Fitting style table layout →
    IsPlaced table.cols table.rows place → width_for style layout place ≤ MAX_PAGE_WIDTH
narrow_room style table layout place fit placed =
    let within : place.right ≤ length layout.widths = omega (arith, fit.fits.columns, placed.1) in
    omega (
      arith,
      room-total (gap_of style) (edges_of style) layout.widths place.left place.right placed.0 within,
      fit.fits.within,
      fit.narrow,
    )

low_room : (style : Style) (table : OpenTable) (layout : OpenLayout) (place : Place) → Fitting style table layout →
    IsPlaced table.cols table.rows place → height_for style table layout place ≤ MAX_HEIGHT
low_room style table layout place fit placed =
    let within : place.bottom ≤ length layout.heights = omega (arith, fit.fits.rows, placed.3) in
    let some : 0 < length layout.heights = omega (arith, placed.2, within) in
    omega (
      arith,
      room-total (row_gap_of style) 0 layout.heights place.top place.bottom placed.2 within,
      total-sum (row_gap_of style) 0 layout.heights some,
      total-sum (row_gap_of style) (lines_of style table) layout.heights some,
      lines_inside-few style table place placed.2 placed.3,
      fit.fits.high,
      fit.low,
    )

-- each cell is placed
pub placed_cell : (table : OpenTable) (i : ℕ) (cell : TableCell) → All (IsPlaced table.cols table.rows) (places_of table) →
    i < length table.cells →
    cell ≡ get_or table.cells i cell → IsPlaced table.cols table.rows (place_of cell)
placed_cell table i cell placed within is =
    let many : i < length (places_of table) = omega (arith, length-map table.cells place_of) in
    let same : get_or (places_of table) i (place_of cell) ≡ place_of cell =
    get_or-map place_of table.cells i cell (place_of cell) within
    ∙ ap place_of (sym is) in
    subst (IsPlaced table.cols table.rows) same (placed i (place_of cell) many)

-- the next cell fits by the next layouts
pub cell-next : (look : Look) (table : OpenTable) (layout : OpenLayout) (i next : ℕ) (cells : List Drawn) (cell : TableCell) →
    Fitting look.style table layout → IsPlaced table.cols table.rows (place_of cell) → i < length table.cells →
    cell ≡ get_or table.cells i cell →
    CellsSoFar look table layout i next cells →
    FitsCellRoom look.style (width_for look.style layout (place_of cell)) (out-TableCell cell) layout.inner next
cell-next look table layout i next cells cell fit placed within is sofar =
    let first = left_first (λ cell given. FitsCell (FitsWithin sofar.level look.style) look.style table layout (out-TableCell cell) given)
    table.cells i cell
    sofar.parts within is sofar.fits in
    record {
      narrow = narrow_room look.style table layout (place_of cell) fit placed;
      depth = sofar.level;
      height = height_for look.style table layout (place_of cell);
      low = low_room look.style table layout (place_of cell) fit placed;
      given = first.0;
      fits = first.3;
      more = flat_map (λ given. given) first.1;
      rest = ap (flat_map (λ given. given)) (sym first.2) ∙ sofar.left;
    }

-- the next cell is drawn after those so far
pub cells-more : (look : Look) (table : OpenTable) (layout : OpenLayout) (i next after : ℕ) (cells : List Drawn)
    (lines : List TextLine) (cell : TableCell) →
    i < length table.cells → cell ≡ get_or table.cells i cell → CellsSoFar look table layout i next cells →
    ShowsParts look (side_of look.align table (out-TableCell cell)) (width_for look.style layout (place_of cell)) (out-TableCell cell)
    layout.inner next after lines →
    CellsSoFar look table layout (i + 1) after
    (cells ++ drawn_cell look.style (row_gaps look.style (grid_of table)) layout.widths layout.heights (place_of cell) lines ∷ [])
cells-more look table layout i next after cells lines cell within is sofar part =
    let first = left_first (λ cell given. FitsCell (FitsWithin sofar.level look.style) look.style table layout (out-TableCell cell) given)
    table.cells i cell
    sofar.parts within is sofar.fits in
    let deep = part.depth + sofar.depth in
    let room = λ (cell : TableCell). width_for look.style layout (out-TableCell cell).place in
    let side = λ (cell : TableCell). side_of look.align table (out-TableCell cell) in
    let shown = λ (cell : TableCell) (content : Content). ShowsCellOf (ShowsWithin deep look) look table layout
    (out-TableCell cell) content in
    let others : AllZip shown (take i table.cells) sofar.contents =
    AllZip-weaker (λ cell content. ShowsCellOf (ShowsWithin sofar.depth look) look table layout (out-TableCell cell) content) shown
    (take i table.cells) sofar.contents
    (λ cell content one. ShowsCell-weaker (ShowsWithin sofar.depth look) (ShowsWithin deep look)
    (ShowsWithin-deeper part.depth sofar.depth look)
    look (side cell) (room cell) (out-TableCell cell) content one) sofar.shows in
    let this : shown cell part.content =
    ShowsCell-weaker (ShowsWithin part.depth look) (ShowsWithin deep look) (ShowsWithin-deeper' sofar.depth part.depth look)
    look (side cell) (room cell) (out-TableCell cell) part.content part.shows in
    let taken = taken_more table.cells i cell cell within is in
    let content_lines = λ (content : Content). content.lines in
    let many : length (map place_of (take i table.cells)) ≡ length (map content_lines sofar.contents) =
    length-map (take i table.cells) place_of ∙ AllZip-length shown (take i table.cells) sofar.contents others ∙ sym
    (length-map sofar.contents content_lines) in
    let places : map place_of (take (i + 1) table.cells) ≡ map place_of (take i table.cells) ++ place_of cell ∷ [] =
    ap (map place_of) taken ∙ map_push place_of (take i table.cells) cell in
    record {
      depth = deep;
      contents = sofar.contents ++ part.content ∷ [];
      shows = AllZip-taken shown table.cells sofar.contents i cell cell part.content within is others this;
      written = ap₂ (λ (before : List Drawn) (last : List TextLine). before ++ drawn_cell look.style (row_gaps look.style (grid_of table))
          layout.widths layout.heights (place_of cell) last ∷ [])
          sofar.written part.written
          ∙ sym (drawn_cells-push look.style (row_gaps look.style (grid_of table)) layout.widths layout.heights (map place_of (take i table.cells))
          (map content_lines sofar.contents)
          (place_of cell) part.content.lines many)
          ∙ ap₂ (drawn_cells look.style (row_gaps look.style (grid_of table)) layout.widths layout.heights) (sym places)
          (sym (map_push content_lines sofar.contents part.content));
      rest = ap (λ used. used ++ drop after layout.inner) (flat_map-push (λ (content : Content). content.inner)
          sofar.contents part.content)
          ∙ one_further (flat_map (λ content. content.inner) sofar.contents) part.content.inner (drop after layout.inner)
          (drop next layout.inner) layout.inner part.rest sofar.rest;
      level = sofar.level;
      parts = first.1;
      fits = first.4;
      left = same_rest first.0 part.content.inner (flat_map (λ given. given) first.1) (drop after layout.inner)
          (drop next layout.inner)
          (as_many_in_cell (FitsWithin sofar.level look.style) (ShowsWithin part.depth look) look (side cell) (room cell)
          (height_for look.style table layout (place_of cell))
          (out-TableCell cell)
          first.0 part.content first.3 part.shows)
          (ap (flat_map (λ given. given)) (sym first.2) ∙ sofar.left) part.rest;
    }

pub cells-all : (look : Look) (table : Table) (layout : Layout) (i next : ℕ) (cells : List Drawn) →
    length (out-Layout layout).heights ≡ (out-Table table).rows → length (out-Table table).cells ≤ i →
    CellsSoFar look (out-Table table) (out-Layout layout) i next cells → ShowsCells look table layout cells
cells-all look table layout i next cells rows all sofar =
    let every = (out-Table table).cells in
    let taken : take i every ≡ every = take_all i every all in
    let none : sofar.parts ≡ [] = AllZip-none
    (λ cell given. FitsCell (FitsWithin sofar.level look.style) look.style (out-Table table) (out-Layout layout) (out-TableCell cell) given) sofar.parts
    (subst (λ some. AllZip (λ cell given. FitsCell (FitsWithin sofar.level look.style) look.style (out-Table table) (out-Layout layout) (out-TableCell cell)
    given) some
    sofar.parts) (drop_all i every all) sofar.fits) in
    let left : drop next (out-Layout layout).inner ≡ [] = sym sofar.left ∙ ap (flat_map (λ given. given)) none in
    record {
      depth = sofar.depth;
      contents = sofar.contents;
      shows = subst (λ some. AllZip (λ cell content. ShowsCellOf (ShowsWithin sofar.depth look) look (out-Table table)
          (out-Layout layout) (out-TableCell cell) content) some sofar.contents) taken sofar.shows;
      inner = sym (append-nil (flat_map (λ content. content.inner) sofar.contents))
          ∙ ap (λ rest. flat_map (λ content. content.inner) sofar.contents ++ rest) (sym left) ∙ sofar.rest;
      rows = rows;
      drawn = sofar.written ∙ ap (λ some. drawn_cells look.style (row_gaps look.style (grid_of (out-Table table)))
          (out-Layout layout).widths (out-Layout layout).heights (map place_of some)
          (map (λ content. content.lines) sofar.contents)) taken;
    }
