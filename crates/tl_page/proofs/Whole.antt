-- Each line of a page is as wide as the layout, and all text of a table stands on its page: blocks, cells and tables, by
-- the tables nested in them.
use Rattle.std.proofs.Common.{◌≡◌, ℕ, zero, suc, ◌+◌, ◌-◌, ◌≤◌, List, [], ◌∷◌, ◌++◌, Some, length, take, map, get_or, slice_get}
use Rattle.std.proofs.Common.{sum_by, refl, sym}
use Rattle.std.proofs.Common.{◌∙◌, ap, ap₂, subst, append_assoc, arith}
use Rattle.std.specs.List.{All, AllByRecursion, AllPairs, AllZip, flat_map}
use Rattle.std.proofs.lemmas.List.{length-append, length-map, get_or-map, map-append, take_at}
use Rattle.std.proofs.lemmas.List.Sums.{sum_by-cons}
use Rattle.std.proofs.lemmas.Option.{none-some, same_Some, slice_get_within, slice_get-get_or}
use Rattle.tl_base.proofs.Zips.{AllZip-get_or, AllZip-length}
use Rattle.tl_align.specs.Sides.{side_of}
use Rattle.tl_base.specs.declared.style.Style.{Style}
use Rattle.tl_base.specs.Style.{gap_of, row_gap_of, edge_of}
use Rattle.tl_base.proofs.Members.{AllByRecursion-append}
use Rattle.tl_grid.specs.declared.shape.Place.{Place}
use Rattle.tl_grid.specs.Dropping.{IsPlaced}
use Rattle.tl_grid.specs.Slots.{AreApart}
use Rattle.tl_base.specs.Sizes.{position, room}
use Rattle.tl_base.proofs.SizeLaws.{room-position}
use Rattle.tl_sides.specs.declared.side.Side.{Side}
use Rattle.tl_text.specs.declared.paragraph.Atom.{Atom}
use Rattle.tl_text.specs.Cuttings.{joined, line_width}
use Rattle.tl_table.specs.declared.cell.Content.{Content as Block, out-Content}
use Rattle.tl_table.specs.declared.cell.Content.TheOpen as open_content
use Rattle.tl_table.specs.declared.cell.Table.{Table, out-Table}
use Rattle.tl_table.specs.declared.cell.TableCell.{TableCell, out-TableCell}
use Rattle.tl_table.specs.declared.layout.Layout.{Layout, out-Layout}
use Rattle.tl_table.specs.Tables.{OpenTable, OpenContent}
use Rattle.tl_table.specs.Layouts.{OpenLayout, Share, Fits, FitsShare, FitsRoom, FitsCell, FitsBy, FitsWithin, total_width}
use Rattle.tl_table.specs.Layouts.{total_height, width_for}
use Rattle.tl_table.specs.Layouts.{height_for}
use Rattle.tl_table.specs.Sound.{IsSound, IsSoundWithin, place_of, places_of, IsSoundBlock, IsSoundCell}
use Rattle.tl_table.proofs.SoundParts.{sound_cells, sound_blocks}
use Rattle.tl_page.specs.declared.line.TextLine.{TextLine}
use Rattle.tl_page.specs.declared.look.Look.{Look}
use Rattle.tl_page.specs.Pages.{Content, ShowsBlock, ShowsCell, ShowsCellOf, ShowsBy, ShowsWithin, aligned, grid_of}
use Rattle.tl_page.specs.Pages.{line_from}
use Rattle.tl_page.specs.Pictures.{Picture, picture, filled, spaces, picture_line, row_gaps}
use Rattle.tl_page.specs.Standing.{TextStandsAt, AreTextsOf, HoldsBy, HoldsWithin, aligned_text}
use Rattle.tl_page.specs.Strips.{begin_in, strips}
use Rattle.tl_page.specs.Widths.{TakesColumns}
use Rattle.tl_page.proofs.Fitting.{same_rest, as_many_in_block, as_many_in_cell}
use Rattle.tl_page.proofs.GreedyLines.{greedy-least}
use Rattle.tl_page.proofs.HeadRows.{lines_within}
use Rattle.tl_page.proofs.LineWidths.{IsInRoom, IsFilledIn, HasRoom, line_wide, cell_stands}
use Rattle.tl_page.proofs.PageLaws.{as_high}
use Rattle.tl_page.proofs.PageLines.{page_line, all_lines}
use Rattle.tl_page.proofs.Sides.{aligned_in_room}
use Rattle.tl_page.proofs.WidthLemmas.{HasWidth-line}

-- ---- lists

-- of two splits of a list at one place the firsts are the same
same_first : {X : Type 0} (xs ys more rest : List X) → length xs ≡ length ys → xs ++ more ≡ ys ++ rest → xs ≡ ys
same_first xs ys more rest same one =
    sym (take_at xs more (length xs) refl) ∙ ap (take (length xs)) one ∙ take_at ys rest (length xs) (sym same)

abbrev texts_of : List TextLine → List (List ℕ)
texts_of lines = map (λ line. line.text) lines

texts_from : (side : Side) (w : ℕ) (lines : List (List Atom)) →
    texts_of (map (aligned side w) (map line_from lines)) ≡ map (aligned_text side w) lines
texts_from side w [] = refl
texts_from side w (line ∷ lines) = ap (λ rest. aligned_text side w line ∷ rest) (texts_from side w lines)

texts_nested : (width : ℕ) (page : List (List ℕ)) →
    texts_of (map (λ (text : List ℕ). let line : TextLine = record { text = text; width = width } in line) page) ≡ page
texts_nested width [] = refl
texts_nested width (text ∷ page) = ap (λ rest. text ∷ rest) (texts_nested width page)

-- the line of a text
line_with_text : (lines : List TextLine) (k : ℕ) (text : List ℕ) → slice_get (texts_of lines) k ≡ Some text →
    (line : TextLine) × (slice_get lines k ≡ Some line) × (line.text ≡ text)
line_with_text [] k text at = absurd (none-some text at)
line_with_text (line ∷ lines) zero text at = (line, refl, same_Some line.text text at)
line_with_text (line ∷ lines) (suc k) text at = line_with_text lines k text at

zip_mapped : {A B C D : Type 0} (R : A → B → Type 0) (S : C → D → Type 0) (f : A → C) (g : B → D) (xs : List A) (ys : List B) →
    ((x : A) (y : B) → R x y → S (f x) (g y)) → AllZip R xs ys → AllZip S (map f xs) (map g ys)
zip_mapped R S f g [] [] each all = tt
zip_mapped R S f g [] (y ∷ ys) each all = absurd all
zip_mapped R S f g (x ∷ xs) [] each all = absurd all
zip_mapped R S f g (x ∷ xs) (y ∷ ys) each all = (each x y all.0, zip_mapped R S f g xs ys each all.1)

-- ---- what holds of a page

-- each line is as wide as the layout, and all text stands on the page
pub record IsWhole (depth : ℕ) (look : Look) (table : Table) (layout : Layout) (page : List (List ℕ)) : Type 0 where
  pub wide : AllByRecursion (λ line. TakesColumns line (total_width look.style (out-Layout layout))) page
  pub holds : HoldsWithin depth look table layout page

lines_in_room : (side : Side) (w : ℕ) (lines : List (List Atom)) → AllByRecursion (λ line. line_width line ≤ w) lines →
    AllByRecursion (IsInRoom w) (map (aligned side w) (map line_from lines))
lines_in_room side w [] holds = tt
lines_in_room side w (line ∷ lines) holds =
    (aligned_in_room side w (line_from line) (HasWidth-line line, holds.0), lines_in_room side w lines holds.1)

nested_in_room : (w width : ℕ) (page : List (List ℕ)) → width ≤ w → AllByRecursion (λ line. TakesColumns line width) page →
    AllByRecursion (IsInRoom w) (map (λ (text : List ℕ). let line : TextLine = record { text = text; width = width } in line) page)
nested_in_room w width [] within wide = tt
nested_in_room w width (line ∷ page) within wide = ((wide.0, within), nested_in_room w width page within wide.1)

fits_parts : (level : ℕ) (style : Style) (table : Table) (w h : ℕ) (layout : Layout) → FitsWithin level style table w h layout →
    (total_width style (out-Layout layout) ≤ w) × (total_height style (out-Table table) (out-Layout layout) ≡ h)
fits_parts zero style table w h layout fits = absurd fits
fits_parts (suc level) style table w h layout fits = (fits.within, fits.high)

grid_parts : (depth : ℕ) (table : Table) → IsSoundWithin depth table →
    All (IsPlaced (out-Table table).cols (out-Table table).rows) (places_of (out-Table table)) ×
    AllPairs AreApart (places_of (out-Table table))
grid_parts zero table sound = absurd sound
grid_parts (suc depth) table sound = (sound.placed, sound.apart)

module _ (depth : ℕ) (look : Look)
    (inside : (table : Table) (layout : Layout) (page : List (List ℕ)) (width height : ℕ) → IsSound table →
    Fits table look.style width height layout →
    ShowsWithin depth look table layout page → IsWhole depth look table layout page) where
  -- ---- a block

  record IsBlockWhole (side : Side) (w h : ℕ) (block : OpenContent) (lines : List TextLine) : Type 0 where
    pub in_room : AllByRecursion (IsInRoom w) lines
    pub low : length lines ≤ h
    pub text : AreTextsOf look (HoldsWithin depth look) side w block (texts_of lines)

  block_whole : (level : ℕ) (side : Side) (w : ℕ) (block : OpenContent) (share : Share) (part : Content) → IsSoundBlock block →
      FitsShare (FitsWithin level look.style) w block share → ShowsBlock (ShowsWithin depth look) look side w block part →
      share.inner ≡ part.inner →
      IsBlockWhole side w share.height block part.lines
  block_whole level side w (open_content.Para paragraph) share part sound fit shows same =
      let cut = shows.cut.0 in
      let greedy = shows.cut.1 in
      let lines = shows.at_side ∙ ap (map (aligned side w)) shows.cut.2 in
      record {
        in_room = subst (AllByRecursion (IsInRoom w)) (sym lines) (lines_in_room side w (joined cut) greedy.holds);
        low = omega (
          arith,
          ap length lines,
          length-map (map line_from (joined cut)) (aligned side w),
          length-map (joined cut) line_from,
          greedy-least w paragraph cut fit.0.0 greedy fit.0.1 fit.0.2,
          fit.0.3,
        );
        text = (cut, greedy.cutting, ap texts_of lines ∙ texts_from side w (joined cut));
      }
  block_whole level side w (open_content.Table box) share part sound fit shows same =
      let layout : fit.layout ≡ shows.layout = ap (λ list. get_or list 0 fit.layout) (sym fit.given ∙ same ∙ shows.inner) in
      let laid = subst (FitsWithin level look.style box.value w fit.height) layout fit.laid in
      let whole = inside box.value shows.layout shows.page w fit.height sound.0 (level, laid) shows.shown in
      let parts = fits_parts level look.style box.value w fit.height shows.layout laid in
      let width = total_width look.style (out-Layout shows.layout) in
      record {
        in_room = subst (AllByRecursion (IsInRoom w)) (sym shows.lines) (nested_in_room w width shows.page parts.0 whole.wide);
        low = omega (
          arith,
          ap length shows.lines,
          length-map shows.page (λ (text : List ℕ). let line : TextLine = record { text = text; width = width } in line),
          as_high look box.value shows.layout shows.page (depth, shows.shown),
          parts.1,
          fit.within,
        );
        text = subst (AreTextsOf look (HoldsWithin depth look) side w (open_content.Table box))
            (sym (ap texts_of shows.lines ∙ texts_nested width shows.page))
            (shows.layout, (depth, shows.shown), whole.holds);
      }

  -- ---- the blocks of a cell

  record AreBlocksWhole (side : Side) (w h : ℕ) (blocks : List Block) (lines : List TextLine) : Type 0 where
    pub in_room : AllByRecursion (IsInRoom w) lines
    pub low : length lines ≤ h
    pub texts : List (List (List ℕ))
    pub each : AllZip (λ block text. AreTextsOf look (HoldsWithin depth look) side w (out-Content block) text) blocks texts
    pub all : joined texts ≡ texts_of lines

  blocks_whole : (level : ℕ) (side : Side) (w : ℕ) (blocks : List Block) (shares : List Share) (parts : List Content) →
      AllByRecursion (λ block. IsSoundBlock (out-Content block)) blocks →
      AllZip (λ block share. FitsShare (FitsWithin level look.style) w (out-Content block) share) blocks shares →
      AllZip (λ block part. ShowsBlock (ShowsWithin depth look) look side w (out-Content block) part) blocks parts →
      flat_map (λ share. share.inner) shares ≡ flat_map (λ part. part.inner) parts →
      AreBlocksWhole side w (sum_by (λ share. share.height) shares) blocks (flat_map (λ part. part.lines) parts)
  blocks_whole level side w [] [] [] sound fit shows same = record {
    in_room = tt;
    low = omega arith;
    texts = [];
    each = tt;
    all =
        refl;
  }
  blocks_whole level side w [] [] (part ∷ parts) sound fit shows same = absurd shows
  blocks_whole level side w [] (share ∷ shares) parts sound fit shows same = absurd fit
  blocks_whole level side w (block ∷ blocks) [] parts sound fit shows same = absurd fit
  blocks_whole level side w (block ∷ blocks) (share ∷ shares) [] sound fit shows same = absurd shows
  blocks_whole level side w (block ∷ blocks) (share ∷ shares) (part ∷ parts) sound fit shows same =
      let many = as_many_in_block (FitsWithin level look.style) (ShowsWithin depth look) look side w (out-Content block)
      share part fit.0 shows.0 in
      let here = same_first share.inner part.inner (flat_map (λ share. share.inner) shares)
      (flat_map (λ part. part.inner) parts) many same in
      let there = same_rest share.inner part.inner (flat_map (λ share. share.inner) shares) (flat_map (λ part. part.inner) parts)
      (part.inner ++ flat_map (λ part. part.inner) parts) many same refl in
      let one = block_whole level side w (out-Content block) share part sound.0 fit.0 shows.0 here in
      let rest = blocks_whole level side w blocks shares parts sound.1 fit.1 shows.1 there in
      record {
        in_room = AllByRecursion-append (IsInRoom w) part.lines (flat_map (λ part. part.lines) parts) one.in_room rest.in_room;
        low = omega (
          arith,
          length-append part.lines (flat_map (λ part. part.lines) parts),
          sum_by-cons (λ (share : Share). share.height) share shares,
          one.low,
          rest.low,
        );
        texts = texts_of part.lines ∷ rest.texts;
        each = (one.text, rest.each);
        all = ap (λ more. texts_of part.lines ++ more) rest.all
            ∙ sym (map-append (λ (line : TextLine). line.text) part.lines (flat_map (λ part. part.lines) parts));
      }

  -- ---- a cell

  cell_whole : (level : ℕ) (side : Side) (w h : ℕ) (cell : TableCell) (given : List Layout) (content : Content) → IsSoundCell (out-TableCell cell) →
      FitsRoom (FitsWithin level look.style) w h (out-TableCell cell) given →
      ShowsCell (ShowsWithin depth look) look side w (out-TableCell cell) content →
      given ≡ content.inner → AreBlocksWhole side w h (out-TableCell cell).blocks content.lines
  cell_whole level side w h cell given content sound fit shows same =
      let blocks = blocks_whole level side w (out-TableCell cell).blocks fit.shares shows.parts (sound_blocks cell sound)
      fit.blocks shows.blocks
      (fit.given ∙ same ∙ sym shows.inner) in
      record {
        in_room = subst (AllByRecursion (IsInRoom w)) shows.lines blocks.in_room;
        low = omega (arith, ap length shows.lines, blocks.low, fit.within);
        texts = blocks.texts;
        each = blocks.each;
        all = blocks.all ∙ ap texts_of shows.lines;
      }

  module _ (table : OpenTable) (layout : OpenLayout) where
    -- what holds of a cell and its lines
    abbrev IsCellWhole : TableCell → Content → Type 0
    IsCellWhole cell content = AreBlocksWhole (side_of look.align table (out-TableCell cell))
        (width_for look.style layout (out-TableCell cell).place)
        (height_for look.style table layout (out-TableCell cell).place)
        (out-TableCell cell).blocks content.lines

    cells_whole : (level : ℕ) (cells : List TableCell) (parts : List (List Layout)) (contents : List Content) →
        AllByRecursion (λ cell. IsSoundCell (out-TableCell cell)) cells →
        AllZip (λ cell given. FitsCell (FitsWithin level look.style) look.style table layout (out-TableCell cell) given) cells parts →
        AllZip (λ cell content. ShowsCellOf (ShowsWithin depth look) look table layout (out-TableCell cell) content)
        cells contents →
        flat_map (λ given. given) parts ≡ flat_map (λ content. content.inner) contents → AllZip IsCellWhole cells contents
    cells_whole level [] [] [] sound fit shows same = tt
    cells_whole level [] [] (content ∷ contents) sound fit shows same = absurd shows
    cells_whole level [] (given ∷ parts) contents sound fit shows same = absurd fit
    cells_whole level (cell ∷ cells) [] contents sound fit shows same = absurd fit
    cells_whole level (cell ∷ cells) (given ∷ parts) [] sound fit shows same = absurd shows
    cells_whole level (cell ∷ cells) (given ∷ parts) (content ∷ contents) sound fit shows same =
        let side = side_of look.align table (out-TableCell cell) in
        let w = width_for look.style layout (out-TableCell cell).place in
        let h = height_for look.style table layout (out-TableCell cell).place in
        let many = as_many_in_cell (FitsWithin level look.style) (ShowsWithin depth look) look side w h (out-TableCell cell)
        given content fit.0 shows.0 in
        let here = same_first given content.inner (flat_map (λ given. given) parts)
        (flat_map (λ content. content.inner) contents) many same in
        let there = same_rest given content.inner (flat_map (λ given. given) parts) (flat_map (λ content. content.inner) contents)
        (content.inner ++ flat_map (λ content. content.inner) contents) many same refl in (
          cell_whole level side w h cell given content sound.0 fit.0 shows.0 here,
          cells_whole level cells parts contents sound.1 fit.1 shows.1 there,
        )

  -- ---- a table

  module _ (level width height : ℕ) (table : OpenTable) (layout : OpenLayout) (page : List (List ℕ))
      (placed : All (IsPlaced table.cols table.rows) (places_of table)) (apart : AllPairs AreApart (places_of table))
      (fit : FitsBy (FitsWithin level look.style) look.style table width height layout)
      (shows : ShowsBy (ShowsWithin depth look) look table layout page)
      (cells : AllZip (IsCellWhole table layout) table.cells shows.contents) where
    abbrev contents : List (List TextLine)
    contents = map (λ content. content.lines) shows.contents

    abbrev drawn_picture : Picture
    drawn_picture = picture look.style (grid_of table) layout.widths layout.heights contents

    filled_in : IsFilledIn look.style (grid_of table) layout.widths layout.heights contents
    filled_in = record {
      columns = fit.columns;
      placed = placed;
      apart = apart;
      filled = zip_mapped (IsCellWhole table layout) (HasRoom look.style (grid_of table) layout.widths layout.heights contents) place_of
          (λ content. content.lines)
          table.cells shows.contents (λ cell content whole. whole.in_room) cells;
    }

    wide : AllByRecursion (λ line. TakesColumns line (total_width look.style layout)) page
    wide = subst (AllByRecursion (λ line. TakesColumns line (total_width look.style layout))) (sym shows.drawn)
        (all_lines (λ line. TakesColumns line (total_width look.style layout)) drawn_picture
        (strips (row_gaps look.style (grid_of table)) (edge_of look.style) layout.heights)
        (λ down y. line_wide look.style (grid_of table) layout.widths layout.heights contents filled_in down y))

    -- line `k` of a cell stands on the page
    line_stands : (n k : ℕ) (place : Place) (lines : List TextLine) (line : TextLine) → slice_get (places_of table) n ≡ Some place →
        slice_get contents n ≡ Some lines → IsPlaced table.cols table.rows place →
        length lines ≤ height_for look.style table layout place →
        slice_get lines k ≡ Some line →
        TextStandsAt page (edge_of look.style + position (gap_of look.style) layout.widths place.left)
        (edge_of look.style + begin_in (row_gaps look.style (grid_of table)) layout.heights place.top + k) line.text
    line_stands n k place lines line at stood lies low here =
        let gap = row_gap_of look.style in
        let gaps = row_gaps look.style (grid_of table) in
        let edge = edge_of look.style in
        let heights = layout.heights in
        let begin = begin_in gaps heights place.top in
        let within = slice_get_within lines k line here in
        let rooms = room-position gap heights place.top place.bottom lies.2 in
        let found = page_line drawn_picture gaps edge heights place.top place.bottom (begin + k) lies.2
        (omega (arith, fit.rows, lies.3))
        (omega arith) (omega (arith, within, low, rooms, lines_within look.style table place lies.2)) in
        let row : edge + (begin + k) ≡ edge + begin + k = omega arith in
        let number : edge + (begin + k) - (edge + begin) ≡ k = omega arith in
        let columns = room (gap_of look.style) layout.widths place.left place.right in
        let stands = cell_stands look.style (grid_of table) layout.widths heights contents filled_in found.0 (edge + (begin + k))
        n place lines at stood
        found.1 found.2 found.3 found.4 in
        let tail : List ℕ = spaces (columns - line.width) in
        let content = filled columns (slice_get lines (edge + (begin + k) - (edge + begin))) in
        let text : content ≡ line.text ++ tail = ap (filled columns) (ap (slice_get lines) number ∙ here) in
        record {
          before = stands.0;
          after = tail ++ stands.1;
          columns = stands.2;
          line = placed_line stands.0 stands.1 line.text tail content text
              (picture_line drawn_picture found.0 (edge + (begin + k)))
              stands.3
              (ap₂ (λ (page : List (List ℕ)) (y : ℕ). slice_get page y) shows.drawn (sym row) ∙ found.5);
        } where
          placed_line : (before after text tail content : List ℕ) → content ≡ text ++ tail → (whole : List ℕ) →
              whole ≡ before ++ (content ++ after) →
              slice_get page (edge_of look.style + begin_in (row_gaps look.style (grid_of table)) layout.heights place.top + k) ≡ Some whole →
              slice_get page (edge_of look.style + begin_in (row_gaps look.style (grid_of table)) layout.heights place.top + k) ≡ Some
              (before ++ (text ++ (tail ++ after)))
          placed_line before after text tail content is whole drawn at =
              at ∙ ap Some (drawn ∙ ap (λ middle. before ++ (middle ++ after)) is ∙ ap (λ rest. before ++ rest)
              (append_assoc text tail after))

    holds : HoldsBy (HoldsWithin depth look) look table layout page
    holds n other within =
        let cell = get_or table.cells n other in
        let none : Content = record { lines = []; inner = [] } in
        let content = get_or shows.contents n none in
        let whole : IsCellWhole table layout cell content = AllZip-get_or (IsCellWhole table layout)
        table.cells shows.contents n other none cells within in
        let as_many = AllZip-length (IsCellWhole table layout) table.cells shows.contents cells in
        let at : slice_get (places_of table) n ≡ Some (place_of cell) =
        slice_get-get_or (places_of table) n (place_of other) (omega (arith, within, length-map table.cells place_of))
        ∙ ap Some (get_or-map place_of table.cells n other (place_of other) within) in
        let stood : slice_get contents n ≡ Some content.lines =
        slice_get-get_or contents n [] (omega (
          arith,
          within,
          as_many,
          length-map shows.contents (λ (content : Content). content.lines),
        ))
        ∙ ap Some (get_or-map (λ (content : Content). content.lines) shows.contents n none [] (omega (arith, within, as_many))) in
        let lies : IsPlaced table.cols table.rows (place_of cell) =
        subst (IsPlaced table.cols table.rows) (get_or-map place_of table.cells n other (place_of other) within)
        (placed n (place_of other) (omega (arith, within, length-map table.cells place_of))) in
        record {
          texts = whole.texts;
          blocks = whole.each;
          standing = λ k text here.
              let found = line_with_text content.lines k text (ap (λ texts. slice_get texts k) (sym whole.all) ∙ here) in
              subst (TextStandsAt page (edge_of look.style + position (gap_of look.style) layout.widths (place_of cell).left)
              (edge_of look.style + begin_in (row_gaps look.style (grid_of table)) layout.heights (place_of cell).top + k)) found.2
              (line_stands n k (place_of cell) content.lines found.0 at stood lies whole.low found.1);
        }

-- ---- at all depths

pub whole : (depth : ℕ) (look : Look) (table : Table) (layout : Layout) (page : List (List ℕ)) (width height : ℕ) →
    IsSound table →
    Fits table look.style width height layout → ShowsWithin depth look table layout page → IsWhole depth look table layout page
whole zero look table layout page width height sound fits shows = absurd shows
whole (suc depth) look table layout page width height sound (zero, fit) shows = absurd fit
whole (suc depth) look table layout page width height sound (suc level, fit) shows =
    let inside = λ (table : Table) (layout : Layout) (page : List (List ℕ))
    (width height : ℕ). whole depth look table layout page width height in
    let grid = grid_parts sound.depth table sound.sound in
    let cells = cells_whole depth look inside (out-Table table) (out-Layout layout) level (out-Table table).cells fit.parts shows.contents
    (sound_cells table sound)
    fit.cells shows.cells (fit.given ∙ sym shows.inner) in
    record {
      wide = wide depth look inside level width height (out-Table table) (out-Layout layout) page grid.0 grid.1 fit shows cells;
      holds = holds depth look inside level width height (out-Table table) (out-Layout layout)
          page grid.0 grid.1 fit shows cells;
    }
