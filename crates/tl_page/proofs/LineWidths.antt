-- Each line of a picture takes all columns, and the lines of a cell stand after all columns before the cell.
use Rattle.std.proofs.Common.{◌≡◌, ℕ, zero, suc, ◌+◌, ◌-◌, ◌<◌, ◌≤◌, Bool, ◌&&◌, List, [], ◌∷◌, ◌++◌, Option, Some, None, length}
use Rattle.std.proofs.Common.{slice_get, refl, sym}
use Rattle.std.proofs.Common.{◌∙◌, ap, subst, arith, if◌then◌else◌, ne_eqb}
use Rattle.std.specs.List.{All, AllByRecursion, AllPairs, AllZip}
use Rattle.std.proofs.lemmas.Bool.{eq-eqb}
use Rattle.std.proofs.lemmas.Option.{none-some, same_Some, slice_get_within, get_or_from_slice_get}
use Rattle.tl_base.specs.declared.style.Style.{Style}
use Rattle.tl_base.specs.Style.{gap_of, edge_of, edges_of}
use Rattle.tl_grid.specs.declared.shape.Place.{Place}
use Rattle.tl_grid.specs.Dropping.{IsPlaced}
use Rattle.tl_grid.specs.Slots.{AreApart}
use Rattle.tl_base.specs.Sizes.{position, room, total}
use Rattle.tl_page.specs.declared.line.Drawn.{Drawn}
use Rattle.tl_page.specs.declared.line.TextLine.{TextLine}
use Rattle.tl_page.specs.declared.strip.Strip.{Strip}
use Rattle.tl_page.specs.Corners.{Grid, owner_of, is_on_line}
use Rattle.tl_page.specs.Pictures.{drawn_cell, drawn_cells, picture, filled, spaces, inside_cell, piece, picture_line, row_gaps}
use Rattle.tl_page.specs.Strips.{begin_in}
use Rattle.tl_page.specs.Widths.{TakesColumns}
use Rattle.tl_page.proofs.WidthLemmas.{HasWidth-append, HasWidth-spaces}
use Rattle.tl_page.proofs.Sweeping.{IsSwept, strip_with, stands, whole_line}
use Rattle.tl_page.proofs.Meeting.{through, through_both, through_same, bare_slot, cell_slot, gap_between, lies_over, has_slots}

-- the line is as wide as it says, and no wider than its room
abbrev pub IsInRoom : ℕ → TextLine → Type 0
IsInRoom columns line = TakesColumns line.text line.width × (line.width ≤ columns)

line_filled : (columns : ℕ) (line : TextLine) → IsInRoom columns line → TakesColumns (filled columns (Some line)) columns
line_filled columns line (wide, within) =
    HasWidth-append line.text (spaces (columns - line.width)) line.width (columns - line.width) columns wide
    (HasWidth-spaces (columns - line.width)) (omega (arith, within))

none_filled : (columns : ℕ) → TakesColumns (filled columns None) columns
none_filled columns = HasWidth-spaces columns

any_filled : (columns : ℕ) (lines : List TextLine) (k : ℕ) → AllByRecursion (IsInRoom columns) lines →
    TakesColumns (filled columns (slice_get lines k)) columns
any_filled columns [] k fit = none_filled columns
any_filled columns (line ∷ lines) zero fit = line_filled columns line fit.0
any_filled columns (line ∷ lines) (suc k) fit = any_filled columns lines k fit.1

-- what stands on line `y` of the page inside a cell
abbrev content_at : Option Drawn → ℕ → List ℕ
content_at None y = []
content_at (Some cell) y = filled cell.columns (slice_get cell.lines (y - cell.first))

-- at its first column its content stands, and at the others nothing more
begun_cell : (cell : Drawn) (slot from size y : ℕ) → slot ≡ cell.left + 1 →
    inside_cell (Some cell) (strip_with slot slot from size) y ≡ content_at (Some cell) y
begun_cell cell slot from size y begins =
    ap (λ t. if t && t then filled cell.columns (slice_get cell.lines (y - cell.first)) else [])
    (eq-eqb slot (cell.left + 1) begins)

later_cell : (cell : Drawn) (slot from size y : ℕ) → cell.left + 1 < slot →
    inside_cell (Some cell) (strip_with slot slot from size) y ≡ []
later_cell cell slot from size y beyond =
    ap (λ t. if t && t then filled cell.columns (slice_get cell.lines (y - cell.first)) else [])
    (ne_eqb slot (cell.left + 1) (λ same. absurd (omega (arith, same, beyond))))

module _ (style : Style) (grid : Grid) (widths heights : List ℕ) (contents : List (List TextLine)) where
  -- the lines of a cell are within the room of its columns
  abbrev pub HasRoom : Place → List TextLine → Type 0
  HasRoom place lines = AllByRecursion (IsInRoom (room (gap_of style) widths place.left place.right)) lines

  -- the grid and what stands in it
  pub record IsFilledIn : Type 0 where
    pub columns : length widths ≡ grid.cols
    pub placed : All (IsPlaced grid.cols grid.rows) grid.places
    pub apart : AllPairs AreApart grid.places
    pub filled : AllZip HasRoom grid.places contents

  -- a cell as it is drawn
  cell_drawn : (places : List Place) (contents : List (List TextLine)) (n : ℕ) (place : Place) → AllZip HasRoom places contents →
      slice_get places n ≡ Some place →
      (lines : List TextLine) × HasRoom place lines × (slice_get contents n ≡ Some lines)
      × (slice_get (drawn_cells style (row_gaps style grid) widths heights places contents) n
      ≡ Some (drawn_cell style (row_gaps style grid) widths heights place lines))
  cell_drawn [] contents n place fit at = absurd (none-some place at)
  cell_drawn (first ∷ places) [] n place fit at = absurd fit
  cell_drawn (first ∷ places) (lines ∷ contents) zero place fit at =
      let same = same_Some first place at in (
        lines,
        subst (λ (place : Place). HasRoom place lines) same fit.0,
        refl,
        ap (λ (place : Place). Some (drawn_cell style (row_gaps style grid) widths heights place lines)) same,
      )
  cell_drawn (first ∷ places) (lines ∷ contents) (suc n) place fit at = cell_drawn places contents n place fit.1 at

  module _ (fit : IsFilledIn) (down : Strip) (y : ℕ) where
    -- the cell that goes through a slot
    abbrev pub kind : ℕ → Option ℕ
    kind slot = through (owner_of grid slot down.before) (owner_of grid slot down.after)

    -- the place where this strip of columns crosses that of the line is on the line under the head
    abbrev pub on_line : Strip → Bool
    on_line across = is_on_line style grid.head across down

    -- the cells as they are drawn
    abbrev pub drawn : List Drawn
    drawn = drawn_cells style (row_gaps style grid) widths heights grid.places contents

    -- what stands on the line inside this cell
    abbrev pub content : ℕ → List ℕ
    content n = content_at (slice_get drawn n) y

    abbrev pub piece_at : Strip → List ℕ
    piece_at across = piece (picture style grid widths heights contents) down y across

    placed_at : (n : ℕ) (place : Place) → slice_get grid.places n ≡ Some place → IsPlaced grid.cols grid.rows place
    placed_at n place at = subst (IsPlaced grid.cols grid.rows) (get_or_from_slice_get grid.places n place place at)
        (fit.placed n place (slice_get_within grid.places n place at))

    drawn_at : (n : ℕ) (place : Place) → slice_get grid.places n ≡ Some place →
        (lines : List TextLine) × HasRoom place lines × (slice_get contents n ≡ Some lines)
        × (slice_get (drawn_cells style (row_gaps style grid) widths heights grid.places contents) n
        ≡ Some (drawn_cell style (row_gaps style grid) widths heights place lines))
    drawn_at n place at = cell_drawn grid.places contents n place fit.filled at

    placed : (slot n : ℕ) → kind slot ≡ Some n →
        (place : Place) × (slice_get grid.places n ≡ Some place) × (place.left < slot) × (slot ≤ place.right) ×
        (place.right ≤ length widths)
    placed slot n some =
        let both = through_both (owner_of grid slot down.before) (owner_of grid slot down.after) n some in
        let lies = lies_over grid slot down.before n both.0 in
        let within = placed_at n lies.0 lies.1 in
        (lies.0, lies.1, lies.2, lies.3, omega (arith, within.1, fit.columns))

    whole : (slot other n : ℕ) (place : Place) → kind slot ≡ Some n → slice_get grid.places n ≡ Some place → place.left < other →
        other ≤ place.right → kind other ≡ Some n
    whole slot other n place some at left right =
        let both = through_both (owner_of grid slot down.before) (owner_of grid slot down.after) n some in
        let above = lies_over grid slot down.before n both.0 in
        let below = lies_over grid slot down.after n both.1 in
        let first = same_Some above.0 place (sym above.1 ∙ at) in
        let second = same_Some below.0 place (sym below.1 ∙ at) in
        let one = has_slots grid other down.before n place fit.placed fit.apart at left right
        (subst (λ (place : Place). place.top < down.before) first above.4)
        (subst (λ (place : Place). down.before ≤ place.bottom) first above.5) in
        let two = has_slots grid other down.after n place fit.placed fit.apart at left right
        (subst (λ (place : Place). place.top < down.after) second below.4)
        (subst (λ (place : Place). down.after ≤ place.bottom) second below.5) in
        rw (one, two) (through_same n)

    swept : IsSwept kind grid.places (gap_of style) (edge_of style) widths content piece_at
    swept = record {
      placed = placed;
      whole = whole;
      wide = λ n place at. let cell = drawn_at n place at in
          subst (λ some. TakesColumns (content_at some y) (room (gap_of style) widths place.left place.right)) (sym cell.3)
          (any_filled (room (gap_of style) widths place.left place.right) cell.0
          (y - (edge_of style + begin_in (row_gaps style grid) heights place.top)) cell.1);
      bare = λ slot from size none. bare_slot style (on_line (strip_with slot slot from size)) drawn
          (owner_of grid slot down.before) (owner_of grid slot down.after) (strip_with slot slot from size) y none;
      begun = λ slot from size n place some at begins. let cell = drawn_at n place at in
          cell_slot style (on_line (strip_with slot slot from size)) drawn (owner_of grid slot down.before)
          (owner_of grid slot down.after) (strip_with slot slot from size) y n some
          ∙ ap (λ some. inside_cell some (strip_with slot slot from size) y) cell.3
          ∙ begun_cell (drawn_cell style (row_gaps style grid) widths heights place cell.0) slot from size y begins
          ∙ ap (λ some. content_at some y) (sym cell.3);
      later = λ slot from size n place some at beyond. let cell = drawn_at n place at in
          cell_slot style (on_line (strip_with slot slot from size)) drawn (owner_of grid slot down.before)
          (owner_of grid slot down.after) (strip_with slot slot from size) y n some
          ∙ ap (λ some. inside_cell some (strip_with slot slot from size) y) cell.3
          ∙ later_cell (drawn_cell style (row_gaps style grid) widths heights place cell.0) slot from size y beyond;
      between = λ slot from size. gap_between style (on_line (strip_with slot (slot + 1) from size)) drawn
          (owner_of grid slot down.before) (owner_of grid (slot + 1) down.before) (owner_of grid slot down.after) (owner_of grid (slot + 1) down.after)
          slot from size y;
    }

    pub line_wide : TakesColumns (picture_line (picture style grid widths heights contents) down y)
        (total (gap_of style) (edges_of style) widths)
    line_wide = whole_line kind grid.places (gap_of style) (edge_of style) widths content piece_at swept

    -- the line of a cell that goes through stands after all columns before the cell
    pub cell_stands : (n : ℕ) (place : Place) (lines : List TextLine) → slice_get grid.places n ≡ Some place →
        slice_get contents n ≡ Some lines →
        place.top < down.before → down.before ≤ place.bottom → place.top < down.after → down.after ≤ place.bottom →
        (before after : List ℕ) × TakesColumns before (edge_of style + position (gap_of style) widths place.left)
        × (picture_line (picture style grid widths heights contents) down y
        ≡ before ++ (filled (room (gap_of style) widths place.left place.right)
        (slice_get lines (y - (edge_of style + begin_in (row_gaps style grid) heights place.top))) ++ after))
    cell_stands n place lines at stood above begun below ended =
        let cell = drawn_at n place at in
        let lies = placed_at n place at in
        let same = same_Some cell.0 lines (sym cell.2 ∙ stood) in
        let one = has_slots grid (place.left + 1) down.before n place fit.placed fit.apart at (omega arith)
        (omega (arith, lies.0)) above begun in
        let two = has_slots grid (place.left + 1) down.after n place fit.placed fit.apart at (omega arith)
        (omega (arith, lies.0)) below ended in
        let found = stands kind grid.places (gap_of style) (edge_of style)
        widths content piece_at swept n place at (rw (one, two) (through_same n)) in
        let text : content n ≡ filled (room (gap_of style) widths place.left place.right)
        (slice_get lines (y - (edge_of style + begin_in (row_gaps style grid) heights place.top))) =
        ap (λ some. content_at some y) cell.3
        ∙ ap (λ (list : List TextLine). filled (room (gap_of style) widths place.left place.right)
        (slice_get list (y - (edge_of style + begin_in (row_gaps style grid) heights place.top)))) same in
        (found.0, found.1, found.2, found.3 ∙ ap (λ content. found.0 ++ (content ++ found.1)) text)
