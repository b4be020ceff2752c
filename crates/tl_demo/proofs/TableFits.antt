-- The table of a number fits 58 columns, and so the page: six columns of eight and two columns between each two.
use Rattle.std.proofs.Common.{◌≡◌, ◌∙◌, ℕ, zero, suc, ◌≤◌, ◌≢◌, List, [], ◌∷◌, map, length, replicate}
use Rattle.std.proofs.Common.{refl, sym, ap, subst, arith, append-nil}
use Rattle.std.specs.List.{All, AllZip, AllByRecursion, flat_map, onto_first}
use Rattle.std.proofs.lemmas.List.{length-map, length-replicate}
use Rattle.std.proofs.lemmas.List.Elements.{recursion_from_All}
use Rattle.std.proofs.lemmas.List.Sums.{sum_by-cons}
use Rattle.unicode_width.proofs.Computing.{unicode_width}
use Rattle.tl_base.specs.declared.style.Style.TheVariants.{Plain}
use Rattle.tl_grid.specs.declared.shape.Place.{Place}
use Rattle.tl_grid.specs.Dropping.{IsPlaced}
use Rattle.tl_base.specs.Sizes.{total}
use Rattle.tl_text.specs.declared.paragraph.Atom.{Atom}
use Rattle.tl_text.specs.declared.paragraph.Atom.TheVariants.{Word}
use Rattle.tl_text.specs.Cuttings.{joined, line_width, IsCutting, IsPieceCut}
use Rattle.tl_text.specs.Paragraph.{lined_pieces, unit_width}
use Rattle.tl_text.specs.Words.{width_of}
use Rattle.tl_table.specs.declared.cell.Content.{out-roll-Content}
use Rattle.tl_table.specs.declared.cell.Content.TheOpen as open_content
use Rattle.tl_table.specs.declared.cell.Table.{Table, out-Table}
use Rattle.tl_table.specs.declared.cell.TableCell.{TableCell, out-TableCell, out-roll-TableCell}
use Rattle.tl_table.specs.declared.layout.Layout.{Layout, roll-Layout}
use Rattle.tl_table.specs.Tables.{OpenTable, OpenCell, OpenContent}
use Rattle.tl_table.specs.Layouts.{OpenLayout, Share, Fits, FitsCell, FitsParagraph, FitsRoom, FitsShare, total_height, width_for}
use Rattle.tl_table.specs.Layouts.{height_for}
use Rattle.tl_table.specs.Sound.{IsSound, place_of}
use Rattle.tl_table.proofs.LeastWidths.{room-equal}
use Rattle.tl_table.proofs.AnyDepth.{fits-rolled}
use Rattle.tl_table.proofs.Widths.{grid_of}
use Rattle.tl_demo.specs.declared.laws.TheConstants.{DEMO_WIDTH}
use Rattle.tl_demo.specs.Demo.{DemoCell, word_text}
use Rattle.tl_demo.proofs.DrawnRows.{IsWordLength, IsDrawnCell}
use Rattle.tl_demo.proofs.TableTree.{paragraph_in}
use Rattle.tl_demo.proofs.TableFormed.{IsDrawnTableCell, table_cell, open_cell}

-- ---- a paragraph: a line for each word

-- a letter takes one column
word_width : (n : ℕ) → n ≤ 8 → width_of (word_text n) ≤ 8
unfolding unicode_width
word_width zero few = omega arith
word_width (suc zero) few = omega arith
word_width (suc (suc zero)) few = omega arith
word_width (suc (suc (suc zero))) few = omega arith
word_width (suc (suc (suc (suc zero)))) few = omega arith
word_width (suc (suc (suc (suc (suc zero))))) few = omega arith
word_width (suc (suc (suc (suc (suc (suc zero)))))) few = omega arith
word_width (suc (suc (suc (suc (suc (suc (suc zero))))))) few = omega arith
word_width (suc (suc (suc (suc (suc (suc (suc (suc zero)))))))) few = omega arith
word_width (suc (suc (suc (suc (suc (suc (suc (suc (suc n))))))))) few = absurd (omega (arith, few))

-- a paragraph of words of these lengths
abbrev atoms_in : List ℕ → List Atom
atoms_in lengths = map Word (map word_text lengths)

-- each word on a line of its own
abbrev lines_in : List ℕ → List (List Atom)
lines_in lengths = map (λ (unit : Atom). unit ∷ []) (atoms_in lengths)

-- a paragraph of words has no break, so it is one piece
one_piece : (lengths : List ℕ) → 1 ≤ length lengths → lined_pieces (atoms_in lengths) ≡ atoms_in lengths ∷ []
one_piece [] some = absurd (omega (arith, some))
one_piece (n ∷ []) some = refl
one_piece (n ∷ m ∷ lengths) some = ap (onto_first (Word (word_text n))) (one_piece (m ∷ lengths) (omega arith))

-- no line is empty
not_empty : (lengths : List ℕ) → AllByRecursion (λ line. line ≢ []) (lines_in lengths)
not_empty [] = tt
not_empty (n ∷ lengths) = ((λ e. cc), not_empty lengths)

-- joined, the lines are the words
joined_lines : (lengths : List ℕ) → joined (lines_in lengths) ≡ atoms_in lengths
joined_lines [] = refl
joined_lines (n ∷ lengths) = ap (λ (units : List Atom). Word (word_text n) ∷ units) (joined_lines lengths)

-- words on lines of their own are a cutting of the paragraph
is_cutting : (lengths : List ℕ) → 1 ≤ length lengths → IsCutting (atoms_in lengths) (lines_in lengths ∷ [])
is_cutting [] some = absurd (omega (arith, some))
is_cutting (n ∷ lengths) some =
    subst (λ pieces. AllZip IsPieceCut pieces (lines_in (n ∷ lengths) ∷ [])) (sym (one_piece (n ∷ lengths) some))
    ((not_empty (n ∷ lengths), joined_lines (n ∷ lengths)), tt)

-- each line holds where eight letters do
lines_hold : (w : ℕ) (lengths : List ℕ) → 8 ≤ w → AllByRecursion IsWordLength lengths →
    AllByRecursion (λ line. line_width line ≤ w) (lines_in lengths)
lines_hold w [] wide all = tt
lines_hold w (n ∷ lengths) wide all =
    let narrow = word_width n (all.0).1 in
    (omega (arith, wide, narrow, sum_by-cons unit_width (Word (word_text n)) []), lines_hold w lengths wide all.1)

-- there are as many lines as words
lines_count : (lengths : List ℕ) → length (lines_in lengths) ≡ length lengths
lines_count lengths = length-map (atoms_in lengths) (λ (unit : Atom). unit ∷ []) ∙ length-map (map word_text lengths)
    Word ∙ length-map lengths word_text

-- the paragraph of a cell fits wherever eight letters do
paragraph_fits : (w : ℕ) (c : DemoCell) → 8 ≤ w → IsDrawnCell c → FitsParagraph w (paragraph_in c) (length c.words)
paragraph_fits w c wide drawn = (
  lines_in c.words ∷ [],
  is_cutting c.words drawn.some,
  subst (λ lines. AllByRecursion (λ line. line_width line ≤ w) lines) (sym (append-nil (lines_in c.words)))
      (lines_hold w c.words wide drawn.words),
  omega (arith, ap length (append-nil (lines_in c.words)), lines_count c.words),
)

-- ---- a cell

-- the layouts that fit a nested table; no cell has one
abbrev FitsInner : Table → ℕ → ℕ → Layout → Type 0
FitsInner nested w h inner = Fits nested Plain w h inner

-- a line for each word of the cell
abbrev share_of : DemoCell → Share
share_of c = record { height = length c.words; inner = [] }

-- a cell fits in eight columns and six lines
cell_fits : (w h : ℕ) (c : DemoCell) (place : Place) → 8 ≤ w → 6 ≤ h → IsDrawnCell c →
    FitsRoom FitsInner w h (out-TableCell (table_cell c place)) []
cell_fits w h c place wide high drawn =
    subst (λ (o : OpenCell). FitsRoom FitsInner w h o []) (sym (out-roll-TableCell (open_cell c place))) (record {
      floor = omega arith;
      shares = share_of c ∷ [];
      blocks = (
        subst (λ (o : OpenContent). FitsShare FitsInner w o (share_of c))
            (sym (out-roll-Content (open_content.Para (paragraph_in c))))
            (paragraph_fits w c wide drawn, refl),
        tt,
      );
      within = omega (arith, high, drawn.few, sum_by-cons (λ (share : Share). share.height) (share_of c) []);
      given = refl;
    })

-- ---- a layout

-- each column is eight wide, and each row six lines high
abbrev layout_in : OpenTable → OpenLayout
layout_in table = record { widths = replicate table.cols 8; heights = replicate table.rows 6; inner = [] }

-- no cell takes the layout of a nested table
no_layouts : List TableCell → List (List Layout)
no_layouts cells = map (λ cell. []) cells

-- each cell fits in the room that its place has there
cells_fit : (table : OpenTable) (cells : List TableCell) → AllByRecursion IsDrawnTableCell cells →
    AllByRecursion (λ cell. IsPlaced table.cols table.rows (place_of cell)) cells →
    AllZip (λ cell inner. FitsCell FitsInner Plain table (layout_in table) (out-TableCell cell) inner) cells (no_layouts cells)
unfolding no_layouts
cells_fit table [] drawn placed = tt
cells_fit table (cell ∷ cells) drawn placed =
    let is = drawn.0 in
    let at = placed.0 in
    let wide : 8 ≤ width_for Plain (layout_in table) (place_of cell) =
    room-equal 2 table.cols 8 (place_of cell).left (place_of cell).right at.0 at.1 in
    let high : 6 ≤ height_for Plain table (layout_in table) (place_of cell) =
    omega (arith, room-equal 0 table.rows 6 (place_of cell).top (place_of cell).bottom at.2 at.3) in
    let fits = cell_fits (width_for Plain (layout_in table) (place_of cell))
    (height_for Plain table (layout_in table) (place_of cell)) is.0 is.1 wide high is.2 in (
      subst (λ (one : TableCell). FitsRoom FitsInner (width_for Plain (layout_in table) (place_of cell))
          (height_for Plain table (layout_in table) (place_of cell))
          (out-TableCell one) []) (sym is.3) fits,
      cells_fit table cells drawn.1 placed.1,
    )

none_given : (cells : List TableCell) → flat_map (λ (inner : List Layout). inner) (no_layouts cells) ≡ []
unfolding no_layouts
none_given [] = refl
none_given (cell ∷ cells) = none_given cells

-- six such columns and the gaps between them take 58
total_narrow : (cols : ℕ) → cols ≤ 6 → total 2 0 (replicate cols 8) ≤ 58
total_narrow zero few = omega arith
total_narrow (suc zero) few = omega arith
total_narrow (suc (suc zero)) few = omega arith
total_narrow (suc (suc (suc zero))) few = omega arith
total_narrow (suc (suc (suc (suc zero)))) few = omega arith
total_narrow (suc (suc (suc (suc (suc zero))))) few = omega arith
total_narrow (suc (suc (suc (suc (suc (suc zero)))))) few = omega arith
total_narrow (suc (suc (suc (suc (suc (suc (suc cols))))))) few = absurd (omega (arith, few))

-- a table of at most six columns fits the page
pub table_fits : (table : Table) → IsSound table → (out-Table table).cols ≤ 6 → All IsDrawnTableCell (out-Table table).cells →
    (height : ℕ) × (layout : Layout) × Fits table Plain DEMO_WIDTH height layout
table_fits table sound narrow drawn =
    let t = out-Table table in
    let grid = grid_of table sound.depth sound.sound in (
      total_height Plain t (layout_in t),
      roll-Layout (layout_in t),
      fits-rolled Plain table DEMO_WIDTH (total_height Plain t (layout_in t)) (layout_in t) (record {
        columns = length-replicate {A = ℕ} t.cols 8;
        rows = length-replicate {A = ℕ} t.rows 6;
        within = omega (arith, total_narrow t.cols narrow);
        high = refl;
        parts = no_layouts t.cells;
        cells = cells_fit t t.cells (recursion_from_All IsDrawnTableCell t.cells drawn) (each_placed t.cells grid.placed);
        given = none_given t.cells;
      }),
    )
  where
    each_placed : (cells : List TableCell) → All (IsPlaced (out-Table table).cols (out-Table table).rows) (map place_of cells) →
        AllByRecursion (λ cell. IsPlaced (out-Table table).cols (out-Table table).rows (place_of cell)) cells
    each_placed cells all =
        from cells (recursion_from_All (IsPlaced (out-Table table).cols (out-Table table).rows) (map place_of cells) all)
      where
        from : (cs : List TableCell) → AllByRecursion (IsPlaced (out-Table table).cols (out-Table table).rows) (map place_of cs) →
            AllByRecursion (λ cell. IsPlaced (out-Table table).cols (out-Table table).rows (place_of cell)) cs
        from [] each = tt
        from (c ∷ cs) each = (each.0, from cs each.1)
