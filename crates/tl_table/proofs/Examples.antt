-- The definitions, run on tables that are drawn and counted by hand, in style plain: two columns between two cells, no
-- line between two rows and no edge. A letter takes one column.
--
--   spanned        nested          floored
--   |aaaa  |       ||a| b|         |a     b|
--   |bb  c |       (a table in the left cell)     (the left cell has a floor of 4)
use Rattle.std.proofs.Common.{◌≡◌, ℕ, ◌≤◌, List, [], ◌∷◌, codes, refl, sym, ap, subst, append-nil, arith, false}
use Rattle.std.proofs.Common.{None}
use Rattle.std.specs.List.{AllZip}
use Rattle.std.specs.declared.alloc.Global.{Global}
use Rattle.std.specs.declared.boxed.Box.{Box}
use Rattle.unicode_width.proofs.Computing.{unicode_width}
use Rattle.tl_base.specs.declared.style.Style.TheVariants.{Plain, Compact, Frame}
use Rattle.tl_grid.specs.declared.shape.Place.{Place}
use Rattle.tl_text.specs.declared.paragraph.Atom.{Atom}
use Rattle.tl_text.specs.declared.paragraph.Atom.TheVariants.{Word}
use Rattle.tl_text.specs.Paragraph.{lined_pieces}
use Rattle.tl_text.specs.Cuttings.{line_width, IsPieceCut}
use Rattle.tl_table.specs.declared.cell.Content.{Content, roll-Content, out-roll-Content}
use Rattle.tl_table.specs.declared.cell.Content.TheOpen as open_content
use Rattle.tl_table.specs.declared.cell.Kind.TheVariants as kinds
use Rattle.tl_table.specs.declared.cell.Table.{Table}
use Rattle.tl_table.specs.declared.cell.TableCell.{roll-TableCell, out-roll-TableCell}
use Rattle.tl_table.specs.declared.layout.Layout.{Layout}
use Rattle.tl_table.specs.Tables.{OpenTable, OpenCell, tables_of}
use Rattle.tl_table.specs.Layouts.{OpenLayout, FitsParagraph, FitsShare, FitsRoom, FitsCell, FitsBy, width_for, total_width}
use Rattle.tl_table.specs.Layouts.{total_height}
use Rattle.tl_table.specs.Chains.{Link, links_weight, own_width, widest_in, AreSideBySide}

-- ---- words

abbrev a : Atom
a = Word (codes "a")

abbrev bb : Atom
bb = Word (codes "bb")

abbrev c : Atom
c = Word (codes "c")

abbrev aaaa : Atom
aaaa = Word (codes "aaaa")

abbrev text : List Atom → Content
text paragraph = roll-Content (open_content.Para paragraph)

-- ---- a table with a span: one cell over two columns, and one below in each

abbrev spanned_layout : OpenLayout
spanned_layout = record { widths = 2 ∷ 2 ∷ []; heights = 1 ∷ 1 ∷ []; inner = [] }

abbrev over_both : Place
over_both = record { left = 0; right = 2; top = 0; bottom = 1 }

abbrev below_left : Place
below_left = record { left = 0; right = 1; top = 1; bottom = 2 }

abbrev below_right : Place
below_right = record { left = 1; right = 2; top = 1; bottom = 2 }

-- the room of the span has the gap between its columns
spanned_room : width_for Plain spanned_layout over_both ≡ 6
spanned_room = refl

spanned_width : total_width Plain spanned_layout ≡ 6
spanned_width = refl

-- in a compact table there is one column between two, and no edge
compact_width : total_width Compact spanned_layout ≡ 5
compact_width = refl

-- in a frame there is one column between two, and an edge at each side
framed_width : total_width Frame spanned_layout ≡ 7
framed_width = refl

-- ---- chains of it: the span alone, and the two cells below it

abbrev link : Place → ℕ → Link
link place width = record { place = place; width = width; inner = [] }

span_alone : links_weight Plain 2 (link over_both 4 ∷ []) ≡ 4
span_alone = refl

two_below : links_weight Plain 2 (link below_left 2 ∷ link below_right 1 ∷ []) ≡ 5
two_below = refl

two_below_in_a_frame : links_weight Frame 2 (link below_left 2 ∷ link below_right 1 ∷ []) ≡ 6
two_below_in_a_frame = refl

-- they stand side by side; the span and the right cell do not
side_by_side : AreSideBySide 0 (link below_left 2 ∷ link below_right 1 ∷ [])
side_by_side = (omega arith, (omega arith, tt))

not_side_by_side : AreSideBySide 0 (link over_both 4 ∷ link below_right 1 ∷ []) → ⊥
not_side_by_side row = omega (arith, row.1.0)

-- a column that no entry covers stands between two gaps
uncovered : links_weight Plain 3 (link below_left 2 ∷ link (record { left = 2; right = 3; top = 0; bottom = 1 }) 1 ∷ []) ≡ 7
uncovered = refl

-- ---- a floor counts where the cell has fewer columns of text, and where it has none

abbrev floored : OpenCell
floored = record { kind = kinds.Plain; in_head = false; place = below_left; least = 4; align = None; blocks = [] }

floor_without_words : own_width floored ≡ 4
floor_without_words = refl

floor_and_chain : links_weight Plain 2 (link below_left 4 ∷ link below_right 1 ∷ []) ≡ 7
floor_and_chain = refl

-- ---- the widest unit of a paragraph counts; a nested table has none of its own

widest_word : widest_in (open_content.Para (a ∷ bb ∷ c ∷ [])) ≡ 2
unfolding unicode_width
widest_word = refl

widest_of_table : (box : Box Table Global) → widest_in (open_content.Table box) ≡ 0
widest_of_table box = refl

tables_of_table : (box : Box Table Global) → tables_of (open_content.Table box) ≡ box.value ∷ []
tables_of_table box = refl

-- a nested table that weighs 5 in a table of one column: its edges come on top in a frame
nested_weight : links_weight Frame 1 (record {
  place = record { left = 0; right = 1; top = 0; bottom = 1 };
  width = 5;
  inner =
      [];
} ∷ []) ≡ 7
nested_weight = refl

-- ---- a layout that fits: the spanned table on a page of 6 columns, in 2 lines

-- a paragraph on one line fits where the line does
one_line_fits : (w h : ℕ) (unit : Atom) (units : List Atom) → lined_pieces (unit ∷ units) ≡ (unit ∷ units) ∷ [] →
    line_width (unit ∷ units) ≤ w →
    1 ≤ h → FitsParagraph w (unit ∷ units) h
one_line_fits w h unit units one wide high = (
  cut,
  subst (λ pieces. AllZip IsPieceCut pieces cut) (sym one) (((λ none. cc, tt), ap (λ more. unit ∷ more) (append-nil units)), tt),
  (wide, tt),
  omega arith,
) where
  cut : List (List (List Atom))
  cut = ((unit ∷ units) ∷ []) ∷ []

-- a cell with one paragraph on one line fits in a room of one line
cell_fits : (fits : Table → ℕ → ℕ → Layout → Type 0) (w floor : ℕ) (place : Place) (unit : Atom) (units : List Atom) → floor ≤ w →
    lined_pieces (unit ∷ units) ≡ (unit ∷ units) ∷ [] → line_width (unit ∷ units) ≤ w →
    FitsRoom fits w 1 (record { kind = kinds.Plain; in_head = false; place = place; least = floor; align = None; blocks = text (unit ∷ units) ∷ [] }) []
cell_fits fits w floor place unit units narrow one wide = record {
  floor = narrow;
  shares = record { height = 1; inner = [] } ∷ [];
  blocks = (
    subst (λ block. FitsShare fits w block (record { height = 1; inner = [] }))
        (sym (out-roll-Content (open_content.Para (unit ∷ units))))
        (one_line_fits w 1 unit units one wide (omega arith), refl),
    tt,
  );
  within = omega arith;
  given = refl;
}

abbrev cell : Place → ℕ → List Atom → OpenCell
cell place floor paragraph = record { kind = kinds.Plain; in_head = false; place = place; least = floor; align = None; blocks = text paragraph ∷ [] }

abbrev spanned : OpenTable
spanned = record {
  number = 0;
  cols = 2;
  rows = 2;
  cells = roll-TableCell (cell over_both 0 (aaaa ∷ [])) ∷ roll-TableCell
      (cell below_left 0 (bb ∷ [])) ∷ roll-TableCell (cell below_right 0 (c ∷ [])) ∷ [];
}

spanned_height : total_height Plain spanned spanned_layout ≡ 2
spanned_height = refl

spanned_fits : (fits : Table → ℕ → ℕ → Layout → Type 0) → FitsBy fits Plain spanned 6 2 spanned_layout
unfolding unicode_width
spanned_fits fits = record {
  columns = refl;
  rows = refl;
  within = omega arith;
  high = refl;
  parts = [] ∷ [] ∷ [] ∷ [];
  cells = (
    subst (λ open_cell. FitsCell fits Plain spanned spanned_layout open_cell []) (sym (out-roll-TableCell (cell over_both 0 (aaaa ∷ []))))
        (cell_fits fits 6 0 over_both aaaa [] (omega arith) refl (omega arith)),
    (
      subst (λ open_cell. FitsCell fits Plain spanned spanned_layout open_cell [])
          (sym (out-roll-TableCell (cell below_left 0 (bb ∷ []))))
          (cell_fits fits 2 0 below_left bb [] (omega arith) refl (omega arith)),
      (
        subst (λ open_cell. FitsCell fits Plain spanned spanned_layout open_cell [])
            (sym (out-roll-TableCell (cell below_right 0 (c ∷ []))))
            (cell_fits fits 2 0 below_right c [] (omega arith) refl (omega arith)),
        tt,
      ),
    ),
  );
  given = refl;
}
