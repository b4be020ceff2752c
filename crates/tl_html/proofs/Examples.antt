-- The page of a table with a cell over both columns and two below it, in a layout of 1 and 4 columns; and that of a
-- table with a caption and a header cell with a floor. And when tables are alike, and a layout has columns.
use Rattle.std.proofs.Common.{◌≡◌, ◌∙◌, ℕ, zero, suc, List, [], ◌∷◌, ◌++◌, length, codes, refl, sym, ap, subst, arith, false}
use Rattle.std.proofs.Common.{None}
use Rattle.std.specs.List.{AllZip}
use Rattle.std.proofs.lemmas.Fmt.{decimal_digit}
use Rattle.tl_text.specs.declared.paragraph.Atom.TheVariants.{Word, Glue, Break}
use Rattle.tl_html.specs.declared.filled.Filled.{Filled}
use Rattle.tl_html.specs.Html.{paragraph_html, caption_html, columns_html, rows_html}
use Rattle.tl_html.specs.Alike.{AreAlikeBy, AreAlikeCell, AreAlikeWithin, AreAlike}
use Rattle.tl_html.specs.Readable.{HasColumnsBy, HasColumnsWithin, HasColumns}
use Rattle.tl_table.specs.declared.cell.Kind.TheVariants as kinds
use Rattle.tl_table.specs.declared.cell.Table.{Table, out-Table, roll-Table, out-roll-Table}
use Rattle.tl_table.specs.declared.cell.TableCell.{roll-TableCell, out-roll-TableCell}
use Rattle.tl_table.specs.declared.layout.Layout.{out-Layout, roll-Layout, out-roll-Layout}
use Rattle.tl_table.specs.Layouts.{OpenLayout}
use Rattle.tl_table.specs.Tables.{OpenTable, OpenCell, tables_in}

-- a space between two words, none at a break, and four characters escaped
paragraph : paragraph_html (Word (codes "a<b") ∷ Glue (codes "&") ∷ Word (codes ">") ∷ Break ∷ Word (codes "c") ∷ []) ≡
    codes "<p>a&lt;b&amp; &gt;<br>c</p>"
paragraph = refl

abbrev over_both : Filled
over_both = record {
  kind = kinds.Plain;
  place = record { left = 0; right = 2; top = 0; bottom = 1 };
  least = 0;
  text =
      codes "<p>aaaa bbbb cc</p>";
}

abbrev below : Filled
below = record {
  kind = kinds.Plain;
  place = record { left = 0; right = 1; top = 1; bottom = 2 };
  least = 0;
  text =
      codes "<p>x</p>";
}

abbrev beside : Filled
beside = record {
  kind = kinds.Plain;
  place = record { left = 1; right = 2; top = 1; bottom = 2 };
  least = 0;
  text =
      codes "<p>yy</p>";
}

-- what stands on the table's two lines of rows, where the first cell is over both columns
rows : rows_html 2 (over_both ∷ below ∷ beside ∷ []) ≡
    codes "<tr><td colspan=\"2\"><p>aaaa bbbb cc</p></td></tr>\n<tr><td><p>x</p></td><td><p>yy</p></td></tr>\n"
rows = rw (decimal_digit 2 (omega arith))

-- the line of the columns
columns : columns_html (1 ∷ 4 ∷ []) ≡ codes "<colgroup><col style=\"width:1ch\"><col style=\"width:4ch\"></colgroup>\n"
columns = rw (decimal_digit 1 (omega arith), decimal_digit 4 (omega arith))

abbrev caption : Filled
caption = record {
  kind = kinds.Caption;
  place = record { left = 0; right = 1; top = 0; bottom = 1 };
  least = 0;
  text =
      codes "<p>A</p>";
}

abbrev head : Filled
head = record {
  kind = kinds.Head;
  place = record { left = 0; right = 1; top = 1; bottom = 2 };
  least = 4;
  text =
      codes "<p>b</p>";
}

-- a caption has a line of its own and no row, and a floor is an attribute
caption_line : caption_html (caption ∷ head ∷ []) ≡ codes "<caption><p>A</p></caption>\n"
caption_line = refl

captioned_rows : rows_html 2 (caption ∷ head ∷ []) ≡ codes "<tr><th data-min=\"4\"><p>b</p></th></tr>\n"
captioned_rows = rw (decimal_digit 4 (omega arith))

-- ---- reading back

-- a table of so many columns with one empty cell over them
abbrev empty_cell : ℕ → OpenCell
empty_cell cols = record {
  kind = kinds.Plain;
  in_head = false;
  place = record { left = 0; right = cols; top = 0; bottom = 1 };
  least =
      0;
  align = None;
  blocks = [];
}

abbrev open_table : ℕ → ℕ → OpenTable
open_table number cols = record { number = number; cols = cols; rows = 1; cells = roll-TableCell (empty_cell cols) ∷ [] }

abbrev table_of : ℕ → ℕ → Table
table_of number cols = roll-Table (open_table number cols)

abbrev open_layout : List ℕ → OpenLayout
open_layout widths = record { widths = widths; heights = 0 ∷ []; inner = [] }

-- numbers of tables do not count
numbers_aside : AreAlike (table_of 0 1) (table_of 5 1)
numbers_aside = (
  1,
  subst (λ (t : OpenTable). AreAlikeBy (AreAlikeWithin 0) t (out-Table (table_of 5 1))) (sym (out-roll-Table (open_table 0 1)))
      (subst (λ (t : OpenTable). AreAlikeBy (AreAlikeWithin 0) (open_table 0 1) t) (sym (out-roll-Table (open_table 5 1)))
      (record {
        cols = refl;
        rows = refl;
        cells = (
          subst (λ (c : OpenCell). AreAlikeCell (AreAlikeWithin 0) c c) (sym (out-roll-TableCell (empty_cell 1)))
              (record { kind = refl; place = refl; least = refl; blocks = tt }),
          tt,
        );
      })),
)

-- numbers of columns do
columns_count : (depth : ℕ) → AreAlikeWithin depth (table_of 0 1) (table_of 0 2) → ⊥
columns_count zero alike = alike
columns_count (suc depth) alike =
    let same : 1 ≡ 2 = sym (ap (λ (t : OpenTable). t.cols) (out-roll-Table (open_table 0 1))) ∙ alike.cols
    ∙ ap (λ (t : OpenTable). t.cols) (out-roll-Table (open_table 0 2)) in
    omega (arith, same)

-- a layout has a width for each column, or the page says too little
one_width : HasColumns (table_of 0 1) (roll-Layout (open_layout (3 ∷ [])))
one_width = (
  1,
  subst (λ (t : OpenTable). HasColumnsBy (HasColumnsWithin 0) t (out-Layout (roll-Layout (open_layout (3 ∷ [])))))
      (sym (out-roll-Table (open_table 0 1)))
      (subst (λ (l : OpenLayout). HasColumnsBy (HasColumnsWithin 0) (open_table 0 1) l)
      (sym (out-roll-Layout (open_layout (3 ∷ [])))) (record {
        columns = refl;
        inner = subst (λ (c : OpenCell). AllZip (HasColumnsWithin 0) (tables_in c ++ []) [])
            (sym (out-roll-TableCell (empty_cell 1))) tt;
      })),
)

no_width : (depth : ℕ) → HasColumnsWithin depth (table_of 0 1) (roll-Layout (open_layout [])) → ⊥
no_width zero has = has
no_width (suc depth) has =
    let same : 0 ≡ 1 = sym (ap (λ (l : OpenLayout). length l.widths) (out-roll-Layout (open_layout []))) ∙ has.columns
    ∙ ap (λ (t : OpenTable). t.cols) (out-roll-Table (open_table 0 1)) in
    omega (arith, same)
