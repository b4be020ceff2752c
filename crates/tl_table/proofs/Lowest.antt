-- Least heights, worked to the end, in style plain: two columns between two cells, no line between two rows and no edge.
--
--   at 9 columns   |aaaa     |     at 6   |aaaa  |     the same in the one cell of another table,
--                  |bbbb cc  |            |bbbb  |     and a cell with a floor of 4 columns
--                  |x  yy    |            |cc    |
--                                         |x  yy |     |a     b|
use Rattle.std.proofs.Common.{◌≡◌, ◌∙◌, ℕ, zero, suc, ◌+◌, ◌<◌, ◌≤◌, List, [], ◌∷◌, ◌++◌, length, sum_by, codes, refl, sym, ap, false}
use Rattle.std.proofs.Common.{subst, append-nil, arith}
use Rattle.std.proofs.Common.{None}
use Rattle.std.specs.List.{AllZip, AllByRecursion}
use Rattle.std.proofs.lemmas.List.Sums.{sum_by-cons}
use Rattle.unicode_width.proofs.Computing.{unicode_width}
use Rattle.std.specs.declared.alloc.Global.{Global}
use Rattle.std.specs.declared.boxed.Box.{Box}
use Rattle.tl_base.specs.declared.style.Style.TheVariants.{Plain}
use Rattle.tl_grid.specs.declared.shape.Place.{Place}
use Rattle.tl_text.specs.declared.paragraph.Atom.{Atom}
use Rattle.tl_text.specs.declared.paragraph.Atom.TheVariants.{Word}
use Rattle.tl_text.specs.Paragraph.{lined_pieces}
use Rattle.tl_text.specs.Cuttings.{joined, line_width, IsPieceCut}
use Rattle.tl_table.specs.declared.cell.Content.{Content, out-Content, roll-Content, out-roll-Content}
use Rattle.tl_table.specs.declared.cell.Content.TheOpen as open_content
use Rattle.tl_table.specs.declared.cell.Kind.TheVariants as kinds
use Rattle.tl_table.specs.declared.cell.Table.{Table, out-Table, roll-Table, out-roll-Table}
use Rattle.tl_table.specs.declared.cell.TableCell.{out-TableCell, roll-TableCell, out-roll-TableCell}
use Rattle.tl_table.specs.declared.layout.Layout.{Layout, out-Layout, roll-Layout, out-roll-Layout}
use Rattle.tl_table.specs.Tables.{OpenTable, OpenCell}
use Rattle.tl_table.specs.Layouts.{OpenLayout, Share, FitsParagraph, FitsShare, FitsRoom, FitsCell, FitsBy, FitsWithin, Fits}
use Rattle.tl_table.specs.Layouts.{width_for, height_for}
use Rattle.tl_table.specs.Least.{IsLeastHeight}

abbrev aaaa : Atom
aaaa = Word (codes "aaaa")

abbrev bbbb : Atom
bbbb = Word (codes "bbbb")

abbrev end : Atom
end = Word (codes "cc")

abbrev x : Atom
x = Word (codes "x")

abbrev yy : Atom
yy = Word (codes "yy")

abbrev three : List Atom
three = aaaa ∷ bbbb ∷ end ∷ []

-- ---- how many lines a paragraph without breaks needs

-- its lines in `w` columns
record Lines (w h : ℕ) (paragraph : List Atom) : Type 0 where
  lines : List (List Atom)
  some : AllByRecursion (λ line. line ≡ [] → ⊥) lines
  whole : joined lines ≡ paragraph
  narrow : AllByRecursion (λ line. line_width line ≤ w) lines
  few : length lines ≤ h

lines_of : (w h : ℕ) (unit : Atom) (units : List Atom) → lined_pieces (unit ∷ units) ≡ (unit ∷ units) ∷ [] →
    FitsParagraph w (unit ∷ units) h →
    Lines w h (unit ∷ units)
lines_of w h unit units one (cut, is, holds, few) =
    by_cut cut (subst (λ pieces. AllZip IsPieceCut pieces cut) one is) holds few
  where
    by_cut : (cut : List (List (List Atom))) → AllZip IsPieceCut ((unit ∷ units) ∷ []) cut →
        AllByRecursion (λ line. line_width line ≤ w) (joined cut) →
        length (joined cut) ≤ h → Lines w h (unit ∷ units)
    by_cut [] is holds few = absurd is
    by_cut (lines ∷ []) is holds few = record {
      lines = lines;
      some = is.0.0;
      whole = is.0.1;
      narrow = subst (AllByRecursion (λ line. line_width line ≤ w)) (append-nil lines) holds;
      few = subst (λ (all : List (List Atom)). length all ≤ h) (append-nil lines) few;
    }
    by_cut (lines ∷ more ∷ cut) is holds few = absurd is.1

one_line : (w h : ℕ) (word : List ℕ) → FitsParagraph w (Word word ∷ []) h → 1 ≤ h
one_line w h word fits = by_lines found.lines found.whole found.few
  where
    found : Lines w h (Word word ∷ [])
    found = lines_of w h (Word word) [] refl fits

    by_lines : (lines : List (List Atom)) → joined lines ≡ Word word ∷ [] → length lines ≤ h → 1 ≤ h
    by_lines [] whole few = cc
    by_lines (line ∷ lines) whole few = omega arith

whole_width : line_width three ≡ 12
unfolding unicode_width
whole_width = refl

prefix_width : line_width (aaaa ∷ bbbb ∷ []) ≡ 9
unfolding unicode_width
prefix_width = refl

back_width : line_width (bbbb ∷ end ∷ []) ≡ 7
unfolding unicode_width
back_width = refl

-- below 12 columns the three words need two lines
two_lines : (w h : ℕ) → w < 12 → FitsParagraph w three h → 2 ≤ h
two_lines w h less fits = by_lines found.lines found.whole found.narrow found.few
  where
    found : Lines w h three
    found = lines_of w h aaaa (bbbb ∷ end ∷ []) refl fits

    by_lines : (lines : List (List Atom)) → joined lines ≡ three → AllByRecursion (λ line. line_width line ≤ w) lines →
        length lines ≤ h → 2 ≤ h
    by_lines [] whole narrow few = cc
    by_lines (line ∷ []) whole narrow few =
        let same : line ≡ three = sym (append-nil line) ∙ whole in
        absurd (omega (arith, narrow.0, ap line_width same, whole_width))
    by_lines (line ∷ next ∷ lines) whole narrow few = omega arith

-- below 7 columns they need three
three_lines : (w h : ℕ) → w < 7 → FitsParagraph w three h → 3 ≤ h
three_lines w h less fits = by_lines found.lines found.some found.whole found.narrow found.few
  where
    found : Lines w h three
    found = lines_of w h aaaa (bbbb ∷ end ∷ []) refl fits

    by_two : (line next : List Atom) → (line ≡ [] → ⊥) → (next ≡ [] → ⊥) → line ++ next ≡ three → line_width line ≤ w →
        line_width next ≤ w → ⊥
    by_two [] next some other whole first second = some refl
    by_two (u ∷ []) next some other whole first second =
        let same : next ≡ bbbb ∷ end ∷ [] = cc in omega (arith, ap line_width same, back_width)
    by_two (u ∷ v ∷ []) next some other whole first second =
        let one : u ≡ aaaa = cc in
        let two : v ≡ bbbb = cc in
        let same : u ∷ v ∷ [] ≡ aaaa ∷ bbbb ∷ [] = cc in omega (arith, ap line_width same, prefix_width)
    by_two (u ∷ v ∷ t ∷ []) next some other whole first second = let none : next ≡ [] = cc in other none
    by_two (u ∷ v ∷ t ∷ s ∷ line) next some other whole first second = cc

    by_lines : (lines : List (List Atom)) → AllByRecursion (λ line. line ≡ [] → ⊥) lines → joined lines ≡ three →
        AllByRecursion (λ line. line_width line ≤ w) lines → length lines ≤ h → 3 ≤ h
    by_lines [] some whole narrow few = cc
    by_lines (line ∷ []) some whole narrow few =
        let same : line ≡ three = sym (append-nil line) ∙ whole in
        absurd (omega (arith, narrow.0, ap line_width same, whole_width))
    by_lines (line ∷ next ∷ []) some whole narrow few =
        absurd (by_two line next some.0 some.1.0 (ap (λ (rest : List Atom). line ++ rest) (sym (append-nil next)) ∙ whole)
        narrow.0 narrow.1.0)
    by_lines (line ∷ next ∷ last ∷ lines) some whole narrow few = omega arith

-- ---- a cell with one paragraph

abbrev text : List Atom → Content
text paragraph = roll-Content (open_content.Para paragraph)

abbrev cell : Place → ℕ → List Atom → OpenCell
cell place floor paragraph = record { kind = kinds.Plain; in_head = false; place = place; least = floor; align = None; blocks = text paragraph ∷ [] }

-- what fits in a room has its paragraph in it
in_room : (fits : Table → ℕ → ℕ → Layout → Type 0) (w h : ℕ) (place : Place) (floor : ℕ) (paragraph : List Atom)
    (inner : List Layout) →
    FitsRoom fits w h (cell place floor paragraph) inner → FitsParagraph w paragraph h
in_room fits w h place floor paragraph inner room = by_shares room.shares room.blocks room.within
  where
    by_shares : (shares : List Share) → AllZip (λ block share. FitsShare fits w (out-Content block) share) (text paragraph ∷ [])
        shares →
        sum_by (λ share. share.height) shares ≤ h → FitsParagraph w paragraph h
    by_shares [] blocks within = absurd blocks
    by_shares (share ∷ []) blocks within =
        let own = subst (λ block. FitsShare fits w block share) (out-roll-Content (open_content.Para paragraph)) blocks.0 in
        (own.0.0, own.0.1, own.0.2, omega (arith, own.0.3))
    by_shares (share ∷ other ∷ shares) blocks within = absurd blocks.1

-- ---- a cell over two columns above one in each

abbrev over_both : Place
over_both = record { left = 0; right = 2; top = 0; bottom = 1 }

abbrev below_left : Place
below_left = record { left = 0; right = 1; top = 1; bottom = 2 }

abbrev below_right : Place
below_right = record { left = 1; right = 2; top = 1; bottom = 2 }

abbrev spanned : OpenTable
spanned = record {
  number = 0;
  cols = 2;
  rows = 2;
  cells = roll-TableCell (cell over_both 0 three) ∷ roll-TableCell (cell below_left 0 (x ∷ [])) ∷ roll-TableCell
      (cell below_right 0 (yy ∷ [])) ∷ [];
}

-- what any layout that fits gives the cell on top, and the row below it
record Split (w h : ℕ) : Type 0 where
  left : ℕ
  right : ℕ
  above : ℕ
  below : ℕ
  narrow : left + right + 2 ≤ w
  high : h ≡ above + below
  wide_cell : FitsParagraph (left + right + 2) three above
  left_cell : FitsParagraph left (x ∷ []) below

split_of : (fits : Table → ℕ → ℕ → Layout → Type 0) (w h : ℕ) (layout : OpenLayout) → FitsBy fits Plain spanned w h layout →
    Split w h
split_of fits w h layout by = at layout.widths layout.heights layout.inner refl by
  where
    at : (widths heights : List ℕ) (inner : List Layout) → layout ≡ record { widths = widths; heights = heights; inner = inner } →
        FitsBy fits Plain spanned w h (record { widths = widths; heights = heights; inner = inner }) → Split w h
    at [] heights inner is by = absurd (omega (arith, by.columns))
    at (a ∷ []) heights inner is by = absurd (omega (arith, by.columns))
    at (a ∷ b ∷ c ∷ widths) heights inner is by = absurd (omega (arith, by.columns))
    at (a ∷ b ∷ []) [] inner is by = absurd (omega (arith, by.rows))
    at (a ∷ b ∷ []) (c ∷ []) inner is by = absurd (omega (arith, by.rows))
    at (a ∷ b ∷ []) (c ∷ d ∷ e ∷ heights) inner is by = absurd (omega (arith, by.rows))
    at (a ∷ b ∷ []) (c ∷ d ∷ []) inner is by = cells by.parts by.cells
      where
        now : OpenLayout
        now = record { widths = a ∷ b ∷ []; heights = c ∷ d ∷ []; inner = inner }

        cells : (parts : List (List Layout)) → AllZip (λ one part. FitsCell fits Plain spanned now (out-TableCell one) part)
            spanned.cells parts → Split w h
        cells [] all = absurd all
        cells (p ∷ []) all = absurd all.1
        cells (p ∷ q ∷ parts) all =
            let top = subst (λ one. FitsCell fits Plain spanned now one p) (out-roll-TableCell (cell over_both 0 three)) all.0 in
            let low = subst (λ one. FitsCell fits Plain spanned now one q) (out-roll-TableCell (cell below_left 0 (x ∷ []))) all.1.0 in
            let wide : FitsParagraph (a + b + 2) three c = room_as (a + b + 2) c (omega arith) (omega arith)
            (in_room fits _ _ over_both 0 three p top) in
            let lower : FitsParagraph a (x ∷ []) d = row_as a d (omega arith) (omega arith)
            (in_room fits _ _ below_left 0 (x ∷ []) q low) in
            record {
              left = a;
              right = b;
              above = c;
              below = d;
              narrow = omega (arith, by.within);
              high = omega (arith, by.high);
              wide_cell = wide;
              left_cell = lower;
            }
          where
            room_as : {v g : ℕ} (w h : ℕ) → v ≡ w → g ≡ h → FitsParagraph v three g → FitsParagraph w three h
            room_as {v = v} {g = g} w h is are fits = subst (λ n. FitsParagraph n three h) is
                (subst (FitsParagraph v three) are fits)

            row_as : {v g : ℕ} (w h : ℕ) → v ≡ w → g ≡ h → FitsParagraph v (x ∷ []) g → FitsParagraph w (x ∷ []) h
            row_as {v = v} {g = g} w h is are fits = subst (λ n. FitsParagraph n (x ∷ []) h) is
                (subst (FitsParagraph v (x ∷ [])) are fits)

lowest_at_9 : (fits : Table → ℕ → ℕ → Layout → Type 0) (w h : ℕ) (layout : OpenLayout) → w ≤ 9 →
    FitsBy fits Plain spanned w h layout → 3 ≤ h
lowest_at_9 fits w h layout few by =
    let split = split_of fits w h layout by in
    omega (
      arith,
      split.high,
      two_lines (split.left + split.right + 2) split.above (omega (arith, split.narrow)) split.wide_cell,
      one_line split.left split.below (codes "x") split.left_cell,
    )

lowest_at_6 : (fits : Table → ℕ → ℕ → Layout → Type 0) (w h : ℕ) (layout : OpenLayout) → w ≤ 6 →
    FitsBy fits Plain spanned w h layout → 4 ≤ h
lowest_at_6 fits w h layout few by =
    let split = split_of fits w h layout by in
    omega (
      arith,
      split.high,
      three_lines (split.left + split.right + 2) split.above (omega (arith, split.narrow)) split.wide_cell,
      one_line split.left split.below (codes "x") split.left_cell,
    )

-- ---- layouts that are as low

unit_fits : (fits : Table → ℕ → ℕ → Layout → Type 0) (w h floor : ℕ) (place : Place) (paragraph : List Atom) → floor ≤ w →
    FitsParagraph w paragraph h →
    FitsRoom fits w h (cell place floor paragraph) []
unit_fits fits w h floor place paragraph narrow cut = record {
  floor = narrow;
  shares = record { height = h; inner = [] } ∷ [];
  blocks = (
    subst (λ block. FitsShare fits w block (record { height = h; inner = [] }))
        (sym (out-roll-Content (open_content.Para paragraph))) (cut, refl),
    tt,
  );
  within = omega arith;
  given = refl;
}

in_two : FitsParagraph 7 three 2
unfolding unicode_width
in_two = (
  ((aaaa ∷ []) ∷ (bbbb ∷ end ∷ []) ∷ []) ∷ [],
  (((λ none. cc, ((λ none. cc), tt)), refl), tt),
  (omega arith, (omega arith, tt)),
  omega arith,
)

in_three : FitsParagraph 5 three 3
unfolding unicode_width
in_three = (
  ((aaaa ∷ []) ∷ (bbbb ∷ []) ∷ (end ∷ []) ∷ []) ∷ [],
  (((λ none. cc, ((λ none. cc), ((λ none. cc), tt))), refl), tt),
  (omega arith, (omega arith, (omega arith, tt))),
  omega arith,
)

x_fits : FitsParagraph 1 (x ∷ []) 1
unfolding unicode_width
x_fits = (((x ∷ []) ∷ []) ∷ [], (((λ none. cc, tt), refl), tt), (omega arith, tt), omega arith)

yy_fits : (w : ℕ) → 2 ≤ w → FitsParagraph w (yy ∷ []) 1
unfolding unicode_width
yy_fits w wide = (((yy ∷ []) ∷ []) ∷ [], (((λ none. cc, tt), refl), tt), (omega arith, tt), omega arith)

abbrev wide_layout : OpenLayout
wide_layout = record { widths = 1 ∷ 4 ∷ []; heights = 2 ∷ 1 ∷ []; inner = [] }

abbrev narrow_layout : OpenLayout
narrow_layout = record { widths = 1 ∷ 2 ∷ []; heights = 3 ∷ 1 ∷ []; inner = [] }

rolled : (fits : Table → ℕ → ℕ → Layout → Type 0) (layout : OpenLayout) (one : OpenCell) → FitsCell fits Plain spanned layout one [] →
    FitsCell fits Plain spanned layout (out-TableCell (roll-TableCell one)) []
rolled fits layout one fit = subst (λ open_cell. FitsCell fits Plain spanned layout open_cell []) (sym (out-roll-TableCell one)) fit

wide_fits : (fits : Table → ℕ → ℕ → Layout → Type 0) → FitsBy fits Plain spanned 9 3 wide_layout
wide_fits fits = record {
  columns = refl;
  rows = refl;
  within = omega arith;
  high = refl;
  parts = [] ∷ [] ∷ [] ∷ [];
  cells = (
    rolled fits wide_layout (cell over_both 0 three) (unit_fits fits 7 2 0 over_both three (omega arith) in_two),
    (
      rolled fits wide_layout (cell below_left 0 (x ∷ [])) (unit_fits fits 1 1 0 below_left (x ∷ []) (omega arith) x_fits),
      (
        rolled fits wide_layout (cell below_right 0 (yy ∷ []))
            (unit_fits fits 4 1 0 below_right (yy ∷ []) (omega arith) (yy_fits 4 (omega arith))),
        tt,
      ),
    ),
  );
  given = refl;
}

narrow_fits : (fits : Table → ℕ → ℕ → Layout → Type 0) → FitsBy fits Plain spanned 6 4 narrow_layout
narrow_fits fits = record {
  columns = refl;
  rows = refl;
  within = omega arith;
  high = refl;
  parts = [] ∷ [] ∷ [] ∷ [];
  cells = (
    rolled fits narrow_layout (cell over_both 0 three) (unit_fits fits 5 3 0 over_both three (omega arith) in_three),
    (
      rolled fits narrow_layout (cell below_left 0 (x ∷ [])) (unit_fits fits 1 1 0 below_left (x ∷ []) (omega arith) x_fits),
      (
        rolled fits narrow_layout (cell below_right 0 (yy ∷ []))
            (unit_fits fits 2 1 0 below_right (yy ∷ []) (omega arith) (yy_fits 2 (omega arith))),
        tt,
      ),
    ),
  );
  given = refl;
}

-- ---- the least heights

-- a layout of one level is one of the whole
within_one : (table : OpenTable) (w h : ℕ) (layout : OpenLayout) →
    ((fits : Table → ℕ → ℕ → Layout → Type 0) → FitsBy fits Plain table w h layout) →
    FitsWithin 1 Plain (roll-Table table) w h (roll-Layout layout)
within_one table w h layout fit =
    subst (λ seen. FitsBy (FitsWithin 0 Plain) Plain seen w h (out-Layout (roll-Layout layout))) (sym (out-roll-Table table))
    (subst (FitsBy (FitsWithin 0 Plain) Plain table w h) (sym (out-roll-Layout layout)) (fit (FitsWithin 0 Plain)))

whole : (table : OpenTable) (w h : ℕ) (layout : OpenLayout) →
    ((fits : Table → ℕ → ℕ → Layout → Type 0) → FitsBy fits Plain table w h layout) →
    Fits (roll-Table table) Plain w h (roll-Layout layout)
whole table w h layout fit = (1, within_one table w h layout fit)

-- what holds of every layout of one level holds of every layout
opened : (table : OpenTable) (w h least : ℕ) (layout : Layout) →
    ((fits : Table → ℕ → ℕ → Layout → Type 0) (layout : OpenLayout) → FitsBy fits Plain table w h layout → least ≤ h) →
    Fits (roll-Table table) Plain w h layout → least ≤ h
opened table w h least layout each (zero, fits) = absurd fits
opened table w h least layout each (suc depth, fits) =
    each (FitsWithin depth Plain) (out-Layout layout)
    (subst (λ seen. FitsBy (FitsWithin depth Plain) Plain seen w h (out-Layout layout)) (out-roll-Table table) fits)

least_at_9 : IsLeastHeight (roll-Table spanned) Plain 9 3
least_at_9 = record {
  attained = (roll-Layout wide_layout, whole spanned 9 3 wide_layout wide_fits);
  least = λ other layout fits. opened spanned 9 other 3 layout
      (λ inner seen by. lowest_at_9 inner 9 other seen (omega arith) by) fits;
}

least_at_6 : IsLeastHeight (roll-Table spanned) Plain 6 4
least_at_6 = record {
  attained = (roll-Layout narrow_layout, whole spanned 6 4 narrow_layout narrow_fits);
  least = λ other layout fits. opened spanned 6 other 4 layout
      (λ inner seen by. lowest_at_6 inner 6 other seen (omega arith) by) fits;
}

-- ---- a floor: no page of 6 columns, and one line on a page of 7

abbrev left : Place
left = record { left = 0; right = 1; top = 0; bottom = 1 }

abbrev right : Place
right = record { left = 1; right = 2; top = 0; bottom = 1 }

abbrev floored : OpenTable
floored = record {
  number = 0;
  cols = 2;
  rows = 1;
  cells = roll-TableCell (cell left 4 (x ∷ [])) ∷ roll-TableCell (cell right 0 (x ∷ [])) ∷ [];
}

-- a word needs its width
one_width : (w h : ℕ) → FitsParagraph w (x ∷ []) h → 1 ≤ w
unfolding unicode_width
one_width w h fits = by_lines found.lines found.some found.whole found.narrow
  where
    found : Lines w h (x ∷ [])
    found = lines_of w h x [] refl fits

    by_lines : (lines : List (List Atom)) → AllByRecursion (λ line. line ≡ [] → ⊥) lines → joined lines ≡ x ∷ [] →
        AllByRecursion (λ line. line_width line ≤ w) lines → 1 ≤ w
    by_lines [] some whole narrow = cc
    by_lines ([] ∷ lines) some whole narrow = absurd (some.0 refl)
    by_lines ((u ∷ []) ∷ lines) some whole narrow = let same : u ∷ [] ≡ x ∷ [] = cc in omega (arith, narrow.0, ap line_width same)
    by_lines ((u ∷ v ∷ line) ∷ lines) some whole narrow = cc

none_at_6 : (fits : Table → ℕ → ℕ → Layout → Type 0) (h : ℕ) (layout : OpenLayout) → FitsBy fits Plain floored 6 h layout → ⊥
none_at_6 fits h layout by = at layout.widths layout.heights layout.inner by
  where
    at : (widths heights : List ℕ) (inner : List Layout) →
        FitsBy fits Plain floored 6 h (record { widths = widths; heights = heights; inner = inner }) → ⊥
    at [] heights inner by = omega (arith, by.columns)
    at (a ∷ []) heights inner by = omega (arith, by.columns)
    at (a ∷ b ∷ c ∷ widths) heights inner by = omega (arith, by.columns)
    at (a ∷ b ∷ []) heights inner by = cells by.parts by.cells
      where
        now : OpenLayout
        now = record { widths = a ∷ b ∷ []; heights = heights; inner = inner }

        cells : (parts : List (List Layout)) → AllZip (λ one part. FitsCell fits Plain floored now (out-TableCell one) part)
            floored.cells parts → ⊥
        cells [] all = all
        cells (p ∷ []) all = all.1
        cells (p ∷ q ∷ parts) all =
            let first = subst (λ one. FitsCell fits Plain floored now one p) (out-roll-TableCell (cell left 4 (x ∷ []))) all.0 in
            let second = subst (λ one. FitsCell fits Plain floored now one q) (out-roll-TableCell (cell right 0 (x ∷ []))) all.1.0 in
            omega (arith, by.within, first.floor, one_width _ _ (in_room fits _ _ right 0 (x ∷ []) q second))

-- ---- the first table in the one cell of another

abbrev around : Box Table Global → OpenCell
around box = record { kind = kinds.Plain; in_head = false; place = left; least = 0; align = None; blocks = roll-Content (open_content.Table box) ∷ [] }

abbrev outer : Box Table Global → OpenTable
outer box = record { number = 0; cols = 1; rows = 1; cells = roll-TableCell (around box) ∷ [] }

module _ (box : Box Table Global) (is : box.value ≡ roll-Table spanned) where
  -- what the nested table needs, the outer one needs
  inside_needs : (most least : ℕ) → ((fits : Table → ℕ → ℕ → Layout → Type 0) (w h : ℕ) (layout : OpenLayout) → w ≤ most →
      FitsBy fits Plain spanned w h layout → least ≤ h) → (depth h : ℕ) (layout : OpenLayout) →
      FitsBy (FitsWithin depth Plain) Plain (outer box) most h layout → least ≤ h
  inside_needs most least each depth h layout by = at layout.widths layout.heights layout.inner by
    where
      at : (widths heights : List ℕ) (inner : List Layout) →
          FitsBy (FitsWithin depth Plain) Plain (outer box) most h
          (record { widths = widths; heights = heights; inner = inner }) → least ≤ h
      at [] heights inner by = absurd (omega (arith, by.columns))
      at (a ∷ b ∷ widths) heights inner by = absurd (omega (arith, by.columns))
      at (a ∷ []) [] inner by = absurd (omega (arith, by.rows))
      at (a ∷ []) (c ∷ d ∷ heights) inner by = absurd (omega (arith, by.rows))
      at (a ∷ []) (c ∷ []) inner by = cells by.parts by.cells
        where
          now : OpenLayout
          now = record { widths = a ∷ []; heights = c ∷ []; inner = inner }

          nested : (depth w h : ℕ) (layout : Layout) → w ≤ most → FitsWithin depth Plain box.value w h layout → least ≤ h
          nested zero w h layout few fits = absurd fits
          nested (suc depth) w h layout few fits =
              each (FitsWithin depth Plain) w h (out-Layout layout) few
              (subst (λ seen. FitsBy (FitsWithin depth Plain) Plain seen w h (out-Layout layout))
              (ap out-Table is ∙ out-roll-Table spanned) fits)

          cells : (parts : List (List Layout)) →
              AllZip (λ one part. FitsCell (FitsWithin depth Plain) Plain (outer box) now (out-TableCell one) part)
              (outer box).cells parts → least ≤ h
          cells [] all = absurd all
          cells (p ∷ parts) all = shares room.shares room.blocks room.within
            where
              room : FitsCell (FitsWithin depth Plain) Plain (outer box) now (around box) p
              room = subst (λ one. FitsCell (FitsWithin depth Plain) Plain (outer box) now one p) (out-roll-TableCell (around box)) all.0

              shares : (given : List Share) →
                  AllZip (λ block share. FitsShare (FitsWithin depth Plain) (width_for Plain now left) (out-Content block)
                  share) (around box).blocks given →
                  sum_by (λ share. share.height) given ≤ height_for Plain (outer box) now left → least ≤ h
              shares [] blocks within = absurd blocks
              shares (share ∷ given) blocks within =
                  let own = subst (λ block. FitsShare (FitsWithin depth Plain) (width_for Plain now left) block share)
                  (out-roll-Content (open_content.Table box))
                  blocks.0 in
                  omega (
                    arith,
                    by.high,
                    within,
                    sum_by-cons (λ (each : Share). each.height) share given,
                    own.within,
                    nested depth (width_for Plain now left) own.height own.layout (omega (arith, by.within)) own.laid,
                  )

  -- and as high it can be
  outer_fits : (w h : ℕ) (layout : OpenLayout) → ((fits : Table → ℕ → ℕ → Layout → Type 0) →
      FitsBy fits Plain spanned w h layout) →
      Fits (roll-Table (outer box)) Plain w h (roll-Layout (record {
        widths = w ∷ [];
        heights = h ∷ [];
        inner =
            roll-Layout layout ∷ [];
      }))
  outer_fits w h layout fit = (
    2,
    subst (λ seen. FitsBy (FitsWithin 1 Plain) Plain seen w h (out-Layout (roll-Layout made))) (sym (out-roll-Table (outer box)))
        (subst (FitsBy (FitsWithin 1 Plain) Plain (outer box) w h) (sym (out-roll-Layout made)) (record {
          columns = refl;
          rows = refl;
          within = omega arith;
          high = omega arith;
          parts = (roll-Layout layout ∷ []) ∷ [];
          cells = (
            subst (λ one. FitsCell (FitsWithin 1 Plain) Plain (outer box) made one (roll-Layout layout ∷ []))
                (sym (out-roll-TableCell (around box))) (record {
                  floor = omega arith;
                  shares = record { height = h; inner = roll-Layout layout ∷ [] } ∷ [];
                  blocks = (
                    subst (λ block. FitsShare (FitsWithin 1 Plain) (width_for Plain made left) block
                        (record { height = h; inner = roll-Layout layout ∷ [] }))
                        (sym (out-roll-Content (open_content.Table box))) (record {
                          layout = roll-Layout layout;
                          height = h;
                          laid = subst (λ n. FitsWithin 1 Plain box.value n h (roll-Layout layout)) (omega arith)
                              (subst (λ table. FitsWithin 1 Plain table w h (roll-Layout layout)) (sym is)
                              (within_one spanned w h layout fit));
                          within = omega arith;
                          given = refl;
                        }),
                    tt,
                  );
                  within = omega arith;
                  given = refl;
                }),
            tt,
          );
          given = refl;
        })),
  ) where
    made : OpenLayout
    made = record { widths = w ∷ []; heights = h ∷ []; inner = roll-Layout layout ∷ [] }

  nested_least_at_9 : IsLeastHeight (roll-Table (outer box)) Plain 9 3
  nested_least_at_9 = record {
    attained = (_, outer_fits 9 3 wide_layout wide_fits);
    least = λ other layout fits. by_depth other layout fits;
  } where
    by_depth : (other : ℕ) (layout : Layout) → Fits (roll-Table (outer box)) Plain 9 other layout → 3 ≤ other
    by_depth other layout (zero, fits) = absurd fits
    by_depth other layout (suc depth, fits) =
        inside_needs 9 3 (λ f w h seen few by. lowest_at_9 f w h seen few by) depth other (out-Layout layout)
        (subst (λ seen. FitsBy (FitsWithin depth Plain) Plain seen 9 other (out-Layout layout)) (out-roll-Table (outer box)) fits)

  nested_least_at_6 : IsLeastHeight (roll-Table (outer box)) Plain 6 4
  nested_least_at_6 = record {
    attained = (_, outer_fits 6 4 narrow_layout narrow_fits);
    least = λ other layout fits. by_depth other layout fits;
  } where
    by_depth : (other : ℕ) (layout : Layout) → Fits (roll-Table (outer box)) Plain 6 other layout → 4 ≤ other
    by_depth other layout (zero, fits) = absurd fits
    by_depth other layout (suc depth, fits) =
        inside_needs 6 4 (λ f w h seen few by. lowest_at_6 f w h seen few by) depth other (out-Layout layout)
        (subst (λ seen. FitsBy (FitsWithin depth Plain) Plain seen 6 other (out-Layout layout)) (out-roll-Table (outer box)) fits)
