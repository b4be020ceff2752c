-- The caption, the columns and the rows of a table on a page, and the same read back.
use Rattle.std.proofs.Common.{◌≡◌, ◌∙◌, ℕ, ◌+◌, ◌<◌, true, false, ◌||◌, cond, eqb, Option, Some, None, List, [], ◌∷◌, ◌++◌, map}
use Rattle.std.proofs.Common.{length, sum, refl}
use Rattle.std.proofs.Common.{sym, ap, subst, arith, append_assoc, append-nil, codes, decimal}
use Rattle.std.specs.List.{AllByRecursion, AllZip, flat_map, range_with_len, list_any}
use Rattle.std.proofs.lemmas.Bool.{eq-eqb, ne_eqb, cond-true, cond-false}
use Rattle.std.proofs.lemmas.List.Concat.{flat_map-append}
use Rattle.std.proofs.lemmas.List.Sums.{sum_by-cons}
use Rattle.tl_base.specs.declared.breaking.Breaking.{Breaking}
use Rattle.tl_base.proofs.Members.{AllByRecursion-append}
use Rattle.tl_tree.specs.Outline.{blocks_outline, Entries, caption, group, group_outline, caption_outline}
use Rattle.tl_grid.specs.declared.shape.Place.{Place}
use Rattle.tl_token.specs.Elements.{no_spans}
use Rattle.tl_token.specs.declared.token.Element.TheVariants as elements
use Rattle.tl_tree.specs.Grammar.{Marks, Caption, Cols, Columns, Parts, no_flow, no_caption, no_space, space, by_tag, no_col}
use Rattle.tl_tree.specs.Grammar.{next_col}
use Rattle.tl_tree.specs.Grammar.{colgroup_columns, no_columns, colgroup, no_part, no_row, loose_rows}
use Rattle.tl_tree.specs.Grammar as grammar
use Rattle.tl_tree.specs.Paragraphs.{leading, atoms_of, paragraph_of, entries_after}
use Rattle.tl_tree.specs.Tags.{Kinds, table_end, caption_start, caption_end, colgroup_start, colgroup_end, row_start, text}
use Rattle.tl_tree.specs.Tags.{begins_with, is_col}
use Rattle.tl_tree.specs.declared.node.Block.{Block}
use Rattle.tl_tree.specs.declared.node.CellNode.{CellNode}
use Rattle.tl_tree.specs.declared.node.GroupNode.{GroupNode, roll-GroupNode}
use Rattle.tl_tree.specs.declared.node.Part.TheVariants as parts
use Rattle.tl_tree.specs.declared.node.TableNode.{TableNode}
use Rattle.tl_tree.proofs.Outlines.{group_made}
use Rattle.tl_table.specs.declared.cell.Table.{Table}
use Rattle.tl_table.specs.declared.cell.TableCell.{TableCell, out-TableCell, roll-TableCell, out-roll-TableCell}
use Rattle.tl_table.specs.declared.layout.Layout.{Layout}
use Rattle.tl_table.specs.Tables.{OpenCell, tables_in}
use Rattle.tl_table.specs.Formed.{BecomeCaption, BecomesCaption, OpenGroup, caption_rows}
use Rattle.tl_table.specs.Sound.{place_of}
use Rattle.tl_table.proofs.SoundNodes.{rows_outline, groups_outline}
use Rattle.tl_html.specs.Alike.{AreAlikeCell}
use Rattle.tl_html.specs.declared.filled.Filled.{Filled}
use Rattle.tl_html.specs.Html.{HtmlCell, fill, blocks_html, flow_of, cell_of, cell_html, cell_in_row, is_caption, caption_line}
use Rattle.tl_html.specs.Html.{column_html}
use Rattle.tl_html.specs.Html.{columns_html, row_html, line}
use Rattle.tl_html.specs.Html as html
use Rattle.tl_table.specs.Spellable.{AreCaption, AreSpellableBlocks, IsCaption}
use Rattle.tl_html.proofs.Items.{Item, item_text, items_text, IsItem}
use Rattle.tl_html.proofs.PageTags.{column_tag}
use Rattle.tl_html.proofs.PageTags as page_tags
use Rattle.tl_html.proofs.PageWords.{grammar_kinds, kinds_append, StandFor, ends_sharp}
use Rattle.tl_html.proofs.Blocks.{TableBack, flow_back}
use Rattle.tl_html.proofs.Cells.{cell_of-out, row_line, joined, HasRows, RowsGo}

-- ---- rows on a page

-- the cells of each row begin in it
abbrev pub BeginInRows : ℕ → List (List Filled) → Type 0
BeginInRows r [] = Unit {0}
BeginInRows r (fs ∷ rows) = AllByRecursion (λ (f : Filled). f.place.top ≡ r) fs × BeginInRows (r + 1) rows

here : (r : ℕ) (fs : List Filled) → AllByRecursion (λ (f : Filled). f.place.top ≡ r) fs →
    flat_map (cell_in_row r) fs ≡ flat_map cell_html fs
here r [] all = refl
here r (f ∷ fs) all =
    ap (λ (cs : List ℕ). cs ++ flat_map (cell_in_row r) fs) (cond-true (eqb f.place.top r) (cell_html f) []
    (eq-eqb f.place.top r all.0))
    ∙ ap (λ (cs : List ℕ). cell_html f ++ cs) (here r fs all.1)

before : (r : ℕ) (fs : List Filled) → AllByRecursion (λ (f : Filled). f.place.top < r) fs → flat_map (cell_in_row r) fs ≡ []
before r [] all = refl
before r (f ∷ fs) all =
    ap (λ (cs : List ℕ). cs ++ flat_map (cell_in_row r) fs) (cond-false (eqb f.place.top r) (cell_html f) []
    (ne_eqb f.place.top r (λ e. omega (arith, all.0))))
    ∙ before r fs all.1

after : (r s : ℕ) (rows : List (List Filled)) → r < s → BeginInRows s rows → flat_map (cell_in_row r) (joined rows) ≡ []
after r s [] lt all = refl
after r s (fs ∷ rows) lt all =
    flat_map-append (cell_in_row r) fs (joined rows)
    ∙ ap (λ (cs : List ℕ). cs ++ flat_map (cell_in_row r) (joined rows)) (past fs all.0)
    ∙ after r (s + 1) rows (omega arith) all.1
  where
    past : (gs : List Filled) → AllByRecursion (λ (f : Filled). f.place.top ≡ s) gs → flat_map (cell_in_row r) gs ≡ []
    past [] each = refl
    past (g ∷ gs) each =
        ap (λ (cs : List ℕ). cs ++ flat_map (cell_in_row r) gs)
        (cond-false (eqb g.place.top r) (cell_html g) [] (ne_eqb g.place.top r (λ e. omega (arith, each.0))))
        ∙ past gs each.1

-- each row's line has its own cells
pub rows_written : (above : List Filled) (rows : List (List Filled)) (r : ℕ) →
    AllByRecursion (λ (f : Filled). f.place.top < r) above → BeginInRows r rows →
    flat_map (row_html (above ++ joined rows)) (range_with_len r (length rows)) ≡ flat_map row_line rows
rows_written above [] r low all = refl
rows_written above (fs ∷ rows) r low all =
    let own : flat_map (cell_in_row r) (above ++ (fs ++ joined rows)) ≡ flat_map cell_html fs =
    flat_map-append (cell_in_row r) above (fs ++ joined rows)
    ∙ ap (λ (cs : List ℕ). cs ++ flat_map (cell_in_row r) (fs ++ joined rows)) (before r above low)
    ∙ flat_map-append (cell_in_row r) fs (joined rows)
    ∙ ap (λ (cs : List ℕ). flat_map (cell_in_row r) fs ++ cs) (after r (r + 1) rows (omega arith) all.1)
    ∙ append-nil (flat_map (cell_in_row r) fs) ∙ here r fs all.0 in
    let low' : AllByRecursion (λ (f : Filled). f.place.top < r + 1) (above ++ fs) =
    AllByRecursion-append (λ (f : Filled). f.place.top < r + 1) above fs
    (more above low) (level fs all.0) in
    ap (λ (cs : List ℕ). line (codes "<tr>" ++ cs ++ codes "</tr>") ++ flat_map (row_html (above ++ (fs ++ joined rows)))
    (range_with_len (r + 1) (length rows))) own
    ∙ ap (λ (cs : List ℕ). row_line fs ++ cs) (ap (λ (all : List Filled). flat_map (row_html all)
    (range_with_len (r + 1) (length rows)))
    (sym (append_assoc above fs (joined rows)))
    ∙ rows_written (above ++ fs) rows (r + 1) low' all.1)
  where
    more : (gs : List Filled) → AllByRecursion (λ (f : Filled). f.place.top < r) gs →
        AllByRecursion (λ (f : Filled). f.place.top < r + 1) gs
    more [] each = tt
    more (g ∷ gs) each = (omega (arith, each.0), more gs each.1)

    level : (gs : List Filled) → AllByRecursion (λ (f : Filled). f.place.top ≡ r) gs →
        AllByRecursion (λ (f : Filled). f.place.top < r + 1) gs
    level [] each = tt
    level (g ∷ gs) each = (omega (arith, each.0), level gs each.1)

pub no_captions : (rows : List (List Filled)) → AllByRecursion (AllByRecursion (λ f. is_caption f ≡ false)) rows →
    flat_map caption_line (joined rows) ≡ []
no_captions [] plain = refl
no_captions (fs ∷ rows) plain =
    flat_map-append caption_line fs (joined rows) ∙ ap (λ (cs : List ℕ). cs ++ flat_map caption_line (joined rows))
    (none fs plain.0)
    ∙ no_captions rows plain.1
  where
    none : (gs : List Filled) → AllByRecursion (λ f. is_caption f ≡ false) gs → flat_map caption_line gs ≡ []
    none [] each = refl
    none (g ∷ gs) each =
        ap (λ (cs : List ℕ). cs ++ flat_map caption_line gs)
        (cond-false (is_caption g) (line (codes "<caption>" ++ g.text ++ codes "</caption>")) [] each.0)
        ∙ none gs each.1

no_caption_among : (rows : List (List Filled)) → AllByRecursion (AllByRecursion (λ f. is_caption f ≡ false)) rows →
    list_any is_caption (joined rows) ≡ false
no_caption_among [] plain = refl
no_caption_among (fs ∷ rows) plain = passed fs plain.0 (no_caption_among rows plain.1)
  where
    passed : (gs : List Filled) → AllByRecursion (λ f. is_caption f ≡ false) gs → list_any is_caption (joined rows) ≡ false →
        list_any is_caption (gs ++ joined rows) ≡ false
    passed [] each rest = rest
    passed (g ∷ gs) each rest = ap (λ b. b || list_any is_caption (gs ++ joined rows)) each.0 ∙ passed gs each.1 rest

-- ---- columns

abbrev col_item : ℕ → Item
col_item width = record {
  mark = codes "<col style=\"width:" ++ decimal width ++ codes "ch\">";
  is_end = false;
  element = elements.Col;
  spans =
      no_spans;
  text = [];
}

abbrev colgroup_start_item : Item
colgroup_start_item = record {
  mark = codes "<colgroup>";
  is_end = false;
  element = elements.Colgroup;
  spans = no_spans;
  text =
      [];
}

abbrev colgroup_end_item : Item
colgroup_end_item = record {
  mark = codes "</colgroup>";
  is_end = true;
  element = elements.Colgroup;
  spans = no_spans;
  text =
      0x0A ∷ [];
}

abbrev pub columns_items : List ℕ → List Item
columns_items [] = []
columns_items (width ∷ widths) = colgroup_start_item ∷ (map col_item (width ∷ widths) ++ colgroup_end_item ∷ [])

cols_are : (widths : List ℕ) → AllByRecursion IsItem (map col_item widths)
cols_are [] = tt
cols_are (width ∷ widths) = ((column_tag width, tt), cols_are widths)

pub columns_are : (widths : List ℕ) → AllByRecursion IsItem (columns_items widths)
columns_are [] = tt
columns_are (width ∷ widths) = (
  (page_tags.colgroup_start, tt),
  AllByRecursion-append IsItem (map col_item (width ∷ widths)) (colgroup_end_item ∷ []) (cols_are (width ∷ widths))
      ((page_tags.colgroup_end, (refl, tt)), tt),
)

cols_written : (widths : List ℕ) → flat_map column_html widths ≡ items_text (map col_item widths)
cols_written [] = refl
cols_written (width ∷ widths) =
    ap (λ (cs : List ℕ). column_html width ++ cs) (cols_written widths)
    ∙ ap (λ (cs : List ℕ). cs ++ items_text (map col_item widths)) (sym (append-nil (column_html width)))

pub columns_written : (widths : List ℕ) → columns_html widths ≡ items_text (columns_items widths)
columns_written [] = refl
columns_written (width ∷ widths) =
    let ws = width ∷ widths in
    ap (λ (cs : List ℕ). line (codes "<colgroup>" ++ cs ++ codes "</colgroup>")) (cols_written ws)
    ∙ ap (λ (cs : List ℕ). codes "<colgroup>" ++ cs) (append_assoc (items_text (map col_item ws)) (codes "</colgroup>")
    (0x0A ∷ [])
    ∙ sym (flat_map-append item_text (map col_item ws) (colgroup_end_item ∷ [])))

abbrev ones : List ℕ → List ℕ
ones widths = map (λ width. 1) widths

cols_read : (widths : List ℕ) (k1 : Kinds) → begins_with is_col k1 ≡ false →
    Cols (grammar_kinds (map col_item widths) ++ k1) (ones widths) k1
cols_read [] k1 ends = no_col ends
cols_read (width ∷ widths) k1 ends = next_col (cols_read widths k1 ends)

ones_sum : (widths : List ℕ) → sum (ones widths) ≡ length widths
ones_sum [] = refl
ones_sum (width ∷ widths) = let rest = ones_sum widths in omega (arith, sum_by-cons (λ n. n) 1 (ones widths))

pub columns_read : (widths : List ℕ) (k1 : Kinds) → Columns (grammar_kinds (columns_items widths) ++ k1) (length widths) k1
columns_read [] k1 = no_columns
columns_read (width ∷ widths) k1 =
    let ws = width ∷ widths in
    let split : grammar_kinds (columns_items ws) ++ k1 ≡ colgroup_start 1 ∷
    (grammar_kinds (map col_item ws) ++ (colgroup_end ∷ text (0x0A ∷ []) ∷ k1)) =
    ap (λ (ks : Kinds). colgroup_start 1 ∷ (ks ++ k1)) (kinds_append (map col_item ws) (colgroup_end_item ∷ []))
    ∙ ap (λ (ks : Kinds). colgroup_start 1 ∷ ks) (append_assoc (grammar_kinds (map col_item ws))
    (colgroup_end ∷ text (0x0A ∷ []) ∷ []) k1) in
    let many : colgroup_columns 1 (ones ws) + 0 ≡ length ws = omega (arith, ones_sum ws) in
    subst (λ (ks : Kinds). Columns ks (length ws) k1) (sym split)
    (subst (λ n. Columns (colgroup_start 1 ∷ (grammar_kinds (map col_item ws) ++ (colgroup_end ∷ text (0x0A ∷ []) ∷ k1))) n k1)
    many
    (colgroup (cols_read ws (colgroup_end ∷ text (0x0A ∷ []) ∷ k1) refl) (by_tag (space refl no_space)) no_columns))

-- ---- the rows as a part

abbrev pub part_marks : List (List TableCell) → Marks → Marks
part_marks [] ms = []
part_marks (cells ∷ rows) ms = grammar.group_begins parts.Loose ∷ ms

abbrev pub group_of : List (List CellNode) → GroupNode
group_of nodes = roll-GroupNode (let g : OpenGroup = record { part = parts.Loose; rows = nodes } in g)

abbrev pub groups_of : List (List TableCell) → List (List CellNode) → List GroupNode
groups_of [] nodes = []
groups_of (cells ∷ rows) nodes = group_of nodes ∷ []

pub parts_read : (rows : List (List TableCell)) (items : List Item) (ms : Marks) (nodes : List (List CellNode)) (rest : Kinds)
    (m1 : Marks) →
    HasRows rows items ms nodes →
    RowsGo (grammar_kinds items) ms → Parts (grammar_kinds items ++ (table_end ∷ rest)) (part_marks rows ms ++ m1)
    (table_end ∷ rest) m1
parts_read [] items ms nodes rest m1 begun goes =
    subst (λ (xs : List Item). Parts (grammar_kinds xs ++ (table_end ∷ rest)) m1 (table_end ∷ rest) m1) (sym begun.0) no_part
parts_read (cells ∷ rows) items ms nodes rest m1 begun goes =
    let split : grammar_kinds items ++ (table_end ∷ rest) ≡ row_start ∷ (begun.0 ++ (table_end ∷ rest)) = ap
    (λ (ks : Kinds). ks ++ (table_end ∷ rest)) begun.1 in
    subst (λ (ks : Kinds). Parts ks (grammar.group_begins parts.Loose ∷ (ms ++ m1)) (table_end ∷ rest) m1) (sym split)
    (loose_rows (subst (λ (ks : Kinds). grammar.Rows ks (ms ++ m1) (table_end ∷ rest) m1) split
    (goes (table_end ∷ rest) (table_end ∷ rest) m1 m1 (no_row refl))) no_part)

pub parts_stand : (rows : List (List TableCell)) (items : List Item) (ms : Marks) (nodes : List (List CellNode)) (k next : ℕ) →
    HasRows rows items ms nodes →
    StandFor k ms (rows_outline nodes) next → StandFor k (part_marks rows ms) (groups_outline (groups_of rows nodes)) next
parts_stand [] items ms nodes k next begun stand =
    subst (λ (m : Marks). StandFor k m [] next) begun.1 (subst
    (λ (ns : List (List CellNode)). StandFor k ms (rows_outline ns) next) begun.2 stand)
parts_stand (cells ∷ rows) items ms nodes k next begun stand =
    let made : groups_outline (group_of nodes ∷ []) ≡ group parts.Loose ∷ rows_outline nodes =
    append-nil (group_outline (group_of nodes)) ∙ group_made _ in
    record {
      sharp = λ later sharp. refl;
      same = λ later sharp.
          ap (λ (m : Marks). group parts.Loose ∷ (paragraph_of (atoms_of m) ++ entries_after k (ms ++ later)))
          (stand.sharp later sharp)
          ∙ ap (λ (rest : Entries). group parts.Loose ∷ rest) (stand.same later sharp)
          ∙ ap (λ (es : Entries). es ++ entries_after next later) (sym made);
    }

-- ---- the caption

module _ (breaking : Breaking) (forms : TableNode → Table → Type 0) (alike : Table → Table → Type 0) (has : Table → Layout →
    Type 0)
    (inside : (table : Table) (layout : Layout) (k : ℕ) → has table layout → TableBack forms alike table layout k) where
  -- the caption's line, and the caption that is read back
  pub record CaptionBack (cols : ℕ) (down : ℕ) (cells : List TableCell) (inner : List Layout) (others : List Table)
      (k : ℕ) : Type 0 where
    pub items : List Item
    pub are : AllByRecursion IsItem items
    pub filled : List Filled
    pub layouts : List Layout
    pub fills : (rest : List TableCell) → fill (map cell_of (cells ++ rest)) inner ≡ filled ++ fill (map cell_of rest) layouts
    pub left : AllZip has others layouts
    pub tops : AllByRecursion (λ (f : Filled). f.place.top < down) filled
    pub written : flat_map caption_line filled ≡ items_text items
    pub counted : (rows : List (List Filled)) → AllByRecursion (AllByRecursion (λ f. is_caption f ≡ false)) rows →
        html.caption_rows (filled ++ joined rows) ≡ down
    pub ms : Marks
    pub reads : (k1 : Kinds) (m1 : Marks) → Caption (grammar_kinds items ++ k1) (ms ++ m1) k1 m1
    pub next : ℕ
    pub flow : Option (List Block)
    pub stand : StandFor k ms (caption_outline flow) next
    pub rows : caption_rows flow ≡ down
    pub back : List TableCell
    pub become : BecomeCaption forms breaking cols flow back
    pub same : AllZip (λ one twin. AreAlikeCell alike (out-TableCell one) (out-TableCell twin)) cells back
    pub places : map place_of back ≡ map place_of cells

  abbrev caption_start_item : Item
  caption_start_item = record {
    mark = codes "<caption>";
    is_end = false;
    element = elements.Caption;
    spans = no_spans;
    text =
        [];
  }

  abbrev caption_end_item : Item
  caption_end_item = record {
    mark = codes "</caption>";
    is_end = true;
    element = elements.Caption;
    spans = no_spans;
    text =
        0x0A ∷ [];
  }

  no_caption_back : (cols : ℕ) (inner : List Layout) (others : List Table) (k : ℕ) → AllZip has others inner →
      CaptionBack cols 0 [] inner others k
  no_caption_back cols inner others k fits = record {
    items = [];
    are = tt;
    filled = [];
    layouts = inner;
    fills = λ rest. refl;
    left = fits;
    tops = tt;
    written = refl;
    counted = λ rows plain. ap (λ b. cond b 1 0) (no_caption_among rows plain);
    ms = [];
    reads = λ k1 m1. no_caption;
    next = k;
    flow = None;
    stand = record { sharp = λ later sharp. sharp; same = λ later sharp. refl };
    rows = refl;
    back = [];
    become = refl;
    same = tt;
    places = refl;
  }

  some_caption_back : (cols : ℕ) (cap : TableCell) (inner : List Layout) (others : List Table) (k : ℕ) →
      IsCaption cols (out-TableCell cap) → AreSpellableBlocks breaking (out-TableCell cap).blocks →
      AllZip has (tables_in (out-TableCell cap) ++ others) inner →
      CaptionBack cols 1 (cap ∷ []) inner others k
  some_caption_back cols cap inner others k is_one words fits =
      let o = out-TableCell cap in
      let f = flow_back breaking forms alike has inside o.blocks inner others k words fits in
      let found = blocks_html (map flow_of o.blocks) inner in
      let one : Filled = record { kind = o.kind; place = o.place; least = o.least; text = found.text } in
      let items = caption_start_item ∷ (f.items ++ caption_end_item ∷ []) in
      let marks : Marks = grammar.caption_begins ∷ (f.ms ++ grammar.paragraph_ends ∷ []) in
      let is : is_caption one ≡ true = ap html.is_caption_kind is_one.kind in
      let twin' : OpenCell = record { kind = o.kind; in_head = false; place = o.place; least = o.least; align = None; blocks = f.back } in
      let twin : TableCell = roll-TableCell twin' in
      let open_twin : out-TableCell twin ≡ twin' = out-roll-TableCell twin' in
      let top : o.place.top ≡ 0 = ap (λ (p : Place). p.top) is_one.place in
      record {
        items = items;
        are = (
          (page_tags.caption_start, tt),
          AllByRecursion-append IsItem f.items (caption_end_item ∷ []) f.are ((page_tags.caption_end, (refl, tt)), tt),
        );
        filled = one ∷ [];
        layouts = found.rest;
        fills = λ rest. ap (λ (h : HtmlCell). fill (h ∷ map cell_of rest) inner) (cell_of-out cap);
        left = f.left;
        tops = (omega arith, tt);
        written =
            ap (λ (cs : List ℕ). cs ++ []) (cond-true (is_caption one)
            (line (codes "<caption>" ++ found.text ++ codes "</caption>")) [] is)
            ∙ append-nil (line (codes "<caption>" ++ found.text ++ codes "</caption>"))
            ∙ ap (λ (cs : List ℕ). line (codes "<caption>" ++ cs ++ codes "</caption>")) f.written
            ∙ ap (λ (cs : List ℕ). codes "<caption>" ++ cs) (append_assoc (items_text f.items) (codes "</caption>") (0x0A ∷ [])
            ∙ sym (flat_map-append item_text f.items (caption_end_item ∷ [])));
        counted = λ rows plain. ap (λ b. cond (b || list_any is_caption (joined rows)) 1 0) is;
        ms = marks;
        reads = λ k1 m1.
            let split : grammar_kinds items ++ k1 ≡ caption_start ∷
            (grammar_kinds f.items ++ (caption_end ∷ text (0x0A ∷ []) ∷ k1)) =
            ap (λ (ks : Kinds). caption_start ∷ (ks ++ k1)) (kinds_append f.items (caption_end_item ∷ []))
            ∙ ap (λ (ks : Kinds). caption_start ∷ ks) (append_assoc (grammar_kinds f.items)
            (caption_end ∷ text (0x0A ∷ []) ∷ []) k1) in
            subst (λ (ks : Kinds). Caption ks (marks ++ m1) k1 m1) (sym split)
            (subst (λ (m : Marks). Caption (caption_start ∷ (grammar_kinds f.items ++ (caption_end ∷ text (0x0A ∷ []) ∷ k1)))
            (grammar.caption_begins ∷ m) k1 m1)
            (sym (append_assoc f.ms (grammar.paragraph_ends ∷ []) m1))
            (grammar.caption (f.goes (caption_end ∷ text (0x0A ∷ []) ∷ k1) (caption_end ∷ text (0x0A ∷ []) ∷ k1)
            (grammar.paragraph_ends ∷ m1)
            (grammar.paragraph_ends ∷ m1) no_flow)
            (by_tag (space refl no_space))));
        next = f.next;
        flow = Some f.flow;
        stand = record {
          sharp = λ later sharp. refl;
          same = λ later sharp.
              ap (λ (m : Marks). caption ∷ (paragraph_of (atoms_of (leading m)) ++ entries_after k m))
              (append_assoc f.ms (grammar.paragraph_ends ∷ []) later)
              ∙ ap (λ (m : Marks). caption ∷ (paragraph_of (atoms_of m) ++ entries_after k
              (f.ms ++ grammar.paragraph_ends ∷ later)))
              (f.stand.sharp (grammar.paragraph_ends ∷ later) refl)
              ∙ ap (λ (rest : Entries). caption ∷ rest) (f.stand.same (grammar.paragraph_ends ∷ later) refl
              ∙ ap (λ (rest : Entries). blocks_outline f.flow ++ rest) (ends_sharp f.next later sharp));
        };
        rows = refl;
        back = twin ∷ [];
        become = (
          subst (λ (d : OpenCell). BecomesCaption forms breaking cols f.flow d) (sym open_twin)
              (record { kind = is_one.kind; in_head = refl; place = is_one.place; least = is_one.least; align = refl; blocks = f.become }),
          refl,
        );
        same = (
          subst (λ (d : OpenCell). AreAlikeCell alike o d) (sym open_twin)
              (record { kind = refl; place = refl; least = refl; blocks = f.same }),
          tt,
        );
        places = ap (λ (d : OpenCell). d.place ∷ []) open_twin;
      }

  pub caption_back : (cols : ℕ) (cells : List TableCell) (inner : List Layout) (others : List Table) (k : ℕ) →
      AreCaption cols cells → AllByRecursion (λ c. AreSpellableBlocks breaking (out-TableCell c).blocks) cells →
      AllZip has (flat_map (λ c. tables_in (out-TableCell c)) cells ++ others) inner →
      CaptionBack cols (length cells) cells inner others k
  caption_back cols [] inner others k are words fits = no_caption_back cols inner others k fits
  caption_back cols (cap ∷ above) inner others k are words fits =
      subst (λ (cs : List TableCell). CaptionBack cols (length (cap ∷ cs)) (cap ∷ cs) inner others k) (sym are.1)
      (some_caption_back cols cap inner others k are.0 words.0
      (subst (λ (ts : List Table). AllZip has (ts ++ others) inner) (append-nil (tables_in (out-TableCell cap)))
      (subst (λ (cs : List TableCell). AllZip has ((tables_in (out-TableCell cap) ++ flat_map
      (λ c. tables_in (out-TableCell c)) cs) ++ others) inner) are.1 fits)))
