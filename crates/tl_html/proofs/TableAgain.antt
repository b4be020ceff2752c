-- A table on a page, and the same table read back, where the tables nested in it are read back.
use Rattle.std.proofs.Common.{◌≡◌, ◌∙◌, ℕ, zero, suc, ◌+◌, ◌-◌, ◌<◌, ◌≤◌, max, false, List, [], ◌∷◌, ◌++◌}
use Rattle.std.proofs.Common.{map, length, Contains}
use Rattle.std.proofs.Common.{refl, sym, ap, subst, arith, append_assoc, append-nil, codes}
use Rattle.std.specs.List.{AllByRecursion, AllPairs, AllZip, flat_map, range_with_len}
use Rattle.std.proofs.lemmas.List.{map-append, length-map}
use Rattle.std.proofs.lemmas.List.Concat.{flat_map-append}
use Rattle.std.proofs.lemmas.List.Elements.{recursion_from_All, All-contains, All-from_recursion, Contains-append_right}
use Rattle.std.proofs.lemmas.List.Sorted.{IsPermutation-refl}
use Rattle.tl_base.specs.declared.breaking.Breaking.{Breaking}
use Rattle.tl_base.specs.declared.limits.TheConstants.{MAX_COLUMNS, MAX_ROWS, MAX_CELLS, MAX_PAGE_WIDTH}
use Rattle.tl_base.proofs.Members.{All-from_Contains, AllByRecursion-append, AllByRecursion-prefix}
use Rattle.tl_base.proofs.Zips.{AllZip-append}
use Rattle.tl_grid.specs.declared.shape.Grid.{Grid}
use Rattle.tl_grid.specs.declared.shape.Place.{Place}
use Rattle.tl_grid.specs.declared.shape.Shape.{Shape}
use Rattle.tl_grid.specs.declared.shape.ShapeGroup.{ShapeGroup}
use Rattle.tl_grid.specs.declared.shape.SpanOf.{SpanOf}
use Rattle.tl_grid.specs.Dropping.{IsPlaced, count_below}
use Rattle.tl_grid.specs.Form.{HasGrid}
use Rattle.tl_grid.specs.Slots.{HasAnchorInColumn, HasAnchorInRow}
use Rattle.tl_token.specs.Elements.{no_spans}
use Rattle.tl_token.specs.declared.token.Element.TheVariants as elements
use Rattle.tl_tree.specs.Grammar.{Marks, no_space, space}
use Rattle.tl_tree.specs.Grammar as grammar
use Rattle.tl_tree.specs.Outline.{Entries, columns, outline, caption_outline}
use Rattle.tl_tree.specs.Outline as entries
use Rattle.tl_tree.specs.Paragraphs.{leading, atoms_of, paragraph_of, entries_after, entries_of}
use Rattle.tl_tree.specs.Tags.{Kinds, table_start, table_end, text}
use Rattle.tl_tree.specs.declared.node.CellNode.{CellNode}
use Rattle.tl_tree.specs.declared.node.GroupNode.{GroupNode, out-GroupNode, out-roll-GroupNode}
use Rattle.tl_tree.specs.declared.node.Part.TheVariants as parts
use Rattle.tl_tree.specs.declared.node.TableNode.{TableNode, out-TableNode, roll-TableNode, out-roll-TableNode}
use Rattle.tl_tree.proofs.Outlines.{table_made}
use Rattle.tl_table.specs.declared.cell.Table.{Table, out-Table, roll-Table, out-roll-Table, fold_out-Table}
use Rattle.tl_table.specs.declared.cell.TableCell.{TableCell, out-TableCell}
use Rattle.tl_table.specs.declared.layout.Layout.{Layout, out-Layout}
use Rattle.tl_table.specs.Layouts.{OpenLayout}
use Rattle.tl_table.specs.Tables.{OpenTable, tables_in}
use Rattle.tl_table.specs.Formed.{OpenNode, OpenGroup, BecomeCells, BecomesBy, cells_of_group, marks_of_group, marks_of_groups}
use Rattle.tl_table.specs.Formed.{group_shape}
use Rattle.tl_table.specs.Formed.{is_foot, lowered, span_of}
use Rattle.tl_table.specs.Sound.{ComesBefore, IsSoundBy, place_of, places_of}
use Rattle.tl_table.proofs.SoundParts.{each_joined}
use Rattle.tl_table.proofs.SoundNodes.{groups_outline}
use Rattle.tl_html.specs.declared.filled.Filled.{Filled}
use Rattle.tl_html.specs.Alike.{AreAlikeBy, AreAlikeCell}
use Rattle.tl_html.specs.Html.{HtmlCell, fill, block_page, table_page, cell_page, cell_of, html_of, caption_line, caption_html}
use Rattle.tl_html.specs.Html.{columns_html, row_html}
use Rattle.tl_html.specs.Html.{rows_html, line}
use Rattle.tl_html.specs.Html as html
use Rattle.tl_html.specs.Readable.{HasColumnsBy}
use Rattle.tl_table.specs.Spellable.{AreSpellableBlocks, IsRowCell, IsSpellableBy}
use Rattle.tl_html.proofs.Items.{Item, item_text, items_text, IsItem}
use Rattle.tl_html.proofs.PageTags as page_tags
use Rattle.tl_html.proofs.PageWords.{grammar_kinds, kinds_append, StandFor}
use Rattle.tl_html.proofs.GridAgain.{span_at, shape_on, AreRows, IsGrid}
use Rattle.tl_html.proofs.GridKept.{grid_again}
use Rattle.tl_html.proofs.Blocks.{TableBack, last_item, stand_append}
use Rattle.tl_html.proofs.Cells.{HasRows, IsBelow, RowsBack, rows_back, joined, no_marks}
use Rattle.tl_html.proofs.TableRows.{raised, lowered_raised, InRow, InRows}
use Rattle.tl_html.proofs.TableRows as table_rows
use Rattle.tl_html.proofs.TableParts.{BeginInRows, rows_written, no_captions, columns_items, columns_are, columns_written}
use Rattle.tl_html.proofs.TableParts.{columns_read}
use Rattle.tl_html.proofs.TableParts.{part_marks, groups_of, group_of, parts_read, parts_stand, CaptionBack, caption_back}

-- ---- lists of lists

joined_map : {X Y : Type 0} (f : X → Y) (rows : List (List X)) → joined (map (map f) rows) ≡ map f (joined rows)
joined_map f [] = refl
joined_map f (row ∷ rows) = ap (λ rest. map f row ++ rest) (joined_map f rows) ∙ sym (map-append f row (joined rows))

begin_in_rows : (r : ℕ) (filled : List (List Filled)) (rows : List (List TableCell)) →
    map (map (λ (f : Filled). f.place)) filled ≡ map (map place_of) rows →
    InRows r rows → BeginInRows r filled
begin_in_rows r [] rows same level = tt
begin_in_rows r (fs ∷ filled) [] same level = absurd (cc)
begin_in_rows r (fs ∷ filled) (cells ∷ rows) same level =
    let first : map (λ (f : Filled). f.place) fs ≡ map place_of cells = cc in
    let rest : map (map (λ (f : Filled). f.place)) filled ≡ map (map place_of) rows = cc in
    (one fs cells first level.0, begin_in_rows (r + 1) filled rows rest level.1)
  where
    one : (gs : List Filled) (cs : List TableCell) → map (λ (f : Filled). f.place) gs ≡ map place_of cs → InRow r cs →
        AllByRecursion (λ (f : Filled). f.place.top ≡ r) gs
    one [] cs e all = tt
    one (g ∷ gs) [] e all = absurd (cc)
    one (g ∷ gs) (c ∷ cs) e all =
        let here : g.place ≡ place_of c = cc in
        let later : map (λ (f : Filled). f.place) gs ≡ map place_of cs = cc in
        (ap (λ (p : Place). p.top) here ∙ all.0, one gs cs later all.1)

length_rows : (filled : List (List Filled)) (rows : List (List TableCell)) →
    map (map (λ (f : Filled). f.place)) filled ≡ map (map place_of) rows →
    length filled ≡ length rows
length_rows filled rows same = sym (length-map filled (map (λ (f : Filled). f.place))) ∙ ap length same ∙ length-map rows
    (map place_of)

regroup : (t c w r l : List ℕ) → (((t ++ c) ++ w) ++ r) ++ l ≡ t ++ ((c ++ (w ++ r)) ++ l)
regroup t c w r l = simp append_assoc

regroup_kinds : (c w r l : Kinds) → (c ++ (w ++ r)) ++ l ≡ c ++ (w ++ (r ++ l))
regroup_kinds c w r l = simp append_assoc

module _ (breaking : Breaking) (forms : TableNode → Table → Type 0) (alike : Table → Table → Type 0) (has : Table → Layout →
    Type 0)
    (inside : (table : Table) (layout : Layout) (k : ℕ) → has table layout → TableBack forms alike table layout k)
    (sound_inside spellable : Table → Type 0) where
  module _ (table : Table) (layout : Layout) (k : ℕ) (sound : IsSoundBy sound_inside (out-Table table))
      (spelt : IsSpellableBy spellable breaking (out-Table table))
      (fits : HasColumnsBy has (out-Table table) (out-Layout layout)) where
    abbrev T : OpenTable
    T = out-Table table

    abbrev L : OpenLayout
    L = out-Layout layout

    abbrev down : ℕ
    down = length spelt.caption

    abbrev cols : ℕ
    cols = table_rows.cols breaking sound_inside spellable T sound spelt

    abbrev high : ℕ
    high = T.rows - down

    abbrev below : List TableCell
    below = spelt.body

    abbrev places : List Place
    places = map (raised down) (map place_of below)

    by_rows : (rows : List (List TableCell)) × (joined rows ≡ below) × (length rows ≡ high) × InRows down rows
    by_rows = table_rows.rows_of breaking sound_inside spellable T sound spelt

    abbrev rows : List (List TableCell)
    rows = by_rows.0

    few_captions : down ≤ 1
    few_captions = table_rows.few_captions breaking sound_inside spellable T sound spelt

    wide_is : T.cols ≡ max cols down
    wide_is = table_rows.wide_is breaking sound_inside spellable T sound spelt

    high_is : T.rows ≡ high + down
    high_is = table_rows.high_is breaking sound_inside spellable T sound spelt

    few_columns : cols ≤ MAX_COLUMNS
    few_columns = table_rows.few_columns breaking sound_inside spellable T sound spelt

    few_rows : high ≤ MAX_ROWS
    few_rows = table_rows.few_rows breaking sound_inside spellable T sound spelt

    under_caption : (c : TableCell) → Contains below c → (down ≤ (place_of c).top) × IsPlaced cols high (raised down (place_of c))
    under_caption = table_rows.under_caption breaking sound_inside spellable T sound spelt

    places_grid : IsGrid cols high places
    places_grid = table_rows.places_grid breaking sound_inside spellable T sound spelt

    places_columns : (x : ℕ) → x < cols → HasAnchorInColumn places x
    places_columns = table_rows.places_columns breaking sound_inside spellable T sound spelt

    places_rows : (y : ℕ) → y < high → HasAnchorInRow places y
    places_rows = table_rows.places_rows breaking sound_inside spellable T sound spelt

    words_split : AllByRecursion (λ c. AreSpellableBlocks breaking (out-TableCell c).blocks) (spelt.caption ++ below)
    words_split = subst (AllByRecursion (λ c. AreSpellableBlocks breaking (out-TableCell c).blocks)) spelt.split spelt.words

    in_table : (c : TableCell) → Contains below c → Contains T.cells c
    in_table c there = subst (λ (cs : List TableCell). Contains cs c) (sym spelt.split)
        (Contains-append_right spelt.caption below c there)

    is_below : (c : TableCell) → Contains below c → IsBelow breaking c
    is_below c there =
        let under = under_caption c there in
        let row_cell = All-contains IsRowCell below c (All-from_recursion IsRowCell below spelt.in_rows) there in
        record {
          head = row_cell.0;
          kind = row_cell.1;
          narrow = All-contains (λ each. (out-TableCell each).least ≤ MAX_PAGE_WIDTH) T.cells c sound.narrow (in_table c there);
          words = All-contains (λ each. AreSpellableBlocks breaking (out-TableCell each).blocks) T.cells c
              (All-from_recursion (λ each. AreSpellableBlocks breaking (out-TableCell each).blocks) T.cells spelt.words)
              (in_table c there);
          wide = under.1.0;
          few_columns = omega (arith, few_columns, under.1.1);
          high = omega (arith, under.0, under.1.2);
          few_rows = omega (arith, few_rows, under.0, under.1.2, under.1.3);
        }

    all_below : (P : TableCell → Type 0) → ((c : TableCell) → Contains below c → P c) → AllByRecursion (AllByRecursion P) rows
    all_below P each = each_joined P (λ (r : List TableCell). r) rows
        (subst (AllByRecursion P) (sym by_rows.1) (recursion_from_All P below (All-from_Contains P below each)))

    -- ---- the parts

    tables_are : flat_map (λ c. tables_in (out-TableCell c)) T.cells ≡
        flat_map (λ c. tables_in (out-TableCell c)) spelt.caption ++
        (flat_map (λ c. tables_in (out-TableCell c)) (joined rows) ++ [])
    tables_are =
        ap (flat_map (λ c. tables_in (out-TableCell c))) spelt.split
        ∙ flat_map-append (λ c. tables_in (out-TableCell c)) spelt.caption below
        ∙ ap (λ (ts : List Table). flat_map (λ c. tables_in (out-TableCell c)) spelt.caption ++ ts)
        (ap (flat_map (λ c. tables_in (out-TableCell c))) (sym by_rows.1) ∙ sym
        (append-nil (flat_map (λ c. tables_in (out-TableCell c)) (joined rows))))

    cap : CaptionBack breaking forms alike has inside T.cols down spelt.caption L.inner
        (flat_map (λ c. tables_in (out-TableCell c)) (joined rows) ++ []) (k + 1)
    cap = caption_back breaking forms alike has inside T.cols spelt.caption L.inner
        (flat_map (λ c. tables_in (out-TableCell c)) (joined rows) ++ []) (k + 1) spelt.captioned
        (AllByRecursion-prefix (λ c. AreSpellableBlocks breaking (out-TableCell c).blocks) spelt.caption below words_split)
        (subst (λ (ts : List Table). AllZip has ts L.inner) tables_are fits.inner)

    rest : RowsBack breaking forms alike has inside rows cap.layouts [] cap.next
    rest = rows_back breaking forms alike has inside rows cap.layouts [] cap.next
        (all_below (IsBelow breaking) is_below) cap.left

    -- ---- the page

    abbrev filled : List Filled
    filled = cap.filled ++ joined rest.filled

    filled_is : fill (map cell_of T.cells) L.inner ≡ filled
    filled_is =
        ap (λ (cs : List TableCell). fill (map cell_of cs) L.inner) (spelt.split
        ∙ ap (λ (cs : List TableCell). spelt.caption ++ cs) (sym by_rows.1))
        ∙ cap.fills (joined rows)
        ∙ ap (λ (fs : List Filled). cap.filled ++ fs) (
        ap (λ (cs : List TableCell). fill (map cell_of cs) cap.layouts) (sym (append-nil (joined rows)))
        ∙ rest.fills [] ∙ append-nil (joined rest.filled))

    caption_is : caption_html filled ≡ items_text cap.items
    caption_is = flat_map-append caption_line cap.filled (joined rest.filled)
        ∙ ap (λ (cs : List ℕ). flat_map caption_line cap.filled ++ cs) (no_captions rest.filled rest.plain)
        ∙ append-nil (flat_map caption_line cap.filled) ∙ cap.written

    rows_are : rows_html T.rows filled ≡ items_text rest.items
    rows_are =
        let many : T.rows - down ≡ length rest.filled = omega (arith, by_rows.2, length_rows rest.filled rows rest.at) in
        ap (λ n. flat_map (row_html filled) (range_with_len n (T.rows - n))) (cap.counted rest.filled rest.plain)
        ∙ ap (λ n. flat_map (row_html filled) (range_with_len down n)) many
        ∙ rows_written cap.filled rest.filled down cap.tops (begin_in_rows down rest.filled rows rest.at by_rows.3)
        ∙ rest.written

    abbrev first_item : Item
    first_item = record { mark = codes "<table>"; is_end = false; element = elements.Table; spans = no_spans; text = 0x0A ∷ [] }

    abbrev prefix : List Item
    prefix = first_item ∷ (cap.items ++ (columns_items L.widths ++ rest.items))

    page_is : html_of table layout ≡ items_text (prefix ++ last_item ∷ [])
    page_is =
        let start : List ℕ = line (codes "<table>") in
        let end : List ℕ = line (codes "</table>") in
        ap (λ (page : Layout → List ℕ). page layout) (fold_out-Table html.Block (Layout →
        List ℕ) HtmlCell block_page table_page cell_page table)
        ∙ ap (λ (fs : List Filled). (((start ++ caption_html fs) ++ columns_html L.widths) ++ rows_html T.rows fs) ++ end)
        filled_is
        ∙ ap (λ (cs : List ℕ). (((start ++ cs) ++ columns_html L.widths) ++ rows_html T.rows filled) ++ end) caption_is
        ∙ ap (λ (cs : List ℕ). (((start ++ items_text cap.items) ++ cs) ++ rows_html T.rows filled) ++ end)
        (columns_written L.widths)
        ∙ ap (λ (cs : List ℕ). (((start ++ items_text cap.items) ++ items_text (columns_items L.widths)) ++ cs) ++ end) rows_are
        ∙ regroup start (items_text cap.items) (items_text (columns_items L.widths)) (items_text rest.items) end
        ∙ ap (λ (cs : List ℕ). start ++ (cs ++ end)) (
        ap (λ (cs : List ℕ). items_text cap.items ++ cs) (sym (flat_map-append item_text (columns_items L.widths) rest.items))
        ∙ sym (flat_map-append item_text cap.items (columns_items L.widths ++ rest.items)))
        ∙ ap (λ (cs : List ℕ). start ++ cs) (sym (flat_map-append item_text
        (cap.items ++ (columns_items L.widths ++ rest.items)) (last_item ∷ [])))

    -- ---- the grammar

    abbrev body : Marks
    body = cap.ms ++ (grammar.columns T.cols ∷ part_marks rows rest.ms)

    abbrev marks : Marks
    marks = grammar.table_begins ∷ (body ++ grammar.table_ends ∷ [])

    marks_are : (more : Marks) → (body ++ grammar.table_ends ∷ []) ++ more ≡
        cap.ms ++ (grammar.columns T.cols ∷ (part_marks rows rest.ms ++ (grammar.table_ends ∷ more)))
    marks_are more = append_assoc body (grammar.table_ends ∷ []) more
        ∙ append_assoc cap.ms (grammar.columns T.cols ∷ part_marks rows rest.ms) (grammar.table_ends ∷ more)

    reads : (after : Kinds) (more : Marks) → grammar.Table (grammar_kinds prefix ++ table_end ∷ after) (marks ++ more) after more
    reads after more =
        let wide = grammar_kinds (columns_items L.widths) in
        let split : grammar_kinds prefix ++ table_end ∷ after ≡
        table_start ∷ text (0x0A ∷ []) ∷ (grammar_kinds cap.items ++
        (wide ++ (grammar_kinds rest.items ++ (table_end ∷ after)))) =
        ap (λ (ks : Kinds). table_start ∷ text (0x0A ∷ []) ∷ (ks ++ (table_end ∷ after))) (
        kinds_append cap.items (columns_items L.widths ++ rest.items)
        ∙ ap (λ (ks : Kinds). grammar_kinds cap.items ++ ks) (kinds_append (columns_items L.widths) rest.items))
        ∙ ap (λ (ks : Kinds). table_start ∷ text (0x0A ∷ []) ∷ ks)
        (regroup_kinds (grammar_kinds cap.items) wide (grammar_kinds rest.items) (table_end ∷ after)) in
        subst (λ (ks : Kinds). grammar.Table ks (marks ++ more) after more) (sym split)
        (subst (λ (ms : Marks). grammar.Table (table_start ∷ text
        (0x0A ∷ []) ∷ (grammar_kinds cap.items ++ (wide ++ (grammar_kinds rest.items ++ (table_end ∷ after)))))
        (grammar.table_begins ∷ ms) after more) (sym (marks_are more))
        (grammar.table (space refl no_space)
        (cap.reads (wide ++ (grammar_kinds rest.items ++ (table_end ∷ after)))
        (grammar.columns T.cols ∷ (part_marks rows rest.ms ++ (grammar.table_ends ∷ more))))
        (subst (λ n. grammar.Columns (wide ++ (grammar_kinds rest.items ++ (table_end ∷ after))) n
        (grammar_kinds rest.items ++ (table_end ∷ after))) fits.columns
        (columns_read L.widths (grammar_kinds rest.items ++ (table_end ∷ after))))
        (parts_read rows rest.items rest.ms rest.nodes after (grammar.table_ends ∷ more) rest.begun rest.goes)))

    -- ---- the tree

    abbrev groups : List GroupNode
    groups = groups_of rows rest.nodes

    abbrev open_made : OpenNode
    open_made = record { number = k; caption = cap.flow; columns = T.cols; groups = groups }

    made : TableNode
    made = roll-TableNode open_made

    made_is : out-TableNode made ≡ open_made
    unfolding made
    made_is = out-roll-TableNode open_made

    abbrev inner_entries : Entries
    inner_entries = caption_outline cap.flow ++ (columns T.cols ∷ groups_outline groups)

    outline_is : outline made ≡ entries.table k ∷ (inner_entries ++ entries.table_end ∷ [])
    unfolding made
    outline_is = table_made k cap.flow T.cols groups
        ∙ ap (λ (es : Entries). entries.table k ∷ es) (sym (append_assoc (caption_outline cap.flow)
        (columns T.cols ∷ groups_outline groups)
        (entries.table_end ∷ [])))

    columns_stand : (l : ℕ) → StandFor l (grammar.columns T.cols ∷ []) (columns T.cols ∷ []) l
    columns_stand l = record {
      sharp = λ later sharp. refl;
      same = λ later sharp. ap (λ (ms : Marks). columns T.cols ∷ (paragraph_of (atoms_of ms) ++ entries_after l later)) sharp;
    }

    body_stands : StandFor (k + 1) body inner_entries rest.next
    body_stands = stand_append (k + 1) cap.next rest.next cap.ms (grammar.columns T.cols ∷ part_marks rows rest.ms)
        (caption_outline cap.flow)
        (columns T.cols ∷ groups_outline groups) cap.stand
        (stand_append cap.next cap.next rest.next (grammar.columns T.cols ∷ []) (part_marks rows rest.ms) (columns T.cols ∷ [])
        (groups_outline groups)
        (columns_stand cap.next) (parts_stand rows rest.items rest.ms rest.nodes cap.next rest.next rest.begun rest.stand))

    stands : (later : Marks) → entries_after k (marks ++ later) ≡ outline made ++ entries_of rest.next later
    stands later =
        ap (λ (ms : Marks). entries.table k ∷ (paragraph_of (atoms_of (leading ms)) ++ entries_after (k + 1) ms))
        (append_assoc body (grammar.table_ends ∷ []) later)
        ∙ ap (λ (ms : Marks). entries.table k ∷ (paragraph_of (atoms_of ms) ++ entries_after (k + 1)
        (body ++ (grammar.table_ends ∷ later))))
        (body_stands.sharp (grammar.table_ends ∷ later) refl)
        ∙ ap (λ (es : Entries). entries.table k ∷ es) (body_stands.same (grammar.table_ends ∷ later) refl
        ∙ sym (append_assoc inner_entries (entries.table_end ∷ []) (entries_of rest.next later)))
        ∙ ap (λ (es : Entries). es ++ entries_of rest.next later) (sym outline_is)

    -- ---- the grid

    abbrev up : TableCell → Place
    up c = raised down (place_of c)

    abbrev placed_rows : List (List Place)
    placed_rows = map (map up) rows

    map_twice : (cells : List TableCell) → map up cells ≡ map (raised down) (map place_of cells)
    map_twice [] = refl
    map_twice (c ∷ cells) = ap (λ (ps : List Place). up c ∷ ps) (map_twice cells)

    placed_joined : joined placed_rows ≡ places
    placed_joined = joined_map up rows ∙ ap (map up) by_rows.1 ∙ map_twice below

    rows_up : (y : ℕ) (rs : List (List TableCell)) → InRows (y + down) rs →
        AreRows cols high places places_grid y (map (map up) rs)
    rows_up y [] level = tt
    rows_up y (cells ∷ rs) level = (
      one cells level.0,
      rows_up (y + 1) rs (subst (λ n. InRows n rs) (let same : y + down + 1 ≡ y + 1 + down = omega arith in same) level.1),
    )
      where
        one : (cs : List TableCell) → InRow (y + down) cs → AllByRecursion (λ (p : Place). p.top ≡ y) (map up cs)
        one [] all = tt
        one (c ∷ cs) all = (omega (arith, all.0), one cs all.1)

    span_up : (c : TableCell) → down ≤ (place_of c).top → (place_of c).top < (place_of c).bottom →
        span_at (place_of c) ≡ span_at (up c)
    span_up c low high =
        let same : (place_of c).bottom - (place_of c).top ≡ (up c).bottom - (up c).top = omega arith in
        λ i. record { colspan = (place_of c).right - (place_of c).left; rowspan = same i }

    spans_up : (rs : List (List TableCell)) → AllByRecursion
        (AllByRecursion (λ c. (down ≤ (place_of c).top) × ((place_of c).top < (place_of c).bottom))) rs →
        map (map (λ c. span_at (place_of c))) rs ≡ map (map span_at) (map (map up) rs)
    spans_up [] all = refl
    spans_up (cells ∷ rs) all =
        ap (λ (ss : List SpanOf). ss ∷ map (map (λ c. span_at (place_of c))) rs) (one cells all.0)
        ∙ ap (λ (sss : List (List SpanOf)). map span_at (map up cells) ∷ sss) (spans_up rs all.1)
      where
        one : (cs : List TableCell) → AllByRecursion (λ c. (down ≤ (place_of c).top) × ((place_of c).top < (place_of c).bottom))
            cs →
            map (λ c. span_at (place_of c)) cs ≡ map span_at (map up cs)
        one [] each = refl
        one (c ∷ cs) each =
            ap (λ (s : SpanOf). s ∷ map (λ d. span_at (place_of d)) cs) (span_up c each.0.0 each.0.1)
            ∙ ap (λ (ss : List SpanOf). span_at (up c) ∷ ss) (one cs each.1)

    low_high : (c : TableCell) → Contains below c → (down ≤ (place_of c).top) × ((place_of c).top < (place_of c).bottom)
    low_high c there =
        let under = under_caption c there in
        (under.0, omega (arith, under.0, under.1.2))

    lowers_back : (cells : List TableCell) → AllByRecursion (λ c. (down ≤ (place_of c).top) ×
        ((place_of c).top < (place_of c).bottom)) cells →
        map place_of cells ≡ map (lowered down) (map (raised down) (map place_of cells))
    lowers_back [] all = refl
    lowers_back (c ∷ cells) all =
        ap (λ (p : Place). p ∷ map place_of cells) (sym (lowered_raised down (place_of c) all.0.0
        (omega (arith, all.0.0, all.0.1))))
        ∙ ap (λ (ps : List Place). lowered down (raised down (place_of c)) ∷ ps) (lowers_back cells all.1)

    abbrev new_grid : Grid
    new_grid = record { cols = cols; rows = high; places = places }

    few_places : length places ≤ MAX_CELLS
    few_places =
        let a : length places ≡ length (map place_of below) = length-map (map place_of below) (raised down) in
        let b : length (map place_of below) ≡ length below = length-map below place_of in
        omega (arith, spelt.few_cells)

    no_column : (n : ℕ) → count_below (λ x. false) n ≡ 0
    no_column zero = refl
    no_column (suc n) = let before : count_below (λ x. false) n ≡ 0 = no_column n in omega arith

    -- a table without rows has no column with a cell
    grid_of : (rs : List (List TableCell)) (nodes : List (List CellNode)) → rows ≡ rs →
        map (map span_of) nodes ≡ map (map (λ c. span_at (place_of c))) rs →
        HasGrid (let s : Shape = record { columns = T.cols; groups = map group_shape (groups_of rs nodes) } in s) new_grid
    grid_of [] nodes is spans =
        let none : places ≡ [] = sym placed_joined ∙ ap (λ (r : List (List TableCell)). joined (map (map up) r)) is in
        let no_rows : high ≡ 0 = sym by_rows.2 ∙ ap length is in
        let no_columns : cols ≡ 0 = by_columns cols refl none in
        let empty : Grid = record { cols = 0; rows = 0; places = [] } in
        let same : new_grid ≡ empty = λ i. record { cols = no_columns i; rows = no_rows i; places = none i } in
        subst (HasGrid (record { columns = T.cols; groups = [] })) (sym same) (record {
          few_cells = omega arith;
          no_overlap = λ x y. omega arith;
          few_columns = omega (arith, no_column T.cols);
          few_rows = omega arith;
          columns = sym (no_column T.cols);
          rows = refl;
          places = record { as_many = refl; each = tt };
        })
      where
        by_columns : (n : ℕ) → cols ≡ n → places ≡ [] → cols ≡ 0
        by_columns zero is' none = is'
        by_columns (suc n) is' none = absurd (
            let any = places_columns 0 (omega arith) in
            let long : length places ≡ 0 = ap length none in
            omega (arith, any.2))
    grid_of (cells ∷ rs) nodes is spans =
        let many : high ≡ suc (length rs) = sym by_rows.2 ∙ ap length is in
        let any = places_rows 0 (omega arith) in
        let lies : IsPlaced cols high any.1 = subst (IsPlaced cols high) any.3
        (places_grid.placed any.0 any.1 any.2) in
        let wide : cols ≡ T.cols = omega (arith, wide_is, few_captions, lies.0, lies.1) in
        let placed : List (List Place) = map (map up) (cells ∷ rs) in
        let again : HasGrid (shape_on cols high places places_grid placed) new_grid =
        grid_again cols high places places_grid places_columns places_rows placed
        (ap (λ (r : List (List TableCell)). joined (map (map up) r)) (sym is) ∙ placed_joined)
        (rows_up 0 (cells ∷ rs) (subst (λ n. InRows n (cells ∷ rs)) (let same : down ≡ 0 + down = omega arith in same)
        (subst (InRows down) is by_rows.3)))
        (length-map (cells ∷ rs) (map up) ∙ sym many)
        few_columns few_rows few_places in
        let open_group : OpenGroup = record { part = parts.Loose; rows = nodes } in
        let shapes : map (map span_of) nodes ≡ map (map span_at) placed = spans ∙ spans_up (cells ∷ rs)
        (subst (AllByRecursion (AllByRecursion (λ c. (down ≤ (place_of c).top) × ((place_of c).top < (place_of c).bottom)))) is
        (all_below (λ c. (down ≤ (place_of c).top) × ((place_of c).top < (place_of c).bottom)) low_high)) in
        let group : group_shape (group_of nodes) ≡ (let s : ShapeGroup =
        record { foot = false; rows = map (map span_of) nodes } in s) =
        ap (λ (g : OpenGroup). let s : ShapeGroup = record { foot = is_foot g.part; rows = map (map span_of) g.rows } in
        s) (out-roll-GroupNode open_group) in
        let shape : (let s : Shape = record { columns = T.cols; groups = group_shape (group_of nodes) ∷ [] } in s) ≡
        (let s : Shape = record {
          columns = cols;
          groups =
              (let g : ShapeGroup = record { foot = false; rows = map (map span_at) placed } in g) ∷ [];
        } in s) =
        ap (λ (g : ShapeGroup). let s : Shape = record { columns = T.cols; groups = g ∷ [] } in s) group
        ∙ ap (λ (ss : List (List SpanOf)). let s : Shape = record {
          columns = T.cols;
          groups =
              (let g : ShapeGroup = record { foot = false; rows = ss } in g) ∷ [];
        } in s) shapes
        ∙ ap (λ n. let s : Shape = record {
          columns = n;
          groups =
              (let g : ShapeGroup = record { foot = false; rows = map (map span_at) placed } in g) ∷ [];
        } in s) (sym wide) in
        subst (λ (s : Shape). HasGrid s new_grid) (sym shape) again

    -- ---- the table

    abbrev open_back : OpenTable
    open_back = record { number = k; cols = T.cols; rows = T.rows; cells = cap.back ++ rest.back }

    back : Table
    back = roll-Table open_back

    back_is : out-Table back ≡ open_back
    unfolding back
    back_is = out-roll-Table open_back

    written_is : (rs : List (List TableCell)) (nodes : List (List CellNode)) (cells : List TableCell) → (rs ≡ [] → nodes ≡ []) →
        BecomeCells forms breaking (joined nodes) cells →
        BecomeCells forms breaking (flat_map (λ group. cells_of_group (out-GroupNode group)) (groups_of rs nodes)) cells
    written_is [] nodes cells none become = subst (λ (ns : List (List CellNode)). BecomeCells forms breaking (joined ns) cells)
        (none refl) become
    written_is (r ∷ rs) nodes cells none become =
        let open_group : OpenGroup = record { part = parts.Loose; rows = nodes } in
        subst (λ (ns : List CellNode). BecomeCells forms breaking ns cells)
        (sym (append-nil (cells_of_group (out-GroupNode (group_of nodes))) ∙ ap (λ (g : OpenGroup). cells_of_group g)
        (out-roll-GroupNode open_group))) become

    -- the one group is no `thead`
    marks_are_none : (rs : List (List TableCell)) (nodes : List (List CellNode)) → (rs ≡ [] → nodes ≡ []) →
        flat_map no_marks nodes ≡ marks_of_groups (groups_of rs nodes)
    marks_are_none [] nodes none = ap (λ (ns : List (List CellNode)). flat_map no_marks ns) (none refl)
    marks_are_none (r ∷ rs) nodes none =
        let open_group : OpenGroup = record { part = parts.Loose; rows = nodes } in
        sym (append-nil (marks_of_group (out-GroupNode (group_of nodes))) ∙ ap (λ (g : OpenGroup). marks_of_group g)
        (out-roll-GroupNode open_group))

    no_nodes : (rs : List (List TableCell)) (items : List Item) (ms : Marks) (nodes : List (List CellNode)) →
        HasRows rs items ms nodes → rs ≡ [] → nodes ≡ []
    no_nodes [] items ms nodes begun is = begun.2
    no_nodes (r ∷ rs) items ms nodes begun is = absurd (cc)

    places_back : map place_of (cap.back ++ rest.back) ≡ places_of T
    places_back =
        map-append place_of cap.back rest.back
        ∙ ap (λ (ps : List Place). ps ++ map place_of rest.back) cap.places
        ∙ ap (λ (ps : List Place). map place_of spelt.caption ++ ps) (rest.places ∙ ap (map place_of) by_rows.1)
        ∙ sym (table_rows.places_split breaking sound_inside spellable T sound spelt)

    become : BecomesBy forms breaking open_made open_back
    become = record {
      number = refl;
      grid = new_grid;
      has_grid = grid_of rows rest.nodes refl rest.spans;
      cols = wide_is ∙ ap (max cols) (sym cap.rows);
      rows = high_is ∙ ap (λ n. high + n) (sym cap.rows);
      caption = cap.back;
      captioned = cap.become;
      written = rest.back;
      cells = written_is rows rest.nodes rest.back (no_nodes rows rest.items rest.ms rest.nodes rest.begun) rest.become;
      marked = rest.marked ∙ marks_are_none rows rest.nodes (no_nodes rows rest.items rest.ms rest.nodes rest.begun);
      places = rest.places ∙ ap (map place_of) by_rows.1
          ∙ lowers_back below (recursion_from_All (λ c. (down ≤ (place_of c).top) × ((place_of c).top < (place_of c).bottom))
          below
          (All-from_Contains (λ c. (down ≤ (place_of c).top) × ((place_of c).top < (place_of c).bottom)) below low_high))
          ∙ ap (λ n. map (lowered n) places) (sym cap.rows);
      same = IsPermutation-refl (cap.back ++ rest.back);
      in_order = subst (AllPairs ComesBefore) (sym places_back) sound.in_order;
    }

    abbrev SameCells : TableCell → TableCell → Type 0
    SameCells one twin = AreAlikeCell alike (out-TableCell one) (out-TableCell twin)

    same : AreAlikeBy alike T open_back
    same = record {
      cols = refl;
      rows = refl;
      cells = subst (λ (cs : List TableCell). AllZip SameCells cs (cap.back ++ rest.back))
          (ap (λ (cs : List TableCell). spelt.caption ++ cs) by_rows.1 ∙ sym spelt.split)
          (AllZip-append SameCells spelt.caption (joined rows) cap.back rest.back cap.same rest.same);
    }

    -- the table is read back
    pub table_again : TableBack (λ n t. BecomesBy forms breaking (out-TableNode n) (out-Table t))
        (λ a b. AreAlikeBy alike (out-Table a) (out-Table b)) table layout k
    table_again = record {
      prefix = prefix;
      are = (
        (page_tags.table_start, (refl, tt)),
        AllByRecursion-append IsItem cap.items (columns_items L.widths ++ rest.items) cap.are
            (AllByRecursion-append IsItem (columns_items L.widths) rest.items (columns_are L.widths) rest.are),
      );
      written = page_is;
      ms = marks;
      reads = reads;
      next = rest.next;
      node = made;
      sharp = λ later. refl;
      stand = stands;
      back = back;
      become = subst (λ (n : OpenNode). BecomesBy forms breaking n (out-Table back)) (sym made_is)
          (subst (λ (t : OpenTable). BecomesBy forms breaking open_made t) (sym back_is) become);
      same = subst (λ (t : OpenTable). AreAlikeBy alike T t) (sym back_is) same;
    }
