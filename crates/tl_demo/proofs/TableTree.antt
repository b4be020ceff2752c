-- The tokens of a table as a tree: rows of cells, each with one paragraph.
use Rattle.std.proofs.Common.{◌≡◌, ℕ, zero, suc, ◌<◌, ◌≤◌, true, false, List, [], ◌∷◌, ◌++◌, map, length, codes, None}
use Rattle.std.proofs.Common.{refl, sym, ap, ◌∙◌, subst, arith, append_assoc, append-nil}
use Rattle.std.specs.List.{AllByRecursion, flat_map}
use Rattle.std.proofs.lemmas.Bool.{lt-ltb, cond-true}
use Rattle.std.proofs.lemmas.List.{length-replicate}
use Rattle.tl_text.specs.declared.paragraph.Atom.{Atom}
use Rattle.tl_text.specs.declared.paragraph.Atom.TheVariants.{Word}
use Rattle.tl_text.specs.Words.{has_character, words_of}
use Rattle.tl_text.proofs.WordLemmas.{words_from, words_from-start, words_from-letter, words_from-white, words_from-end}
use Rattle.tl_token.specs.declared.token.Token.{Token}
use Rattle.tl_tree.specs.Grammar.{Marks, Cells, Rows, DocumentTokens, character, no_flow, no_cell, no_row, no_space, no_caption}
use Rattle.tl_tree.specs.Grammar.{no_columns, no_part}
use Rattle.tl_tree.specs.Grammar.{left_out, loose_rows, no_outer}
use Rattle.tl_tree.specs.Grammar as grammar
use Rattle.tl_tree.specs.Outline.{Entries, cell, row, group, columns, paragraph, cell_outline, group_outline, outline}
use Rattle.tl_tree.specs.Outline as entries
use Rattle.tl_tree.specs.Paragraphs.{leading, first_text, after_breaks, atoms_of, paragraph_of, entries_after, entries_of}
use Rattle.tl_tree.specs.Spelling.{SpellsTree, FitLimits, IsWithinLimits}
use Rattle.tl_tree.specs.Tags.{Kinds, class_of, kinds, is_white, is_row_start, begins_with, table_start, table_end, row_start}
use Rattle.tl_tree.specs.Tags.{cell_start}
use Rattle.tl_tree.specs.declared.node.Block.{roll-Block}
use Rattle.tl_tree.specs.declared.node.Block.TheOpen as open_block
use Rattle.tl_tree.specs.declared.node.CellNode.{CellNode, roll-CellNode}
use Rattle.tl_tree.specs.declared.node.GroupNode.{roll-GroupNode}
use Rattle.tl_tree.specs.declared.node.Part.TheVariants as parts
use Rattle.tl_tree.specs.declared.node.TableNode.{TableNode, roll-TableNode}
use Rattle.tl_tree.proofs.Outlines.{paragraph_made, cell_made, group_made, table_made}
use Rattle.tl_tree.proofs.Adds.{after-text}
use Rattle.tl_tree.specs.Outline.{row_outline}
use Rattle.tl_html.proofs.ReadsBack.{kinds_are as each_kind}
use Rattle.tl_table.specs.Formed.{OpenNode, OpenGroup, OpenCellNode}
use Rattle.tl_html.proofs.Items.{Item, item_kinds, text_kinds, kind_of}
use Rattle.tl_html.proofs.PageTags.{numbers}
use Rattle.tl_html.proofs.PageWords.{grammar_kinds, kinds_cons, text_goes, ends_sharp, IsSharp}
use Rattle.tl_demo.specs.Demo.{DemoCell, word_text, words_text}
use Rattle.tl_demo.proofs.DrawnRows.{IsWordLength, IsDrawnCell, IsDrawnRow}
use Rattle.tl_demo.proofs.TableItems.{cell_item, row_item, row_items, last_item, table_items}

-- ---- what the tokens are to the grammar

-- a start tag and a text for each cell, and then the rest
abbrev pub cells_kinds : List DemoCell → Kinds → Kinds
cells_kinds [] later = later
cells_kinds (c ∷ cells) later =
    cell_start false (numbers c.colspan 1 0) ∷ (map class_of (text_kinds (words_text c.words)) ++ cells_kinds cells later)

abbrev pub rows_kinds : List (List DemoCell) → Kinds → Kinds
rows_kinds [] later = later
rows_kinds (cells ∷ rows) later = row_start ∷ cells_kinds cells (rows_kinds rows later)

abbrev pub table_kinds : List (List DemoCell) → Kinds
table_kinds rows = table_start ∷ rows_kinds rows (table_end ∷ [])

cells_kinds_are : (cells : List DemoCell) (items : List Item) → grammar_kinds (map cell_item cells ++ items) ≡ cells_kinds cells
    (grammar_kinds items)
cells_kinds_are [] items = refl
cells_kinds_are (c ∷ cells) items =
    kinds_cons (cell_item c) (map cell_item cells ++ items)
    ∙ ap (λ (ks : Kinds). map class_of (item_kinds (cell_item c)) ++ ks) (cells_kinds_are cells items)

rows_kinds_are : (rows : List (List DemoCell)) (items : List Item) →
    grammar_kinds (flat_map row_items rows ++ items) ≡ rows_kinds rows (grammar_kinds items)
rows_kinds_are [] items = refl
rows_kinds_are (cells ∷ rows) items =
    ap (λ (xs : List Item). grammar_kinds (row_item ∷ xs)) (append_assoc (map cell_item cells) (flat_map row_items rows) items)
    ∙ ap (λ (ks : Kinds). row_start ∷ ks) (cells_kinds_are cells (flat_map row_items rows ++ items)
    ∙ ap (cells_kinds cells) (rows_kinds_are rows items))

-- what the tokens of a table are to the grammar
pub table_kinds_are : (rows : List (List DemoCell)) → grammar_kinds (table_items rows) ≡ table_kinds rows
table_kinds_are rows = ap (λ (ks : Kinds). table_start ∷ ks) (rows_kinds_are rows (last_item ∷ []))

-- ---- the grammar

-- a cell, its characters and the end of its paragraph, and then the rest
abbrev cells_marks : List DemoCell → Marks → Marks
cells_marks [] later = later
cells_marks (c ∷ cells) later =
    grammar.cell_begins false (numbers c.colspan 1 0) ∷ (map character
    (words_text c.words) ++ grammar.paragraph_ends ∷ cells_marks cells later)

abbrev rows_marks : List (List DemoCell) → Marks → Marks
rows_marks [] later = later
rows_marks (cells ∷ rows) later = grammar.row_begins ∷ cells_marks cells (rows_marks rows later)

abbrev table_marks : List (List DemoCell) → Marks
table_marks rows =
    grammar.table_begins ∷ grammar.columns 0 ∷ grammar.group_begins parts.Loose ∷ rows_marks rows (grammar.table_ends ∷ [])

-- a tag follows a cell, so its end tag may be left out
cells_tagged : (cells : List DemoCell) (later : Kinds) → begins_with is_white later ≡ false →
    begins_with is_white (cells_kinds cells later) ≡ false
cells_tagged [] later tagged = tagged
cells_tagged (c ∷ cells) later tagged = refl

rows_tagged : (rows : List (List DemoCell)) (later : Kinds) → begins_with is_white later ≡ false →
    begins_with is_white (rows_kinds rows later) ≡ false
rows_tagged [] later tagged = tagged
rows_tagged (cells ∷ rows) later tagged = refl

-- the grammar reads the cells of a row
cells_read : (cells : List DemoCell) (later : Kinds) (m : Marks) → begins_with is_white later ≡ false →
    Cells (cells_kinds cells later) (cells_marks cells m) later m
cells_read [] later m tagged = no_cell
cells_read (c ∷ cells) later m tagged =
    let ks = cells_kinds cells later in
    let ms : Marks = grammar.paragraph_ends ∷ cells_marks cells m in
    grammar.cell (text_goes (words_text c.words) ks ks ms ms no_flow) (left_out (cells_tagged cells later tagged))
    (cells_read cells later m tagged)

-- the grammar reads the rows of a table
rows_read : (rows : List (List DemoCell)) (later : Kinds) (m : Marks) → begins_with is_white later ≡ false →
    begins_with is_row_start later ≡ false →
    Rows (rows_kinds rows later) (rows_marks rows m) later m
rows_read [] later m tagged ended = no_row ended
rows_read (cells ∷ rows) later m tagged ended =
    let begun = rows_tagged rows later tagged in
    grammar.row no_space (cells_read cells (rows_kinds rows later) (rows_marks rows m) begun) (left_out begun)
    (rows_read rows later m tagged ended)

-- the grammar reads the table, which is the whole document
table_read : (rows : List (List DemoCell)) → 0 < length rows → DocumentTokens (table_kinds rows) (table_marks rows)
table_read [] some = absurd (omega (arith, some))
table_read (cells ∷ rows) some = record {
  before = table_kinds (cells ∷ rows);
  after = [];
  led = no_outer;
  whole = grammar.table no_space no_caption no_columns
      (loose_rows (rows_read (cells ∷ rows) (table_end ∷ []) (grammar.table_ends ∷ []) refl refl) no_part);
  followed = no_outer;
}

-- ---- limits

-- a text begins no table
text_within : (depth tables : ℕ) (text : List ℕ) (later : Kinds) → FitLimits depth tables later →
    FitLimits depth tables (map class_of (text_kinds text) ++ later)
text_within depth tables [] later fit = fit
text_within depth tables (c ∷ text) later fit = (tt, fit)

cells_within : (depth tables : ℕ) (cells : List DemoCell) (later : Kinds) → FitLimits depth tables later →
    FitLimits depth tables (cells_kinds cells later)
cells_within depth tables [] later fit = fit
cells_within depth tables (c ∷ cells) later fit =
    (tt, text_within depth tables (words_text c.words) (cells_kinds cells later) (cells_within depth tables cells later fit))

rows_within : (depth tables : ℕ) (rows : List (List DemoCell)) (later : Kinds) → FitLimits depth tables later →
    FitLimits depth tables (rows_kinds rows later)
rows_within depth tables [] later fit = fit
rows_within depth tables (cells ∷ rows) later fit =
    (tt, cells_within depth tables cells (rows_kinds rows later) (rows_within depth tables rows later fit))

-- the one table is within the limits
pub table_within : (rows : List (List DemoCell)) → IsWithinLimits (table_kinds rows)
table_within rows = ((omega arith, omega arith), rows_within 1 1 rows (table_end ∷ []) (tt, tt))

-- ---- the words of a text

-- letters join the open word
words_from-word : (word : List ℕ) (n : ℕ) (rest : List ℕ) → words_from word (word_text n ++ rest) ≡ words_from
    (word ++ word_text n) rest
words_from-word word zero rest = ap (λ (w : List ℕ). words_from w rest) (sym (append-nil word))
words_from-word word (suc n) rest =
    words_from-letter word (word_text n ++ rest) 0x61 refl
    ∙ words_from-word (word ++ 0x61 ∷ []) n rest
    ∙ ap (λ (w : List ℕ). words_from w rest) (append_assoc word (0x61 ∷ []) (word_text n))

-- a word has a letter
has_letters : (n : ℕ) → 1 ≤ n → has_character (word_text n) ≡ true
has_letters n some = lt-ltb 0 (length (word_text n)) (omega (arith, some, length-replicate {A = ℕ} n 0x61))

-- a space ends a word
words_spaced : (word : List ℕ) (lengths : List ℕ) → has_character word ≡ true → AllByRecursion IsWordLength lengths →
    words_from word (flat_map (λ n. codes " " ++ word_text n) lengths) ≡ word ∷ map word_text lengths
words_spaced word [] some all = words_from-end word ∙ cond-true (has_character word) (word ∷ []) [] some
words_spaced word (n ∷ lengths) some all =
    let rest = flat_map (λ m. codes " " ++ word_text m) lengths in
    words_from-white word (word_text n ++ rest) 0x20 refl
    ∙ cond-true (has_character word) (word ∷ words_from [] (word_text n ++ rest)) (words_from [] (word_text n ++ rest)) some
    ∙ ap (λ (ws : List (List ℕ)). word ∷ ws) (words_from-word [] n rest
    ∙ words_spaced (word_text n) lengths (has_letters n (all.0).0) all.1)

-- the words of a cell are read back
pub words_are : (lengths : List ℕ) → AllByRecursion IsWordLength lengths → words_of (words_text lengths) ≡ map word_text lengths
words_are [] all = refl
words_are (n ∷ lengths) all =
    let rest = flat_map (λ m. codes " " ++ word_text m) lengths in
    sym (words_from-start (word_text n ++ rest)) ∙ words_from-word [] n rest ∙ words_spaced (word_text n) lengths
    (has_letters n (all.0).0) all.1

-- the paragraph of a cell
abbrev pub paragraph_in : DemoCell → List Atom
paragraph_in c = map Word (map word_text c.words)

-- all characters stand before the first break
first_is : (text : List ℕ) → first_text (map character text) ≡ text
first_is [] = refl
first_is (c ∷ text) = ap (λ (cs : List ℕ). c ∷ cs) (first_is text)

-- as there is none
no_breaks : (text : List ℕ) → after_breaks (map character text) ≡ []
no_breaks [] = refl
no_breaks (c ∷ text) = no_breaks text

-- the characters of a cell come to its paragraph
atoms_are : (c : DemoCell) → AllByRecursion IsWordLength c.words → atoms_of (map character (words_text c.words)) ≡ paragraph_in c
atoms_are c all =
    let text = words_text c.words in
    ap (λ (cs : List ℕ). map Word (words_of cs) ++ after_breaks (map character text)) (first_is text)
    ∙ ap (λ atoms. map Word (words_of text) ++ atoms) (no_breaks text)
    ∙ append-nil (map Word (words_of text))
    ∙ ap (map Word) (words_are c.words all)

-- ---- the tree

-- a cell of the tree by its fields: one paragraph
abbrev pub open_cell_node : DemoCell → OpenCellNode
open_cell_node c = record {
  head = false;
  colspan = c.colspan;
  rowspan = 1;
  least = 0;
  align = None;
  flow = roll-Block (open_block.Para (paragraph_in c)) ∷ [];
}

abbrev pub cell_node : DemoCell → CellNode
cell_node c = roll-CellNode (open_cell_node c)

-- the rows stand directly in the table
abbrev pub open_group_node : List (List DemoCell) → OpenGroup
open_group_node rows = record { part = parts.Loose; rows = map (map cell_node) rows }

abbrev pub open_table_node : List (List DemoCell) → OpenNode
open_table_node rows = record { number = 0; caption = None; columns = 0; groups = roll-GroupNode (open_group_node rows) ∷ [] }

-- the tree of the rows
abbrev pub table_node : List (List DemoCell) → TableNode
table_node rows = roll-TableNode (open_table_node rows)

-- a cell is followed by its paragraph
cell_outlined : (c : DemoCell) → cell_outline (cell_node c) ≡ cell false c.colspan 1 0 None ∷ paragraph (paragraph_in c) ∷ []
cell_outlined c =
    cell_made (open_cell_node c) ∙ ap (λ (es : Entries). cell false c.colspan 1 0 None ∷ (es ++ [])) (paragraph_made (paragraph_in c))

-- ---- its outline is that of the marks

-- the characters up to the end of the paragraph
text_leads : (text : List ℕ) (later : Marks) → leading (map character text ++ grammar.paragraph_ends ∷ later) ≡ map character text
text_leads [] later = refl
text_leads (c ∷ text) later = ap (λ (ms : Marks). character c ∷ ms) (text_leads text later)

-- a cell has words, so it has a paragraph
one_paragraph : (c : DemoCell) → 1 ≤ length c.words → paragraph_of (paragraph_in c) ≡ paragraph (paragraph_in c) ∷ []
one_paragraph c some = by_words c.words some
  where
    by_words : (lengths : List ℕ) → 1 ≤ length lengths → paragraph_of (map Word (map word_text lengths)) ≡ paragraph
        (map Word (map word_text lengths)) ∷ []
    by_words [] none = absurd (omega (arith, none))
    by_words (n ∷ lengths) more = refl

-- no character stands before a cell
cells_sharp : (cells : List DemoCell) (later : Marks) → IsSharp later → IsSharp (cells_marks cells later)
cells_sharp [] later sharp = sharp
cells_sharp (c ∷ cells) later sharp = refl

rows_sharp : (rows : List (List DemoCell)) (later : Marks) → IsSharp later → IsSharp (rows_marks rows later)
rows_sharp [] later sharp = sharp
rows_sharp (cells ∷ rows) later sharp = refl

-- the marks of the cells become their outlines
cells_entries : (k : ℕ) (cells : List DemoCell) (later : Marks) → IsSharp later → AllByRecursion IsDrawnCell cells →
    entries_after k (cells_marks cells later) ≡ flat_map cell_outline (map cell_node cells) ++ entries_after k later
cells_entries k [] later sharp all = refl
cells_entries k (c ∷ cells) later sharp all =
    let text = words_text c.words in
    let ms = cells_marks cells later in
    let start : Entries → Entries = λ es. cell false c.colspan 1 0 None ∷ es in
    ap (λ (m : Marks). start (paragraph_of (atoms_of m) ++ entries_after k (map character text ++ grammar.paragraph_ends ∷ ms)))
    (text_leads text ms)
    ∙ ap (λ (l : List Atom). start (paragraph_of l ++ entries_after k (map character text ++ grammar.paragraph_ends ∷ ms)))
    (atoms_are c (all.0).words)
    ∙ ap (λ (es : Entries). start (es ++ entries_after k (map character text ++ grammar.paragraph_ends ∷ ms)))
    (one_paragraph c (all.0).some)
    ∙ ap (λ (es : Entries). start (paragraph (paragraph_in c) ∷ es)) (after-text k text (grammar.paragraph_ends ∷ ms)
    ∙ ends_sharp k ms (cells_sharp cells later sharp) ∙ cells_entries k cells later sharp all.1)
    ∙ ap (λ (es : Entries). es ++ (flat_map cell_outline (map cell_node cells) ++ entries_after k later)) (sym (cell_outlined c))
    ∙ sym (append_assoc (cell_outline (cell_node c)) (flat_map cell_outline (map cell_node cells)) (entries_after k later))

-- the marks of the rows become their outlines
rows_entries : (k : ℕ) (rows : List (List DemoCell)) (later : Marks) → IsSharp later → AllByRecursion IsDrawnRow rows →
    entries_after k (rows_marks rows later) ≡ flat_map row_outline (map (map cell_node) rows) ++ entries_after k later
rows_entries k [] later sharp all = refl
rows_entries k (cells ∷ rows) later sharp all =
    let ms = rows_marks rows later in
    let here = cells_sharp cells ms (rows_sharp rows later sharp) in
    ap (λ (m : Marks). row ∷ (paragraph_of (atoms_of m) ++ entries_after k (cells_marks cells ms))) here
    ∙ ap (λ (es : Entries). row ∷ es) (cells_entries k cells ms (rows_sharp rows later sharp) (all.0).each
    ∙ ap (λ (es : Entries). flat_map cell_outline (map cell_node cells) ++ es) (rows_entries k rows later sharp all.1)
    ∙ sym (append_assoc (flat_map cell_outline (map cell_node cells)) (flat_map row_outline (map (map cell_node) rows))
    (entries_after k later)))

-- what stands in the tree
outline_is : (rows : List (List DemoCell)) → outline (table_node rows)
    ≡ entries.table 0 ∷ columns 0 ∷ group parts.Loose ∷ (flat_map row_outline
    (map (map cell_node) rows) ++ entries.table_end ∷ [])
outline_is rows =
    table_made 0 None 0 (roll-GroupNode (open_group_node rows) ∷ [])
    ∙ ap (λ (es : Entries). entries.table 0 ∷ columns 0 ∷ (es ++ entries.table_end ∷ []))
    (append-nil (group_outline (roll-GroupNode (open_group_node rows))) ∙ group_made (open_group_node rows))

-- the outline of the tree is that of the marks
table_outlined : (rows : List (List DemoCell)) → AllByRecursion IsDrawnRow rows →
    outline (table_node rows) ≡ entries_of 0 (table_marks rows)
table_outlined rows all =
    let ms = rows_marks rows (grammar.table_ends ∷ []) in
    let before : Entries → Entries = λ es. entries.table 0 ∷ columns 0 ∷ group parts.Loose ∷ es in
    outline_is rows
    ∙ ap before (sym (rows_entries 1 rows (grammar.table_ends ∷ []) refl all))
    ∙ ap (λ (m : Marks). before (paragraph_of (atoms_of m) ++ entries_after 1 ms))
    (sym (rows_sharp rows (grammar.table_ends ∷ []) refl))

-- the tokens spell the tree
pub table_spelt : (tokens : List Token) (rows : List (List DemoCell)) → kinds tokens ≡ table_kinds rows → 0 < length rows →
    AllByRecursion IsDrawnRow rows →
    SpellsTree tokens (table_node rows)
table_spelt tokens rows read some all = record {
  marks = table_marks rows;
  document = subst (λ (ks : Kinds). DocumentTokens ks (table_marks rows)) (sym read) (table_read rows some);
  same = table_outlined rows all;
}

-- the tokens of items are what these are to the grammar
pub kinds_are : (tokens : List Token) (items : List Item) → map kind_of tokens ≡ flat_map item_kinds items →
    kinds tokens ≡ grammar_kinds items
kinds_are tokens items is = each_kind tokens ∙ ap (map class_of) is

-- ---- what stands in the tree, one after the other

-- a cell and its paragraph, and then the rest
abbrev pub cells_listed : List DemoCell → Entries → Entries
cells_listed [] later = later
cells_listed (c ∷ cells) later = cell false c.colspan 1 0 None ∷ paragraph (paragraph_in c) ∷ cells_listed cells later

abbrev pub rows_listed : List (List DemoCell) → Entries → Entries
rows_listed [] later = later
rows_listed (cells ∷ rows) later = row ∷ cells_listed cells (rows_listed rows later)

cells_in_list : (cells : List DemoCell) (later : Entries) → flat_map cell_outline
    (map cell_node cells) ++ later ≡ cells_listed cells later
cells_in_list [] later = refl
cells_in_list (c ∷ cells) later =
    append_assoc (cell_outline (cell_node c)) (flat_map cell_outline (map cell_node cells)) later
    ∙ ap (λ (es : Entries). es ++ (flat_map cell_outline (map cell_node cells) ++ later)) (cell_outlined c)
    ∙ ap (λ (es : Entries). cell false c.colspan 1 0 None ∷ paragraph (paragraph_in c) ∷ es) (cells_in_list cells later)

rows_in_list : (rows : List (List DemoCell)) (later : Entries) →
    flat_map row_outline (map (map cell_node) rows) ++ later ≡ rows_listed rows later
rows_in_list [] later = refl
rows_in_list (cells ∷ rows) later =
    ap (λ (es : Entries). row ∷ es) (append_assoc (flat_map cell_outline (map cell_node cells))
    (flat_map row_outline (map (map cell_node) rows)) later
    ∙ cells_in_list cells (flat_map row_outline (map (map cell_node) rows) ++ later)
    ∙ ap (cells_listed cells) (rows_in_list rows later))

-- the outline of the tree as one list
pub table_listed : (rows : List (List DemoCell)) →
    outline (table_node rows) ≡ entries.table 0 ∷ columns 0 ∷ group parts.Loose ∷ rows_listed rows (entries.table_end ∷ [])
table_listed rows =
    outline_is rows ∙ ap (λ (es : Entries). entries.table 0 ∷ columns 0 ∷ group parts.Loose ∷ es)
    (rows_in_list rows (entries.table_end ∷ []))
