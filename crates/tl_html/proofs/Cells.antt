-- The cells of a row and the rows of a table on a page, and the same read back.
use Rattle.std.proofs.Common.{◌≡◌, ℕ, ◌-◌, ◌<◌, ◌≤◌, Bool, true, false, List, [], ◌∷◌, ◌++◌, map, refl, sym, ap, ◌∙◌, subst}
use Rattle.std.proofs.Common.{append_assoc, append-nil}
use Rattle.std.proofs.Common.{codes, arith}
use Rattle.std.proofs.Common.{None}
use Rattle.std.specs.List.{AllZip, AllByRecursion, flat_map}
use Rattle.std.proofs.lemmas.List.{map-append}
use Rattle.std.proofs.lemmas.List.Concat.{flat_map-append}
use Rattle.tl_base.specs.declared.breaking.Breaking.{Breaking}
use Rattle.tl_base.specs.declared.limits.TheConstants.{MAX_COLSPAN, MAX_ROWSPAN, MAX_PAGE_WIDTH}
use Rattle.tl_base.proofs.Zips.{AllZip-append}
use Rattle.tl_base.proofs.Members.{AllByRecursion-append}
use Rattle.tl_tree.specs.Outline.{blocks_outline, Entries, cell, row, cell_outline, cells_outline}
use Rattle.tl_grid.specs.declared.shape.Place.{Place}
use Rattle.tl_grid.specs.declared.shape.SpanOf.{SpanOf}
use Rattle.tl_token.specs.Elements.{no_spans}
use Rattle.tl_token.specs.declared.token.Element.{Element}
use Rattle.tl_token.specs.declared.token.Element.TheVariants as elements
use Rattle.tl_tree.specs.Grammar.{Marks, Cells, Rows, no_flow, no_cell, no_space, space, by_tag}
use Rattle.tl_tree.specs.Grammar as grammar
use Rattle.tl_tree.specs.Paragraphs.{leading, atoms_of, paragraph_of, entries_after}
use Rattle.tl_tree.specs.Tags.{Kinds, cell_start, cell_end, row_start, row_end, text}
use Rattle.tl_tree.specs.declared.node.CellNode.{CellNode, out-CellNode, roll-CellNode, out-roll-CellNode}
use Rattle.tl_tree.specs.declared.node.TableNode.{TableNode}
use Rattle.tl_tree.proofs.Outlines.{cell_made}
use Rattle.tl_table.specs.declared.cell.Kind.{Kind}
use Rattle.tl_table.specs.declared.cell.Table.{Table}
use Rattle.tl_table.specs.declared.cell.TableCell.{TableCell, out-TableCell, roll-TableCell, out-roll-TableCell}
use Rattle.tl_table.specs.declared.cell.TableCell.{fold_out-TableCell}
use Rattle.tl_table.specs.declared.layout.Layout.{Layout}
use Rattle.tl_table.specs.Tables.{OpenCell, tables_in, is_in_head}
use Rattle.tl_table.specs.Formed.{OpenCellNode, BecomesCell, BecomeCells, header_kind, span_of}
use Rattle.tl_table.specs.Sound.{place_of}
use Rattle.tl_table.proofs.SoundNodes.{rows_outline}
use Rattle.tl_html.specs.Alike.{AreAlikeCell}
use Rattle.tl_html.specs.declared.filled.Filled.{Filled}
use Rattle.tl_html.specs.Html.{HtmlCell, fill, blocks_html, block_page, table_page, cell_page, flow_of, cell_of, cell_html}
use Rattle.tl_html.specs.Html.{is_caption, line}
use Rattle.tl_html.specs.Html as html
use Rattle.tl_table.specs.Spellable.{AreSpellableBlocks}
use Rattle.tl_html.proofs.Items.{Item, item_text, items_text, IsItem}
use Rattle.tl_html.proofs.PageTags.{numbers, attributes_text, plain_start, head_start, plain_end, head_end}
use Rattle.tl_html.proofs.PageTags as page_tags
use Rattle.tl_html.proofs.PageWords.{grammar_kinds, kinds_append, StandFor, GoesOn, ends_sharp}
use Rattle.tl_html.proofs.GridAgain.{span_at}
use Rattle.tl_html.proofs.Blocks.{TableBack, flow_back, stand_append}

-- ---- the items of a cell

abbrev name_of : Bool → List ℕ
name_of true = codes "th"
name_of false = codes "td"

abbrev element_of : Bool → Element
element_of true = elements.Th
element_of false = elements.Td

abbrev start_item : Bool → ℕ → ℕ → ℕ → Item
start_item head colspan rowspan least = record {
  mark = 0x3C ∷ (name_of head ++ (attributes_text colspan rowspan least ++ 0x3E ∷ []));
  is_end = false;
  element = element_of head;
  spans = numbers colspan rowspan least;
  text = [];
}

abbrev end_item : Bool → Item
end_item head = record {
  mark = 0x3C ∷ 0x2F ∷ (name_of head ++ 0x3E ∷ []);
  is_end = true;
  element = element_of head;
  spans =
      no_spans;
  text = [];
}

end_is : (head : Bool) → IsItem (end_item head)
end_is true = (head_end, tt)
end_is false = (plain_end, tt)

start_is : (head : Bool) (colspan rowspan least : ℕ) → 0 < colspan → colspan ≤ MAX_COLSPAN → 0 < rowspan →
    rowspan ≤ MAX_ROWSPAN → least ≤ MAX_PAGE_WIDTH →
    IsItem (start_item head colspan rowspan least)
start_is true c r l a b d e f = (head_start c r l a b d e f, tt)
start_is false c r l a b d e f = (plain_start c r l a b d e f, tt)

start_kind : (head : Bool) (colspan rowspan least : ℕ) (items : List Item) →
    grammar_kinds (start_item head colspan rowspan least ∷ items) ≡ cell_start head
    (numbers colspan rowspan least) ∷ grammar_kinds items
start_kind true c r l items = refl
start_kind false c r l items = refl

end_kind : (head : Bool) → grammar_kinds (end_item head ∷ []) ≡ cell_end head ∷ []
end_kind true = refl
end_kind false = refl

element_is : (head : Bool) → html.element (header_kind head) ≡ name_of head
element_is true = refl
element_is false = refl

no_caption_kind : (head : Bool) → html.is_caption_kind (header_kind head) ≡ false
no_caption_kind true = refl
no_caption_kind false = refl

regroup : (name attributes flow : List ℕ) →
    ((((0x3C ∷ name) ++ attributes) ++ (0x3E ∷ flow)) ++ (0x3C ∷ 0x2F ∷ name)) ++ (0x3E ∷ []) ≡
    (0x3C ∷ (name ++ (attributes ++ 0x3E ∷ []))) ++ (flow ++ (0x3C ∷ 0x2F ∷ (name ++ 0x3E ∷ [])))
regroup name attributes flow = simp append_assoc

cell_written : (head : Bool) (place : Place) (least : ℕ) (flow : List ℕ) (items : List Item) → flow ≡ items_text items →
    cell_html (record { kind = header_kind head; place = place; least = least; text = flow })
    ≡ items_text (start_item head (place.right - place.left) (place.bottom - place.top) least ∷ (items ++ end_item head ∷ []))
cell_written head place least flow items is =
    let attributes = attributes_text (place.right - place.left) (place.bottom - place.top) least in
    let name = name_of head in
    ap (λ (el : List ℕ). ((((0x3C ∷ el) ++ attributes) ++ (0x3E ∷ flow)) ++ (0x3C ∷ 0x2F ∷ el)) ++ (0x3E ∷ [])) (element_is head)
    ∙ regroup name attributes flow
    ∙ ap (λ (cs : List ℕ). (0x3C ∷ (name ++ (attributes ++ 0x3E ∷ []))) ++ cs) (
    ap (λ (cs : List ℕ). cs ++ (0x3C ∷ 0x2F ∷ (name ++ 0x3E ∷ []))) is
    ∙ ap (λ (cs : List ℕ). items_text items ++ cs) (sym (append-nil (item_text (end_item head)) ∙ append-nil
    (end_item head).mark))
    ∙ sym (flat_map-append item_text items (end_item head ∷ [])))
    ∙ ap (λ (cs : List ℕ). cs ++ items_text (items ++ end_item head ∷ []))
    (sym (append-nil (0x3C ∷ (name ++ (attributes ++ 0x3E ∷ [])))))

-- a row's line
abbrev pub row_line : List Filled → List ℕ
row_line filled = line (codes "<tr>" ++ flat_map cell_html filled ++ codes "</tr>")

abbrev pub joined : {X : Type 0} → List (List X) → List X
joined rows = flat_map (λ r. r) rows

-- there are rows and their tokens begin with one, or there are none
abbrev pub HasRows : List (List TableCell) → List Item → Marks → List (List CellNode) → Type 0
HasRows [] items ms nodes = (items ≡ []) × (ms ≡ []) × (nodes ≡ [])
HasRows (cells ∷ rows) items ms nodes = (ks : Kinds) × (grammar_kinds items ≡ row_start ∷ ks)

-- ---- grammar

abbrev CellsGo : Kinds → Marks → Type 0
CellsGo ks ms = (k1 rest : Kinds) (m1 more : Marks) → Cells k1 m1 rest more → Cells (ks ++ k1) (ms ++ m1) rest more

cells_append : (ks ls : Kinds) (ms ns : Marks) → CellsGo ks ms → CellsGo ls ns → CellsGo (ks ++ ls) (ms ++ ns)
cells_append ks ls ms ns one two k1 rest m1 more cells =
    subst (λ (k : Kinds). Cells k ((ms ++ ns) ++ m1) rest more) (sym (append_assoc ks ls k1))
    (subst (λ (m : Marks). Cells (ks ++ (ls ++ k1)) m rest more) (sym (append_assoc ms ns m1))
    (one (ls ++ k1) rest (ns ++ m1) more (two k1 rest m1 more cells)))

abbrev pub RowsGo : Kinds → Marks → Type 0
RowsGo ks ms = (k1 rest : Kinds) (m1 more : Marks) → Rows k1 m1 rest more → Rows (ks ++ k1) (ms ++ m1) rest more

rows_append : (ks ls : Kinds) (ms ns : Marks) → RowsGo ks ms → RowsGo ls ns → RowsGo (ks ++ ls) (ms ++ ns)
rows_append ks ls ms ns one two k1 rest m1 more rows =
    subst (λ (k : Kinds). Rows k ((ms ++ ns) ++ m1) rest more) (sym (append_assoc ks ls k1))
    (subst (λ (m : Marks). Rows (ks ++ (ls ++ k1)) m rest more) (sym (append_assoc ms ns m1))
    (one (ls ++ k1) rest (ns ++ m1) more (two k1 rest m1 more rows)))

abbrev cell_marks : Bool → ℕ → ℕ → ℕ → Marks → Marks
cell_marks head colspan rowspan least ms = grammar.cell_begins head (numbers colspan rowspan least) ∷
    (ms ++ grammar.paragraph_ends ∷ [])

cell_goes : (head : Bool) (colspan rowspan least : ℕ) (items : List Item) (ms : Marks) → GoesOn (grammar_kinds items) ms →
    CellsGo (grammar_kinds (start_item head colspan rowspan least ∷ (items ++ end_item head ∷ [])))
    (cell_marks head colspan rowspan least ms)
cell_goes head colspan rowspan least items ms goes k1 rest m1 more cells =
    let spans = numbers colspan rowspan least in
    let split : grammar_kinds (start_item head colspan rowspan least ∷ (items ++ end_item head ∷ [])) ++ k1
    ≡ cell_start head spans ∷ (grammar_kinds items ++ (cell_end head ∷ k1)) =
    ap (λ (ks : Kinds). ks ++ k1) (start_kind head colspan rowspan least (items ++ end_item head ∷ []))
    ∙ ap (λ (ks : Kinds). cell_start head spans ∷ (ks ++ k1))
    (kinds_append items (end_item head ∷ []) ∙ ap (λ (ks : Kinds). grammar_kinds items ++ ks) (end_kind head))
    ∙ ap (λ (ks : Kinds). cell_start head spans ∷ ks) (append_assoc (grammar_kinds items) (cell_end head ∷ []) k1) in
    subst (λ (ks : Kinds). Cells ks (cell_marks head colspan rowspan least ms ++ m1) rest more) (sym split)
    (subst (λ (m : Marks). Cells (cell_start head spans ∷ (grammar_kinds items ++ (cell_end head ∷ k1)))
    (grammar.cell_begins head spans ∷ m) rest more)
    (sym (append_assoc ms (grammar.paragraph_ends ∷ []) m1))
    (grammar.cell (goes (cell_end head ∷ k1) (cell_end head ∷ k1) (grammar.paragraph_ends ∷ m1) (grammar.paragraph_ends ∷ m1)
    no_flow)
    (by_tag no_space) cells))

cell_stands : (k next : ℕ) (head : Bool) (colspan rowspan least : ℕ) (ms : Marks) (es : Entries) → StandFor k ms es next →
    StandFor k (cell_marks head colspan rowspan least ms) (cell head colspan rowspan least None ∷ es) next
cell_stands k next head colspan rowspan least ms es stand = record {
  sharp = λ later sharp. refl;
  same = λ later sharp.
      ap (λ (m : Marks). cell head colspan rowspan least None ∷ (paragraph_of (atoms_of (leading m)) ++ entries_after k m))
      (append_assoc ms (grammar.paragraph_ends ∷ []) later)
      ∙ ap (λ (m : Marks). cell head colspan rowspan least None ∷
      (paragraph_of (atoms_of m) ++ entries_after k (ms ++ grammar.paragraph_ends ∷ later)))
      (stand.sharp (grammar.paragraph_ends ∷ later) refl)
      ∙ ap (λ (rest : Entries). cell head colspan rowspan least None ∷ rest) (stand.same (grammar.paragraph_ends ∷ later) refl
      ∙ ap (λ (rest : Entries). es ++ rest) (ends_sharp next later sharp));
}

row_stands : (k next : ℕ) (ms : Marks) (es : Entries) → StandFor k ms es next →
    StandFor k (grammar.row_begins ∷ ms) (row ∷ es) next
row_stands k next ms es stand = record {
  sharp = λ later sharp. refl;
  same = λ later sharp.
      ap (λ (m : Marks). row ∷ (paragraph_of (atoms_of m) ++ entries_after k (ms ++ later))) (stand.sharp later sharp)
      ∙ ap (λ (rest : Entries). row ∷ rest) (stand.same later sharp);
}

-- ---- a cell

pub cell_of-out : (c : TableCell) → let o = out-TableCell c in
    cell_of c ≡ (let made : HtmlCell = record {
      kind = o.kind;
      place = o.place;
      least = o.least;
      flow =
          blocks_html (map flow_of o.blocks);
    } in made)
cell_of-out c = fold_out-TableCell html.Block (Layout → List ℕ) HtmlCell block_page table_page cell_page c

-- none of the cells is of a `thead`
abbrev pub no_marks : List CellNode → List Bool
no_marks nodes = map (λ (node : CellNode). false) nodes

-- a cell below the caption: what it is, how large, and that its paragraphs can be spelt
pub record IsBelow (breaking : Breaking) (c : TableCell) : Type 0 where
  pub head : Bool
  pub kind : (out-TableCell c).kind ≡ header_kind head
  pub narrow : (out-TableCell c).least ≤ MAX_PAGE_WIDTH
  pub words : AreSpellableBlocks breaking (out-TableCell c).blocks
  pub wide : (place_of c).left < (place_of c).right
  pub few_columns : (place_of c).right - (place_of c).left ≤ MAX_COLSPAN
  pub high : (place_of c).top < (place_of c).bottom
  pub few_rows : (place_of c).bottom - (place_of c).top ≤ MAX_ROWSPAN

module _ (breaking : Breaking) (forms : TableNode → Table → Type 0) (alike : Table → Table → Type 0) (has : Table → Layout →
    Type 0)
    (inside : (table : Table) (layout : Layout) (k : ℕ) → has table layout → TableBack forms alike table layout k) where
  pub record CellsBack (cells : List TableCell) (inner : List Layout) (others : List Table) (k : ℕ) : Type 0 where
    pub items : List Item
    pub are : AllByRecursion IsItem items
    pub filled : List Filled
    pub layouts : List Layout
    pub fills : (rest : List TableCell) → fill (map cell_of (cells ++ rest)) inner ≡ filled ++ fill (map cell_of rest) layouts
    pub left : AllZip has others layouts
    pub at : map (λ (f : Filled). f.place) filled ≡ map place_of cells
    pub plain : AllByRecursion (λ f. is_caption f ≡ false) filled
    pub written : flat_map cell_html filled ≡ items_text items
    pub ms : Marks
    pub goes : CellsGo (grammar_kinds items) ms
    pub next : ℕ
    pub nodes : List CellNode
    pub stand : StandFor k ms (cells_outline nodes) next
    pub back : List TableCell
    pub become : BecomeCells forms breaking nodes back
    pub same : AllZip (λ one twin. AreAlikeCell alike (out-TableCell one) (out-TableCell twin)) cells back
    pub marked : map is_in_head back ≡ no_marks nodes
    pub places : map place_of back ≡ map place_of cells
    pub spans : map span_of nodes ≡ map (λ c. span_at (place_of c)) cells

  abbrev pub tables_below : List TableCell → List Table
  tables_below cells = flat_map (λ c. tables_in (out-TableCell c)) cells

  pub cells_back : (cells : List TableCell) (inner : List Layout) (others : List Table) (k : ℕ) →
      AllByRecursion (IsBelow breaking) cells →
      AllZip has (tables_below cells ++ others) inner → CellsBack cells inner others k
  cells_back [] inner others k below fits = record {
    items = [];
    are = tt;
    filled = [];
    layouts = inner;
    fills = λ rest. refl;
    left = fits;
    at = refl;
    plain = tt;
    written = refl;
    ms = [];
    goes = λ k1 rest m1 more cells. cells;
    next = k;
    nodes = [];
    stand = record { sharp = λ later sharp. sharp; same = λ later sharp. refl };
    back = [];
    become = tt;
    same = tt;
    marked = refl;
    places = refl;
    spans = refl;
  }
  cells_back (c ∷ cells) inner others k below fits =
      let o = out-TableCell c in
      let is = below.0 in
      let place = place_of c in
      let colspan = place.right - place.left in
      let rowspan = place.bottom - place.top in
      let flow = flow_back breaking forms alike has inside o.blocks inner (tables_below cells ++ others) k is.words
      (subst (λ (tables : List Table). AllZip has tables inner) (append_assoc (tables_in o) (tables_below cells) others) fits) in
      let found = blocks_html (map flow_of o.blocks) inner in
      let one : Filled = record { kind = o.kind; place = place; least = o.least; text = found.text } in
      let items = start_item is.head colspan rowspan o.least ∷ (flow.items ++ end_item is.head ∷ []) in
      let node' : OpenCellNode = record {
        head = is.head;
        colspan = colspan;
        rowspan = rowspan;
        least = o.least;
        align = None;
        flow =
            flow.flow;
      } in
      let made : CellNode = roll-CellNode node' in
      let twin' : OpenCell = record { kind = o.kind; in_head = false; place = place; least = o.least; align = None; blocks = flow.back } in
      let twin : TableCell = roll-TableCell twin' in
      let open_node : out-CellNode made ≡ node' = out-roll-CellNode node' in
      let open_twin : out-TableCell twin ≡ twin' = out-roll-TableCell twin' in
      let marks = cell_marks is.head colspan rowspan o.least flow.ms in
      let rest = cells_back cells found.rest others flow.next below.1 flow.left in
      record {
        items = items ++ rest.items;
        are = AllByRecursion-append IsItem items rest.items (
          start_is is.head colspan rowspan o.least (omega (arith, is.wide)) is.few_columns (omega (arith, is.high)) is.few_rows
              is.narrow,
          AllByRecursion-append IsItem flow.items (end_item is.head ∷ []) flow.are (end_is is.head, tt),
        )
            rest.are;
        filled = one ∷ rest.filled;
        layouts = rest.layouts;
        fills = λ more.
            ap (λ (h : HtmlCell). fill (h ∷ map cell_of (cells ++ more)) inner) (cell_of-out c)
            ∙ ap (λ (fs : List Filled). one ∷ fs) (rest.fills more);
        left = rest.left;
        at = ap (λ (ps : List Place). place ∷ ps) rest.at;
        plain = (ap html.is_caption_kind is.kind ∙ no_caption_kind is.head, rest.plain);
        written = ap (λ (kind : Kind). cell_html (record {
          kind = kind;
          place = place;
          least = o.least;
          text =
              found.text;
        }) ++ flat_map cell_html rest.filled) is.kind
            ∙ ap (λ (cs : List ℕ). cs ++ flat_map cell_html rest.filled)
            (cell_written is.head place o.least found.text flow.items flow.written)
            ∙ ap (λ (cs : List ℕ). items_text items ++ cs) rest.written
            ∙ sym (flat_map-append item_text items rest.items);
        ms = marks ++ rest.ms;
        goes = subst (λ (ks : Kinds). CellsGo ks (marks ++ rest.ms)) (sym (kinds_append items rest.items))
            (cells_append (grammar_kinds items) (grammar_kinds rest.items) marks rest.ms
            (cell_goes is.head colspan rowspan o.least flow.items flow.ms flow.goes) rest.goes);
        next = rest.next;
        nodes = made ∷ rest.nodes;
        stand = stand_append k flow.next rest.next marks rest.ms (cell_outline made) (cells_outline rest.nodes)
            (subst (λ (es : Entries). StandFor k marks es flow.next) (sym (cell_made node'))
            (cell_stands k flow.next is.head colspan rowspan o.least flow.ms (blocks_outline flow.flow) flow.stand))
            rest.stand;
        back = twin ∷ rest.back;
        become = (
          subst (λ (d : OpenCellNode). BecomesCell forms breaking d (out-TableCell twin)) (sym open_node)
              (subst (λ (d : OpenCell). BecomesCell forms breaking node' d) (sym open_twin)
              (record { kind = is.kind; least = refl; align = refl; blocks = flow.become })),
          rest.become,
        );
        same = (
          subst (λ (d : OpenCell). AreAlikeCell alike o d) (sym open_twin)
              (record { kind = refl; place = refl; least = refl; blocks = flow.same }),
          rest.same,
        );
        marked = ap (λ (d : OpenCell). d.in_head ∷ map is_in_head rest.back) open_twin
            ∙ ap (λ (ms : List Bool). false ∷ ms) rest.marked;
        places = ap (λ (d : OpenCell). d.place ∷ map place_of rest.back) open_twin ∙ ap (λ (ps : List Place). place ∷ ps)
            rest.places;
        spans = ap (λ (d : OpenCellNode). (let s : SpanOf = record { colspan = d.colspan; rowspan = d.rowspan } in
            s) ∷ map span_of rest.nodes) open_node
            ∙ ap (λ (ss : List SpanOf). span_at place ∷ ss) rest.spans;
      }

  -- ---- rows

  abbrev row_start_item : Item
  row_start_item = record { mark = codes "<tr>"; is_end = false; element = elements.Tr; spans = no_spans; text = [] }

  abbrev row_end_item : Item
  row_end_item = record { mark = codes "</tr>"; is_end = true; element = elements.Tr; spans = no_spans; text = 0x0A ∷ [] }

  abbrev row_items : List Item → List Item
  row_items items = row_start_item ∷ (items ++ row_end_item ∷ [])

  row_goes : (items : List Item) (ms : Marks) → CellsGo (grammar_kinds items) ms →
      RowsGo (grammar_kinds (row_items items)) (grammar.row_begins ∷ ms)
  row_goes items ms goes k1 rest m1 more rows =
      let split : grammar_kinds (row_items items) ++ k1 ≡ row_start ∷ (grammar_kinds items ++ (row_end ∷ text (0x0A ∷ []) ∷ k1)) =
      ap (λ (ks : Kinds). row_start ∷ (ks ++ k1)) (kinds_append items (row_end_item ∷ []))
      ∙ ap (λ (ks : Kinds). row_start ∷ ks) (append_assoc (grammar_kinds items) (row_end ∷ text (0x0A ∷ []) ∷ []) k1) in
      subst (λ (ks : Kinds). Rows ks (grammar.row_begins ∷ (ms ++ m1)) rest more) (sym split)
      (grammar.row no_space (goes (row_end ∷ text (0x0A ∷ []) ∷ k1) (row_end ∷ text (0x0A ∷ []) ∷ k1) m1 m1 no_cell)
      (by_tag (space refl no_space)) rows)

  row_written : (filled : List Filled) (items : List Item) → flat_map cell_html filled ≡ items_text items →
      row_line filled ≡ items_text (row_items items)
  row_written filled items is =
      ap (λ (cs : List ℕ). line (codes "<tr>" ++ cs ++ codes "</tr>")) is
      ∙ ap (λ (cs : List ℕ). codes "<tr>" ++ cs) (append_assoc (items_text items) (codes "</tr>") (0x0A ∷ [])
      ∙ sym (flat_map-append item_text items (row_end_item ∷ [])))

  pub record RowsBack (rows : List (List TableCell)) (inner : List Layout) (others : List Table) (k : ℕ) : Type 0 where
    pub items : List Item
    pub are : AllByRecursion IsItem items
    pub filled : List (List Filled)
    pub layouts : List Layout
    pub fills : (rest : List TableCell) → fill (map cell_of (joined rows ++ rest)) inner ≡ joined filled ++ fill
        (map cell_of rest) layouts
    pub left : AllZip has others layouts
    pub at : map (map (λ (f : Filled). f.place)) filled ≡ map (map place_of) rows
    pub plain : AllByRecursion (AllByRecursion (λ f. is_caption f ≡ false)) filled
    pub written : flat_map row_line filled ≡ items_text items
    pub ms : Marks
    pub goes : RowsGo (grammar_kinds items) ms
    pub next : ℕ
    pub nodes : List (List CellNode)
    pub begun : HasRows rows items ms nodes
    pub stand : StandFor k ms (rows_outline nodes) next
    pub back : List TableCell
    pub become : BecomeCells forms breaking (joined nodes) back
    pub same : AllZip (λ one twin. AreAlikeCell alike (out-TableCell one) (out-TableCell twin)) (joined rows) back
    pub marked : map is_in_head back ≡ flat_map no_marks nodes
    pub places : map place_of back ≡ map place_of (joined rows)
    pub spans : map (map span_of) nodes ≡ map (map (λ c. span_at (place_of c))) rows

  pub rows_back : (rows : List (List TableCell)) (inner : List Layout) (others : List Table) (k : ℕ) →
      AllByRecursion (AllByRecursion (IsBelow breaking)) rows →
      AllZip has (tables_below (joined rows) ++ others) inner → RowsBack rows inner others k
  rows_back [] inner others k below fits = record {
    items = [];
    are = tt;
    filled = [];
    layouts = inner;
    fills = λ rest. refl;
    left = fits;
    at = refl;
    plain = tt;
    written = refl;
    ms = [];
    goes = λ k1 rest m1 more rows. rows;
    next = k;
    nodes = [];
    begun = (refl, refl, refl);
    stand = record { sharp = λ later sharp. sharp; same = λ later sharp. refl };
    back = [];
    become = tt;
    same = tt;
    marked = refl;
    places = refl;
    spans = refl;
  }
  rows_back (cells ∷ rows) inner others k below fits =
      let tables : tables_below (cells ++ joined rows) ++ others ≡ tables_below cells ++ (tables_below (joined rows) ++ others) =
      ap (λ (ts : List Table). ts ++ others) (flat_map-append (λ c. tables_in (out-TableCell c)) cells (joined rows))
      ∙ append_assoc (tables_below cells) (tables_below (joined rows)) others in
      let one = cells_back cells inner (tables_below (joined rows) ++ others) k below.0
      (subst (λ (ts : List Table). AllZip has ts inner) tables fits) in
      let rest = rows_back rows one.layouts others one.next below.1 one.left in
      let items = row_items one.items in
      let marks : Marks = grammar.row_begins ∷ one.ms in
      record {
        items = items ++ rest.items;
        are = AllByRecursion-append IsItem items rest.items (
          (page_tags.row_start, tt),
          AllByRecursion-append IsItem one.items (row_end_item ∷ []) one.are
              ((page_tags.row_end, (refl, tt)), tt),
        ) rest.are;
        filled = one.filled ∷ rest.filled;
        layouts = rest.layouts;
        fills = λ more.
            ap (λ (cs : List TableCell). fill (map cell_of cs) inner) (append_assoc cells (joined rows) more)
            ∙ one.fills (joined rows ++ more)
            ∙ ap (λ (fs : List Filled). one.filled ++ fs) (rest.fills more)
            ∙ sym (append_assoc one.filled (joined rest.filled) (fill (map cell_of more) rest.layouts));
        left = rest.left;
        at = ap (λ (ps : List Place). ps ∷ map (map (λ (f : Filled). f.place)) rest.filled) one.at
            ∙ ap (λ (pss : List (List Place)). map place_of cells ∷ pss) rest.at;
        plain = (one.plain, rest.plain);
        written = ap (λ (cs : List ℕ). cs ++ flat_map row_line rest.filled) (row_written one.filled one.items one.written)
            ∙ ap (λ (cs : List ℕ). items_text items ++ cs) rest.written
            ∙ sym (flat_map-append item_text items rest.items);
        ms = marks ++ rest.ms;
        goes = subst (λ (ks : Kinds). RowsGo ks (marks ++ rest.ms)) (sym (kinds_append items rest.items))
            (rows_append (grammar_kinds items) (grammar_kinds rest.items) marks rest.ms (row_goes one.items one.ms one.goes)
            rest.goes);
        next = rest.next;
        nodes = one.nodes ∷ rest.nodes;
        begun = (_, refl);
        stand = stand_append k one.next rest.next marks rest.ms (row ∷ cells_outline one.nodes) (rows_outline rest.nodes)
            (row_stands k one.next one.ms (cells_outline one.nodes) one.stand) rest.stand;
        back = one.back ++ rest.back;
        become = AllZip-append (λ node made. BecomesCell forms breaking (out-CellNode node) (out-TableCell made)) one.nodes
            (joined rest.nodes) one.back rest.back
            one.become rest.become;
        same = AllZip-append (λ c twin. AreAlikeCell alike (out-TableCell c) (out-TableCell twin)) cells (joined rows)
            one.back rest.back one.same rest.same;
        marked = map-append is_in_head one.back rest.back
            ∙ ap (λ (ms : List Bool). ms ++ map is_in_head rest.back) one.marked
            ∙ ap (λ (ms : List Bool). no_marks one.nodes ++ ms) rest.marked;
        places = map-append place_of one.back rest.back ∙ ap (λ (ps : List Place). ps ++ map place_of rest.back) one.places
            ∙ ap (λ (ps : List Place). map place_of cells ++ ps) rest.places ∙ sym (map-append place_of cells (joined rows));
        spans = ap (λ (ss : List SpanOf). ss ∷ map (map span_of) rest.nodes) one.spans
            ∙ ap (λ (sss : List (List SpanOf)). map (λ c. span_at (place_of c)) cells ∷ sss) rest.spans;
      }
