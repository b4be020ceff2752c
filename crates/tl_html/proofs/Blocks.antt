-- The blocks of a cell on a page, and the same blocks read back: a paragraph, or a table that was read back before.
use Rattle.std.proofs.Common.{◌≡◌, ℕ, true, List, [], ◌∷◌, ◌++◌, map, refl, sym, ap, ◌∙◌, subst, append_assoc, codes}
use Rattle.std.specs.List.{AllZip, AllByRecursion, flat_map}
use Rattle.std.proofs.lemmas.List.Concat.{flat_map-append}
use Rattle.std.proofs.lemmas.List.Elements.{recursion_from_All}
use Rattle.std.specs.declared.boxed.Box.{Box}
use Rattle.std.specs.declared.alloc.Global.{Global}
use Rattle.tl_base.specs.declared.breaking.Breaking.{Breaking}
use Rattle.tl_base.specs.declared.breaking.Breaking.TheVariants.{Words, Wider}
use Rattle.tl_base.proofs.Members.{AllByRecursion-append}
use Rattle.tl_token.specs.Elements.{no_spans}
use Rattle.tl_token.specs.declared.token.Element.TheVariants as elements
use Rattle.tl_text.specs.declared.paragraph.Atom.{Atom}
use Rattle.tl_text.specs.Paragraph.{IsSpeltAtom}
use Rattle.tl_tree.specs.Grammar.{Marks, character, nested, words}
use Rattle.tl_tree.specs.Grammar as grammar
use Rattle.tl_tree.specs.Outline.{Entries, block_outline, outline, blocks_outline}
use Rattle.tl_tree.specs.Paragraphs.{atoms_of, paragraph_of, entries_after, entries_of}
use Rattle.tl_tree.specs.Sound.{IsPlainAtom, IsPlainParagraph}
use Rattle.tl_tree.specs.Tags.{Kinds, table_end, text}
use Rattle.tl_tree.specs.declared.node.Block.{Block, out-Block, roll-Block, out-roll-Block}
use Rattle.tl_tree.specs.declared.node.Block.TheOpen as open_block
use Rattle.tl_tree.specs.declared.node.TableNode.{TableNode}
use Rattle.tl_tree.proofs.Outlines.{paragraph_made, nested_made}
use Rattle.tl_table.specs.declared.cell.Content.{Content, out-Content, roll-Content, out-roll-Content, fold_out-Content}
use Rattle.tl_table.specs.declared.cell.Content.{map-Content}
use Rattle.tl_table.specs.declared.cell.Content.TheOpen as open_content
use Rattle.tl_table.specs.declared.cell.Table.{Table}
use Rattle.tl_table.specs.declared.cell.TableCell.{TableCell}
use Rattle.tl_table.specs.declared.layout.Layout.{Layout}
use Rattle.tl_table.specs.Tables.{OpenContent, tables_of}
use Rattle.tl_table.specs.Formed.{OpenBlock, BecomesContent, BecomeContents, broken}
use Rattle.tl_table.specs.Same.{AreSameContent}
use Rattle.tl_html.specs.Html.{paragraph_html, HtmlFlow, HtmlCell, blocks_html, block_page, table_page, cell_page, flow_of}
use Rattle.tl_html.specs.Html.{cell_of}
use Rattle.tl_html.specs.Html.{html_of}
use Rattle.tl_html.specs.Html as html
use Rattle.tl_table.specs.Spellable.{AreSpellableBlocks, IsSpellableBlock}
use Rattle.tl_html.proofs.Items.{Item, item_text, items_text, IsItem}
use Rattle.tl_html.proofs.PageTags as page_tags
use Rattle.tl_html.proofs.PageWords.{paragraph_items, paragraph_written, pieces_items, paragraph_is_items, paragraph_marks}
use Rattle.tl_html.proofs.PageWords.{paragraph_goes, paragraph_stands}
use Rattle.tl_html.proofs.PageWords.{GoesOn, goes_append, grammar_kinds, kinds_append, IsSharp, StandFor, NoGlue}

-- ---- a block's text, by what the block is

abbrev open_flow : OpenContent → List Layout → HtmlFlow
open_flow (open_content.Para units) inner = record { text = paragraph_html units; rest = inner }
open_flow (open_content.Table box) [] = record { text = []; rest = [] }
open_flow (open_content.Table box) (layout ∷ inner) = record { text = html_of box.value layout; rest = inner }

flow_of-out : (block : Content) (inner : List Layout) → flow_of block inner ≡ open_flow (out-Content block) inner
flow_of-out block inner =
    ap (λ (flow : html.Block). flow inner) (fold_out-Content html.Block (Layout →
    List ℕ) HtmlCell block_page table_page cell_page block)
    ∙ opened (out-Content block) inner
  where
    opened : (content : OpenContent) (layouts : List Layout) →
        block_page (map-Content Content Table TableCell html.Block (Layout → List ℕ) HtmlCell flow_of html_of cell_of content)
        layouts ≡ open_flow content layouts
    opened (open_content.Para units) layouts = refl
    opened (open_content.Table box) [] = refl
    opened (open_content.Table box) (layout ∷ layouts) = refl

-- marks one after the other stand for their entries one after the other
pub stand_append : (k l m : ℕ) (ms ns : Marks) (es fs : Entries) → StandFor k ms es l → StandFor l ns fs m →
    StandFor k (ms ++ ns) (es ++ fs) m
stand_append k l m ms ns es fs one two = record {
  sharp = λ later sharp. subst IsSharp (sym (append_assoc ms ns later)) (one.sharp (ns ++ later) (two.sharp later sharp));
  same = λ later sharp.
      ap (entries_after k) (append_assoc ms ns later) ∙ one.same (ns ++ later) (two.sharp later sharp)
      ∙ ap (λ (rest : Entries). es ++ rest) (two.same later sharp) ∙ sym (append_assoc es fs (entries_after m later));
}

-- ---- what is read back

-- the last tag of a table, and the line feed after it
abbrev pub last_item : Item
last_item = record { mark = codes "</table>"; is_end = true; element = elements.Table; spans = no_spans; text = 0x0A ∷ [] }

-- A table on a page, and the table that is read back: the tokens up to its last tag are a table of the grammar, whose
-- marks are the outline of a tree that becomes it.
pub record TableBack (forms : TableNode → Table → Type 0) (alike : Table → Table →
    Type 0) (table : Table) (layout : Layout) (k : ℕ) : Type 0 where
  pub prefix : List Item
  pub are : AllByRecursion IsItem prefix
  pub written : html_of table layout ≡ items_text (prefix ++ last_item ∷ [])
  pub ms : Marks
  pub reads : (rest : Kinds) (more : Marks) → grammar.Table (grammar_kinds prefix ++ table_end ∷ rest) (ms ++ more) rest more
  pub next : ℕ
  pub node : TableNode
  pub sharp : (later : Marks) → IsSharp (ms ++ later)
  pub stand : (later : Marks) → entries_after k (ms ++ later) ≡ outline node ++ entries_of next later
  pub back : Table
  pub become : forms node back
  pub same : alike table back

module _ (breaking : Breaking) (forms : TableNode → Table → Type 0) (alike : Table → Table → Type 0) (has : Table → Layout →
    Type 0)
    (inside : (table : Table) (layout : Layout) (k : ℕ) → has table layout → TableBack forms alike table layout k) where
  -- a block
  record BlockBack (block : Content) (inner : List Layout) (others : List Table) (k : ℕ) : Type 0 where
    items : List Item
    are : AllByRecursion IsItem items
    written : (flow_of block inner).text ≡ items_text items
    left : AllZip has others (flow_of block inner).rest
    ms : Marks
    goes : GoesOn (grammar_kinds items) ms
    next : ℕ
    made : Block
    stand : StandFor k ms (block_outline made) next
    back : Content
    becomes : BecomesContent forms breaking (out-Block made) (out-Content back)
    same : AreSameContent alike (out-Content block) (out-Content back)

  -- blocks one after the other; `others` are the tables of the blocks after them
  pub record FlowBack (blocks : List Content) (inner : List Layout) (others : List Table) (k : ℕ) : Type 0 where
    pub items : List Item
    pub are : AllByRecursion IsItem items
    pub written : (blocks_html (map flow_of blocks) inner).text ≡ items_text items
    pub left : AllZip has others (blocks_html (map flow_of blocks) inner).rest
    pub ms : Marks
    pub goes : GoesOn (grammar_kinds items) ms
    pub next : ℕ
    pub flow : List Block
    pub stand : StandFor k ms (blocks_outline flow) next
    pub back : List Content
    pub become : BecomeContents forms breaking flow back
    pub same : AllZip (λ block content. AreSameContent alike (out-Content block) (out-Content content)) blocks back

  no_glue : (atoms : List Atom) → AllByRecursion IsSpeltAtom atoms → AllByRecursion IsPlainAtom atoms →
      AllByRecursion NoGlue atoms
  no_glue [] spelt plain = tt
  no_glue (atom ∷ atoms) spelt plain = ((spelt.0, plain.0), no_glue atoms spelt.1 plain.1)

  -- units of a paragraph are written as its words
  units_written : (b : Breaking) (units atoms : List Atom) → AllByRecursion IsSpeltAtom atoms → units ≡ broken b atoms →
      paragraph_html units ≡ items_text (paragraph_items atoms)
  units_written Words units atoms spelt is = ap paragraph_html is ∙ paragraph_written atoms
  units_written (Wider most) units atoms spelt is =
      ap paragraph_html is ∙ paragraph_written (broken (Wider most) atoms) ∙ ap items_text (pieces_items most atoms spelt)

  para_back : (block : Content) (inner : List Layout) (others : List Table) (k : ℕ) (units atoms : List Atom) →
      out-Content block ≡ open_content.Para units →
      units ≡ broken breaking atoms → IsPlainParagraph atoms → AllZip has others inner → BlockBack block inner others k
  para_back block inner others k units atoms opened is range left =
      let spelt : AllByRecursion IsSpeltAtom atoms = recursion_from_All IsSpeltAtom atoms range.is_paragraph.spelt in
      let flow : flow_of block inner ≡ open_flow (open_content.Para units) inner = flow_of-out block inner
      ∙ ap (λ (c : OpenContent). open_flow c inner) opened in
      let made : Block = roll-Block (open_block.Para atoms) in
      let open_made : out-Block made ≡ open_block.Para atoms = out-roll-Block (open_block.Para atoms) in
      record {
        items = paragraph_items atoms;
        are = paragraph_is_items atoms range.plain;
        written = ap (λ (f : HtmlFlow). f.text) flow ∙ units_written breaking units atoms spelt is;
        left = subst (λ (f : HtmlFlow). AllZip has others f.rest) (sym flow) left;
        ms = paragraph_marks atoms;
        goes = paragraph_goes atoms;
        next = k;
        made = made;
        stand = subst (λ (es : Entries). StandFor k (paragraph_marks atoms) es k) (sym (paragraph_made atoms))
            (paragraph_stands k atoms range.is_paragraph.has_atom (no_glue atoms spelt range.plain));
        back = block;
        becomes = subst (λ (o : OpenBlock). BecomesContent forms breaking o (out-Content block)) (sym open_made)
            (subst (λ (c : OpenContent). BecomesContent forms breaking (open_block.Para atoms) c) (sym opened) is);
        same = subst (λ (c : OpenContent). AreSameContent alike c c) (sym opened) refl;
      }

  nothing_there : atoms_of (character 0x0A ∷ []) ≡ []
  nothing_there = refl

  -- a line feed after a table is no paragraph
  feed_passed : (k : ℕ) (later : Marks) → IsSharp later → entries_of k (character 0x0A ∷ later) ≡ entries_after k later
  feed_passed k later sharp =
      ap (λ (ms : Marks). paragraph_of (atoms_of (character 0x0A ∷ ms)) ++ entries_after k later) sharp
      ∙ ap (λ (atoms : List Atom). paragraph_of atoms ++ entries_after k later) nothing_there

  nested_back : (block : Content) (layout : Layout) (inner : List Layout) (others : List Table) (k : ℕ)
      (box : Box Table Global) →
      out-Content block ≡ open_content.Table box → has box.value layout →
      AllZip has others inner → BlockBack block (layout ∷ inner) others k
  nested_back block layout inner others k box opened fits left =
      let t = inside box.value layout k fits in
      let flow : flow_of block (layout ∷ inner) ≡ open_flow (open_content.Table box) (layout ∷ inner) =
      flow_of-out block (layout ∷ inner) ∙ ap (λ (c : OpenContent). open_flow c (layout ∷ inner)) opened in
      let nbox' : Box TableNode Global = record { ptr = box.ptr; alloc = box.alloc; value = t.node } in
      let box' : Box Table Global = record box { value = t.back } in
      let made : Block = roll-Block (open_block.Table nbox') in
      let back : Content = roll-Content (open_content.Table box') in
      let feed : Marks = character 0x0A ∷ [] in
      record {
        items = t.prefix ++ last_item ∷ [];
        are = AllByRecursion-append IsItem t.prefix (last_item ∷ []) t.are ((page_tags.table_end, (refl, tt)), tt);
        written = ap (λ (f : HtmlFlow). f.text) flow ∙ t.written;
        left = subst (λ (f : HtmlFlow). AllZip has others f.rest) (sym flow) left;
        ms = t.ms ++ feed;
        goes = λ k1 rest m1 more flows.
            subst (λ (ks : Kinds). grammar.Flow (ks ++ k1) ((t.ms ++ feed) ++ m1) rest more)
            (sym (kinds_append t.prefix (last_item ∷ [])))
            (subst (λ (ks : Kinds). grammar.Flow ks ((t.ms ++ feed) ++ m1) rest more)
            (sym (append_assoc (grammar_kinds t.prefix) (table_end ∷ text (0x0A ∷ []) ∷ []) k1))
            (subst (λ (ms : Marks). grammar.Flow (grammar_kinds t.prefix ++ (table_end ∷ text (0x0A ∷ []) ∷ k1)) ms rest more)
            (sym (append_assoc t.ms feed m1))
            (nested (t.reads (text (0x0A ∷ []) ∷ k1) (character 0x0A ∷ m1)) (words flows))));
        next = t.next;
        made = made;
        stand = record {
          sharp = λ later sharp. subst IsSharp (sym (append_assoc t.ms feed later)) (t.sharp (character 0x0A ∷ later));
          same = λ later sharp.
              ap (entries_after k) (append_assoc t.ms feed later) ∙ t.stand (character 0x0A ∷ later)
              ∙ ap (λ (es : Entries). outline t.node ++ es) (feed_passed t.next later sharp)
              ∙ ap (λ (es : Entries). es ++ entries_after t.next later) (sym (nested_made nbox'));
        };
        back = back;
        becomes = subst (λ (o : OpenBlock). BecomesContent forms breaking o (out-Content back))
            (sym (out-roll-Block (open_block.Table nbox')))
            (subst (λ (c : OpenContent). BecomesContent forms breaking (open_block.Table nbox') c)
            (sym (out-roll-Content (open_content.Table box'))) t.become);
        same = subst (λ (c : OpenContent). AreSameContent alike c (out-Content back)) (sym opened)
            (subst (λ (c : OpenContent). AreSameContent alike (open_content.Table box) c)
            (sym (out-roll-Content (open_content.Table box'))) t.same);
      }

  block_back : (d : OpenContent) (block : Content) (inner : List Layout) (others : List Table) (k : ℕ) →
      out-Content block ≡ d →
      IsSpellableBlock breaking d → AllZip has (tables_of d ++ others) inner → BlockBack block inner others k
  block_back (open_content.Para units) block inner others k opened spelt fits =
      para_back block inner others k units spelt.0 opened spelt.2 spelt.1 fits
  block_back (open_content.Table box) block [] others k opened spelt fits = absurd fits
  block_back (open_content.Table box) block (layout ∷ inner) others k opened spelt fits =
      nested_back block layout inner others k box opened fits.0 fits.1

  abbrev pub tables_among : List Content → List Table
  tables_among blocks = flat_map (λ block. tables_of (out-Content block)) blocks

  pub flow_back : (blocks : List Content) (inner : List Layout) (others : List Table) (k : ℕ) →
      AreSpellableBlocks breaking blocks → AllZip has (tables_among blocks ++ others) inner →
      FlowBack blocks inner others k
  flow_back [] inner others k spelt fits = record {
    items = [];
    are = tt;
    written = refl;
    left = fits;
    ms = [];
    goes = λ k1 rest m1 more flows. flows;
    next = k;
    flow = [];
    stand = record { sharp = λ later sharp. sharp; same = λ later sharp. refl };
    back = [];
    become = tt;
    same = tt;
  }
  flow_back (block ∷ blocks) inner others k spelt fits =
      let one = block_back (out-Content block) block inner (tables_among blocks ++ others) k refl spelt.0
      (subst (λ (tables : List Table). AllZip has tables inner)
      (append_assoc (tables_of (out-Content block)) (tables_among blocks) others) fits) in
      let rest = flow_back blocks (flow_of block inner).rest others one.next spelt.1 one.left in
      record {
        items = one.items ++ rest.items;
        are = AllByRecursion-append IsItem one.items rest.items one.are rest.are;
        written = ap (λ (cs : List ℕ). cs ++ (blocks_html (map flow_of blocks) (flow_of block inner).rest).text) one.written
            ∙ ap (λ (cs : List ℕ). items_text one.items ++ cs) rest.written
            ∙ sym (flat_map-append item_text one.items rest.items);
        left = rest.left;
        ms = one.ms ++ rest.ms;
        goes = subst (λ (ks : Kinds). GoesOn ks (one.ms ++ rest.ms)) (sym (kinds_append one.items rest.items))
            (goes_append (grammar_kinds one.items) (grammar_kinds rest.items) one.ms rest.ms one.goes rest.goes);
        next = rest.next;
        flow = one.made ∷ rest.flow;
        stand = stand_append k one.next rest.next one.ms rest.ms (block_outline one.made) (blocks_outline rest.flow)
            one.stand rest.stand;
        back = one.back ∷ rest.back;
        become = (one.becomes, rest.become);
        same = (one.same, rest.same);
      }
