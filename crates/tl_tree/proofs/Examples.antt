-- The definitions, run on small documents.
--
--   <table><caption>A</caption>            <table><tr>                 <table><caption>A</caption>
--   <tr><td>b<br>c<table></table>d         <tbody><tr></tbody>         <col span=3></table>
--   </table>                               <tr><tr></table>
--
--   a table with a caption and a row       loose rows, a group         a table of three columns
--   of one cell, in which another stands   and more loose rows
use Rattle.std.proofs.Common.{◌≡◌, false, Some, List, [], ◌∷◌, ◌++◌, codes, sum_by, refl, ap, ◌∙◌, lit<}
use Rattle.std.proofs.Common.{None}
use lib.Utf8.{encode}
use Rattle.tl_base.specs.declared.limits.TheConstants.{MAX_DEPTH}
use Rattle.tl_token.specs.declared.token.Element.TheVariants as elements
use Rattle.tl_token.specs.declared.token.Spans.{Spans}
use Rattle.tl_token.specs.declared.token.Token.{Token}
use Rattle.tl_token.specs.declared.token.TokenKind.TheVariants.{Start, End, Text}
use Rattle.tl_text.specs.declared.paragraph.Atom.TheVariants.{Word, Break}
use Rattle.tl_tree.specs.Tags.{Kinds, tbody, text, table_start, table_end, caption_start, caption_end, col, group_start}
use Rattle.tl_tree.specs.Tags.{group_end, row_start, cell_start, br}
use Rattle.tl_tree.specs.Tags.{p_or_div, class_of}
use Rattle.tl_tree.specs.Grammar as grammar
use Rattle.tl_tree.specs.Grammar.{Marks, DocumentTokens, colgroup_columns, no_outer, no_space, by_tag, left_out, no_columns}
use Rattle.tl_tree.specs.Grammar.{lone_col}
use Rattle.tl_tree.specs.Grammar.{no_flow, words, break, nested}
use Rattle.tl_tree.specs.Grammar.{no_caption, no_cell, no_row, no_part, loose_rows, character, line_break, paragraph_ends}
use Rattle.tl_tree.specs.Paragraphs.{entries_of}
use Rattle.tl_tree.specs.Outline.{Entries, table, caption, columns, group, row, cell, paragraph, table_end}
use Rattle.tl_tree.specs.Sound.{table_count, IsNumberedFrom, IsNestedBelow, entry_size}
use Rattle.tl_tree.specs.Spelling.{SpellsTree, AreNoDocument}
use Rattle.tl_tree.specs.declared.error.TreeError.TheVariants.{NoTable, StrayText, Misplaced, Unclosed}
use Rattle.tl_tree.specs.declared.node.Block.{roll-Block}
use Rattle.tl_tree.specs.declared.node.Block.TheOpen as parts
use Rattle.tl_tree.specs.declared.node.Part.TheVariants.{Loose, Body}
use Rattle.tl_tree.specs.declared.node.TableNode.{TableNode, roll-TableNode}
use Rattle.tl_tree.proofs.Outlines.{paragraph_made, table_made}
use Rattle.tl_tree.proofs.Verdicts.{first_refused}

abbrev one : Spans
one = record { colspan = 1; rowspan = 1; span = 1; least = 0; align = None }

-- ---- a caption, and a table in a cell

abbrev captioned : Kinds
captioned = table_start ∷ caption_start ∷ text (codes "A") ∷ caption_end ∷ row_start ∷ cell_start false one ∷ text
    (codes "b") ∷ br ∷ text (codes "c")
    ∷ table_start ∷ table_end ∷ text (codes "d") ∷ table_end ∷ []

abbrev captioned_marks : Marks
captioned_marks = grammar.table_begins ∷ grammar.caption_begins ∷ character 65 ∷ paragraph_ends ∷ grammar.columns
    0 ∷ grammar.group_begins Loose
    ∷ grammar.row_begins ∷ grammar.cell_begins false one ∷ character 98 ∷ line_break ∷ character 99
    ∷ grammar.table_begins ∷ grammar.columns 0 ∷ grammar.table_ends ∷ character 100 ∷ paragraph_ends ∷ grammar.table_ends ∷ []

abbrev captioned_entries : Entries
captioned_entries = table 0 ∷ caption ∷ paragraph (Word (codes "A") ∷ []) ∷ columns 0 ∷ group Loose ∷ row ∷ cell false 1 1 0 None
    ∷ paragraph (Word (codes "b") ∷ Break ∷ Word (codes "c") ∷ [])
    ∷ table 1 ∷ columns 0 ∷ table_end ∷ paragraph (Word (codes "d") ∷ []) ∷ table_end ∷ []

captioned_document : DocumentTokens captioned captioned_marks
captioned_document = record {
  before = captioned;
  after = [];
  led = no_outer;
  whole =
      let inner = grammar.table no_space no_caption no_columns no_part in
      let flow = words (break (words (nested inner (words no_flow)))) in
      let rows = grammar.row no_space (grammar.cell flow (left_out refl) no_cell) (left_out refl) (no_row refl) in
      grammar.table no_space (grammar.caption (words no_flow) (by_tag no_space)) no_columns (loose_rows rows no_part);
  followed = no_outer;
}

captioned_outline : entries_of 0 captioned_marks ≡ captioned_entries
captioned_outline = refl

two_tables : table_count captioned_entries ≡ 2
two_tables = refl

numbered : IsNumberedFrom 0 captioned_entries
numbered = (refl, (refl, tt))

shallow : IsNestedBelow MAX_DEPTH 0 captioned_entries
shallow = (lit< tt, (lit< tt, tt))

-- two tables, a row, a cell, four letters and a break
size : sum_by entry_size captioned_entries ≡ 9
unfolding encode
size = refl

-- ---- loose rows around a group

abbrev grouped : Kinds
grouped = table_start ∷ row_start ∷ group_start tbody ∷ row_start ∷ group_end tbody ∷ row_start ∷ row_start ∷ table_end ∷ []

abbrev grouped_marks : Marks
grouped_marks = grammar.table_begins ∷ grammar.columns 0 ∷ grammar.group_begins
    Loose ∷ grammar.row_begins ∷ grammar.group_begins Body ∷ grammar.row_begins
    ∷ grammar.group_begins Loose ∷ grammar.row_begins ∷ grammar.row_begins ∷ grammar.table_ends ∷ []

grouped_document : DocumentTokens grouped grouped_marks
grouped_document = record {
  before = grouped;
  after = [];
  led = no_outer;
  whole =
      let two = grammar.row no_space no_cell (left_out refl) (grammar.row no_space no_cell (left_out refl) (no_row refl)) in
      let inner = grammar.row no_space no_cell (left_out refl) (no_row refl) in
      let first = grammar.row no_space no_cell (left_out refl) (no_row refl) in
      grammar.table no_space no_caption no_columns
      (loose_rows first (grammar.group {section = tbody} no_space inner (by_tag no_space) (loose_rows two no_part)));
  followed = no_outer;
}

grouped_outline : entries_of 0 grouped_marks ≡ table 0 ∷ columns 0 ∷ group Loose ∷ row ∷ group Body ∷ row ∷ group
    Loose ∷ row ∷ row ∷ table_end ∷ []
grouped_outline = refl

-- ---- columns, and a tree that tokens spell

own_span : colgroup_columns 5 [] ≡ 5
own_span = refl

spans_of_cols : colgroup_columns 5 (2 ∷ 1 ∷ []) ≡ 3
spans_of_cols = refl

abbrev of_three : Spans
of_three = record { colspan = 1; rowspan = 1; span = 3; least = 0; align = None }

abbrev narrow_tokens : List Token
narrow_tokens = record { kind = Start elements.Table one; first = 0; past = 7 } ∷ record {
  kind =
      Start elements.Caption one;
  first = 7;
  past = 16;
}
    ∷ record { kind = Text (codes "A"); first = 16; past = 17 } ∷ record { kind = End elements.Caption; first = 17; past = 27 }
    ∷ record { kind = Start elements.Col of_three; first = 27; past = 39 } ∷ record {
      kind = End elements.Table;
      first =
          39;
      past = 47;
    } ∷ []

abbrev narrow_tree : TableNode
narrow_tree = roll-TableNode (record {
  number = 0;
  caption =
      Some (roll-Block (parts.Para (Word (codes "A") ∷ [])) ∷ []);
  columns = 3;
  groups = [];
})

narrow_spelt : SpellsTree narrow_tokens narrow_tree
narrow_spelt = record {
  marks = grammar.table_begins ∷ grammar.caption_begins ∷ character 65 ∷ paragraph_ends ∷ grammar.columns
      3 ∷ grammar.table_ends ∷ [];
  document = record {
    before = table_start ∷ caption_start ∷ text (codes "A") ∷ caption_end ∷ col 3 ∷ table_end ∷ [];
    after = [];
    led = no_outer;
    whole = grammar.table no_space (grammar.caption (words no_flow) (by_tag no_space)) (lone_col no_space no_columns) no_part;
    followed = no_outer;
  };
  same =
      table_made 0 (Some (roll-Block (parts.Para (Word (codes "A") ∷ [])) ∷ [])) 3 []
      ∙ ap (λ es. table 0 ∷ caption ∷ ((es ++ []) ++ (columns 3 ∷ table_end ∷ []))) (paragraph_made (Word (codes "A") ∷ []));
}

-- ---- paragraphs

abbrev flow_entries : Marks → Entries
flow_entries ms = entries_of 1 ms

-- white space parts words, and a break stands where it is
breaks_stand : flow_entries (line_break ∷ character 97 ∷ character 32 ∷ character 98 ∷ line_break ∷ [])
    ≡ paragraph (Break ∷ Word (codes "a") ∷ Word (codes "b") ∷ Break ∷ []) ∷ []
breaks_stand = refl

-- `<p>` and `</p>` end a paragraph, and one without an atom is none
ends : class_of (End elements.P) ≡ p_or_div
ends = refl

two_paragraphs : flow_entries (character 97 ∷ paragraph_ends ∷ character 32 ∷ paragraph_ends ∷ character 98 ∷ [])
    ≡ paragraph (Word (codes "a") ∷ []) ∷ paragraph (Word (codes "b") ∷ []) ∷ []
two_paragraphs = refl

-- a nested table ends a paragraph, and tables are numbered as they begin
around_tables : flow_entries (character 97 ∷ grammar.table_begins ∷ grammar.columns 0 ∷ grammar.group_begins
    Loose ∷ grammar.row_begins
    ∷ grammar.cell_begins false one ∷ grammar.table_begins ∷ grammar.columns
    0 ∷ grammar.table_ends ∷ paragraph_ends ∷ grammar.table_ends ∷ character 98 ∷ [])
    ≡ paragraph (Word (codes "a") ∷ []) ∷ table 1 ∷ columns 0 ∷ group Loose ∷ row ∷ cell false 1 1 0 None ∷ table 2 ∷ columns
    0 ∷ table_end ∷ table_end
    ∷ paragraph (Word (codes "b") ∷ []) ∷ []
around_tables = refl

-- ---- refusals

no_table : AreNoDocument (text (codes " ") ∷ []) NoTable
no_table = first_refused (text (codes " ") ∷ []) NoTable refl

unclosed : AreNoDocument (table_start ∷ row_start ∷ []) Unclosed
unclosed = first_refused (table_start ∷ row_start ∷ []) Unclosed refl

stray_text : AreNoDocument (table_start ∷ text (codes "x") ∷ table_end ∷ []) (StrayText 1)
stray_text = first_refused (table_start ∷ text (codes "x") ∷ table_end ∷ []) (StrayText 1) refl

cell_outside_row : AreNoDocument (table_start ∷ cell_start false one ∷ []) (Misplaced 1)
cell_outside_row = first_refused (table_start ∷ cell_start false one ∷ []) (Misplaced 1) refl

second_caption : AreNoDocument (table_start ∷ caption_start ∷ caption_end ∷ caption_start ∷ []) (Misplaced 3)
second_caption = first_refused (table_start ∷ caption_start ∷ caption_end ∷ caption_start ∷ []) (Misplaced 3) refl

caption_after_row : AreNoDocument (table_start ∷ row_start ∷ caption_start ∷ []) (Misplaced 2)
caption_after_row = first_refused (table_start ∷ row_start ∷ caption_start ∷ []) (Misplaced 2) refl
