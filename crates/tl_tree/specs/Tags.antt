-- What the tokens of a table file are to the grammar of documents.
use Rattle.std.specs.Prelude.{ℕ, Bool, true, false, List, [], ◌∷◌, map}
use Rattle.std.specs.List.{list_all}
use Rattle.tl_token.specs.Characters.{is_space}
use Rattle.tl_token.specs.declared.token.Element.{Element}
use Rattle.tl_token.specs.declared.token.Element.TheVariants.{Table, Caption, Colgroup, Col, Thead, Tbody, Tfoot, Tr, Td, Th, Br}
use Rattle.tl_token.specs.declared.token.Element.TheVariants.{P, Div, Inline, Outer}
use Rattle.tl_token.specs.declared.token.Spans.{Spans}
use Rattle.tl_token.specs.declared.token.Token.{Token}
use Rattle.tl_token.specs.declared.token.TokenKind.{TokenKind}
use Rattle.tl_token.specs.declared.token.TokenKind.TheVariants.{Start, End, Text}
use Rattle.tl_tree.specs.declared.node.Part.{Part}
use Rattle.tl_tree.specs.declared.node.Part.TheVariants.{Head, Body, Foot}

-- the elements of a group of rows
pub data Section : Type 0 where
  thead : Section
  tbody : Section
  tfoot : Section

-- which part of the table a group of that element is
abbrev pub part_of : Section → Part
part_of thead = Head
part_of tbody = Body
part_of tfoot = Foot

-- what a token is to the grammar
pub data Kind : Type 0 where
  text : List ℕ → Kind
  table_start : Kind
  table_end : Kind
  caption_start : Kind
  caption_end : Kind
  -- with its span
  colgroup_start : ℕ → Kind
  colgroup_end : Kind
  -- with its span
  col : ℕ → Kind
  group_start : Section → Kind
  group_end : Section → Kind
  row_start : Kind
  row_end : Kind
  -- `th`, if true, and `td`
  cell_start : Bool → Spans → Kind
  cell_end : Bool → Kind
  br : Kind
  -- a start or an end tag of `p` or `div`
  p_or_div : Kind
  inline_tag : Kind
  outer_tag : Kind
  -- the end tags of `br` and `col`, which stand nowhere
  lone_end : Kind

-- what tokens are to the grammar, in their order
abbrev pub Kinds : Type 0
Kinds = List Kind

-- what a start tag of that element is, with those numbers
abbrev pub kind_of_start : Element → Spans → Kind
kind_of_start Table spans = table_start
kind_of_start Caption spans = caption_start
kind_of_start Colgroup spans = colgroup_start spans.span
kind_of_start Col spans = col spans.span
kind_of_start Thead spans = group_start thead
kind_of_start Tbody spans = group_start tbody
kind_of_start Tfoot spans = group_start tfoot
kind_of_start Tr spans = row_start
kind_of_start Td spans = cell_start false spans
kind_of_start Th spans = cell_start true spans
kind_of_start Br spans = br
kind_of_start P spans = p_or_div
kind_of_start Div spans = p_or_div
kind_of_start Inline spans = inline_tag
kind_of_start Outer spans = outer_tag

-- what an end tag of that element is
abbrev pub kind_of_end : Element → Kind
kind_of_end Table = table_end
kind_of_end Caption = caption_end
kind_of_end Colgroup = colgroup_end
kind_of_end Col = lone_end
kind_of_end Thead = group_end thead
kind_of_end Tbody = group_end tbody
kind_of_end Tfoot = group_end tfoot
kind_of_end Tr = row_end
kind_of_end Td = cell_end false
kind_of_end Th = cell_end true
kind_of_end Br = lone_end
kind_of_end P = p_or_div
kind_of_end Div = p_or_div
kind_of_end Inline = inline_tag
kind_of_end Outer = outer_tag

-- what a start tag, an end tag or a text is
abbrev pub class_of : TokenKind → Kind
class_of (Start element spans) = kind_of_start element spans
class_of (End element) = kind_of_end element
class_of (Text characters) = text characters

-- what a token is, wherever in the file it stands
abbrev pub kind_of : Token → Kind
kind_of token = class_of token.kind

-- what each of the tokens is
abbrev pub kinds : List Token → Kinds
kinds tokens = map kind_of tokens

-- a text of white space alone
abbrev pub is_white : Kind → Bool
is_white (text characters) = list_all is_space characters
is_white _ = false

-- a text, of whatever characters
abbrev pub is_text : Kind → Bool
is_text (text characters) = true
is_text _ = false

-- the start tag of a table
abbrev pub is_table_start : Kind → Bool
is_table_start table_start = true
is_table_start _ = false

-- the start tag of a row
abbrev pub is_row_start : Kind → Bool
is_row_start row_start = true
is_row_start _ = false

-- a `col` tag
abbrev pub is_col : Kind → Bool
is_col (col span) = true
is_col _ = false

-- the first of the tokens is such a one
abbrev pub begins_with : (Kind → Bool) → Kinds → Bool
begins_with test [] = false
begins_with test (k ∷ ks) = test k
