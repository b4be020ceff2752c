-- The elements by their names, and the numbers and the side that their start tags give.
use Rattle.std.specs.Prelude.{ℕ, Bool, ◌||◌, List, [], ◌∷◌, Option, Some, None, option_and_then, map, if◌then◌else◌, codes}
use Rattle.std.specs.Char.{to_ascii_lowercase, is_ascii_lowercase}
use Rattle.std.specs.List.{list_all}
use Rattle.tl_token.specs.Characters.{◌∈◌}
use lib.Pointwise.{pointwise}
use Rattle.std.specs.Prelude.{nat_eq}
use Rattle.tl_token.specs.Numbers.{number_of, columns_spanned, rows_spanned, floor_of}
use Rattle.tl_sides.specs.declared.side.Side.{Side}
use Rattle.tl_sides.specs.declared.side.Side.TheVariants.{Left, Right, Center}
use Rattle.tl_token.specs.declared.token.Element.{Element}
use Rattle.tl_token.specs.declared.token.Element.TheVariants.{Table, Caption, Colgroup, Col, Thead, Tbody, Tfoot, Tr, Td, Th, Br}
use Rattle.tl_token.specs.declared.token.Element.TheVariants.{P, Div, Inline, Outer}
use Rattle.tl_token.specs.declared.token.Spans.{Spans}
use Rattle.tl_token.specs.declared.token.TokenKind.{TokenKind}
use Rattle.tl_token.specs.declared.token.TokenKind.TheVariants.{Start, End}

-- an attribute, by its name as it is written and its value, which is empty where none is written
pub record Attribute : Type 0 where
  pub name : List ℕ
  pub value : List ℕ

-- what a tag is made of
pub record Tag : Type 0 where
  pub is_end : Bool
  pub name : List ℕ
  pub attributes : List Attribute

-- the word is of lowercase letters and dashes
abbrev pub is_lowercase : List ℕ → Bool
is_lowercase word = list_all (λ c. is_ascii_lowercase c || c ∈ "-") word

-- the name is this lowercase word, in any case
abbrev pub is_word : List ℕ → List ℕ → Bool
is_word name word = pointwise nat_eq (map to_ascii_lowercase name) word

-- the name of an element within a line of text
abbrev pub is_inline : List ℕ → Bool
is_inline name =
    is_word name (codes "a") || is_word name (codes "abbr") || is_word name (codes "b")
    || is_word name (codes "cite") || is_word name (codes "code") || is_word name (codes "em")
    || is_word name (codes "i") || is_word name (codes "kbd") || is_word name (codes "mark")
    || is_word name (codes "s") || is_word name (codes "samp") || is_word name (codes "small")
    || is_word name (codes "span") || is_word name (codes "strong") || is_word name (codes "sub")
    || is_word name (codes "sup") || is_word name (codes "u") || is_word name (codes "var")

-- the name of an element around the table
abbrev pub is_outer : List ℕ → Bool
is_outer name =
    is_word name (codes "html") || is_word name (codes "head") || is_word name (codes "body")
    || is_word name (codes "meta")

-- the element of that name, if it may stand in a table file
abbrev pub element_of : List ℕ → Option Element
element_of name =
    if is_word name (codes "table") then Some Table
    else if is_word name (codes "caption") then Some Caption
    else if is_word name (codes "colgroup") then Some Colgroup
    else if is_word name (codes "col") then Some Col
    else if is_word name (codes "thead") then Some Thead
    else if is_word name (codes "tbody") then Some Tbody
    else if is_word name (codes "tfoot") then Some Tfoot
    else if is_word name (codes "tr") then Some Tr
    else if is_word name (codes "td") then Some Td
    else if is_word name (codes "th") then Some Th
    else if is_word name (codes "br") then Some Br
    else if is_word name (codes "p") then Some P
    else if is_word name (codes "div") then Some Div
    else if is_inline name then Some Inline
    else if is_outer name then Some Outer
    else None

-- the value of the first attribute of that name
abbrev pub value_of : List ℕ → List Attribute → Option (List ℕ)
value_of word [] = None
value_of word (a ∷ others) = if is_word a.name word then Some a.value else value_of word others

-- the number of the first attribute of that name
abbrev pub attribute_number : List ℕ → List Attribute → Option ℕ
attribute_number word attributes = option_and_then number_of (value_of word attributes)

-- the side of that name, in any case
abbrev pub side_named : List ℕ → Option Side
side_named name =
    if is_word name (codes "left") then Some Left
    else if is_word name (codes "right") then Some Right
    else if is_word name (codes "center") then Some Center
    else None

-- the side that the first attribute `align` names
abbrev pub attribute_side : List Attribute → Option Side
attribute_side attributes = option_and_then side_named (value_of (codes "align") attributes)

-- the numbers of an element that has none
abbrev pub no_spans : Spans
no_spans = record { colspan = 1; rowspan = 1; span = 1; least = 0; align = None }

-- the numbers and the side of a cell
abbrev pub cell_spans : List Attribute → Spans
cell_spans attributes = record {
  colspan = columns_spanned (attribute_number (codes "colspan") attributes);
  rowspan = rows_spanned (attribute_number (codes "rowspan") attributes);
  span = 1;
  least = floor_of (attribute_number (codes "data-min") attributes);
  align = attribute_side attributes;
}

-- the numbers of a `col` or a `colgroup`
abbrev pub column_spans : List Attribute → Spans
column_spans attributes = record {
  colspan = 1;
  rowspan = 1;
  span = columns_spanned (attribute_number (codes "span") attributes);
  least = 0;
  align = None;
}

-- a cell has its own numbers, a `col` and a `colgroup` their span, and no other element has any
abbrev pub span_numbers : Element → List Attribute → Spans
span_numbers Td attributes = cell_spans attributes
span_numbers Th attributes = cell_spans attributes
span_numbers Col attributes = column_spans attributes
span_numbers Colgroup attributes = column_spans attributes
span_numbers _ attributes = no_spans

-- the token of a tag of that element
abbrev pub tag_token : Element → Tag → TokenKind
tag_token e tag = if tag.is_end then End e else Start e (span_numbers e tag.attributes)
