-- The grammar on texts so small that each result can be counted by hand.
use Rattle.std.proofs.Common.{◌≡◌, true, false, [], ◌∷◌, Some, None, refl, inl}
use Rattle.std.specs.Prelude.{codes}
use Rattle.std.specs.Str.{chars}
use lib.Utf8.{encode}
use Rattle.tl_token.specs.Numbers.{number_of, columns_spanned, rows_spanned, floor_of}
use Rattle.tl_sides.specs.declared.side.Side.TheVariants.{Right}
use Rattle.tl_token.specs.Elements.{element_of, attribute_side}
use Rattle.tl_token.specs.Grammar.{past_first, Comment, unquoted, quoted, end, gap, attribute, IsTag, reference, hidden}
use Rattle.tl_token.specs.Grammar.{character, plain}
use Rattle.tl_token.specs.Grammar.{by_reference, bad_character, IsUnendedTag}
use Rattle.tl_token.specs.Spelling.{here, next, token, tokens_of, SpellsTokens, FirstFault}
use Rattle.tl_token.specs.declared.token.Element.TheVariants.{Td}
use Rattle.tl_token.specs.declared.token.TokenKind.TheVariants.{Text}

-- `<td a=b/>`: a value without quotes is as long as it can be, so the `/` is its own
slash_in_value : IsTag (codes "<td a=b/>") (record {
  is_end = false;
  name = codes "td";
  attributes =
      record { name = codes "a"; value = codes "b/" } ∷ [];
}) []
slash_in_value = record {
  following = codes " a=b/>";
  spelled = refl;
  named = (refl, (refl, tt));
  separated = refl;
  attributes = gap refl (attribute (λ e. cc) (refl, tt) refl (unquoted [] [] tt tt (λ e. cc) (refl, (refl, tt)) refl refl)
      (end refl));
}

-- `</td a = "/">x`: an end tag may have attributes, and what is in quotes is the value
quoted_slash : IsTag (codes "</td a = \"/\">x")
    (record { is_end = true; name = codes "td"; attributes = record { name = codes "a"; value = codes "/" } ∷ [] }) (codes "x")
quoted_slash = record {
  following = codes " a = \"/\">x";
  spelled = refl;
  named = (refl, (refl, tt));
  separated = refl;
  attributes = gap refl (attribute (λ e. cc) (refl, tt) refl
      (quoted 34 refl (codes " ") (codes " ") (refl, tt) (refl, tt) (refl, tt) refl) (end refl));
}

-- a `<` at the end is a prefix of `<a>`
lone_angle : IsUnendedTag (codes "<")
lone_angle = inl (inl (
  (λ e. cc),
  codes "a>",
  (λ e. cc),
  (
    record { is_end = false; name = codes "a"; attributes = [] },
    record { following = codes ">"; spelled = refl; named = (refl, tt); separated = refl; attributes = end refl },
  ),
))

-- `<!---->x` is a comment and x; in `<!-->` no `-->` follows the `<!--`
short_comment : Comment (codes "<!---->x") (codes "x")
short_comment = record { inside = codes "-->x"; opened = refl; closed = refl }

open_comment : past_first (codes "-->") (codes ">") ≡ None
open_comment = refl

-- references, from after the `&` on
named_reference : reference (codes "amp;x") ≡ Some (Some 38, codes "x")
named_reference = refl

no_semicolon : reference (codes "amp x") ≡ None
no_semicolon = refl

exact_letters : reference (codes "AMP;x") ≡ Some (None, codes "x")
exact_letters = refl

hexadecimal : reference (codes "#x4A;") ≡ Some (Some 74, [])
hexadecimal = refl

no_nul : reference (codes "#0;") ≡ Some (None, [])
no_nul = refl

-- the numbers of values
with_junk : number_of (codes " 2px") ≡ Some 2
with_junk = refl

with_plus : number_of (codes "+3") ≡ Some 3
with_plus = refl

below_zero : number_of (codes "-1") ≡ None
below_zero = refl

minus_zero : number_of (codes "-0") ≡ Some 0
minus_zero = refl

no_column : columns_spanned (Some 0) ≡ 1
no_column = refl

rows_to_the_end : rows_spanned (Some 0) ≡ 0
rows_to_the_end = refl

high_floor : floor_of (Some 501) ≡ 500
high_floor = refl

-- names in any case
any_case : element_of (codes "Td") ≡ Some Td
any_case = refl

no_element : element_of (codes "img") ≡ None
no_element = refl

-- sides: the first attribute of the name counts, in any case, also where it names none
first_side : attribute_side
    (record { name = codes "Align"; value = codes "RIGHT" } ∷ record { name = codes "align"; value = codes "left" } ∷ [])
    ≡ Some Right
first_side = refl

no_side : attribute_side
    (record { name = codes "align"; value = codes " right" } ∷ record { name = codes "align"; value = codes "left" } ∷ [])
    ≡ None
no_side = refl

-- a comment does not separate the text around it: `a`, eight bytes of comment, `b`
one_text : tokens_of
    (record { piece = character 97; first = 0; past = 1 } ∷ record { piece = hidden; first = 1; past = 9 }
    ∷ record { piece = character 98; first = 9; past = 10 } ∷ [])
    ≡ token (Text (codes "ab")) 0 10 ∷ []
one_text = refl

-- `b&lt;` spells the one text `b<`, of the bytes 0 to 5
whole_file : SpellsTokens (codes "b&lt;") (token (Text (codes "b<")) 0 5 ∷ [])
unfolding chars encode
whole_file = (
  (codes "b&lt;", (refl, refl)),
  _,
  next (character 98) (plain (refl, (λ e. cc), (λ e. cc))) (next (character 60) (by_reference refl refl) here),
  refl,
)

-- a NUL is the first fault, after one character of two bytes
first_fault : FirstFault (0xC3 ∷ 0xA9 ∷ 0 ∷ []) bad_character 2
unfolding chars encode
first_fault = (
  (0xE9 ∷ 0 ∷ [], (refl, refl)),
  _,
  0 ∷ [],
  next (character 0xE9) (plain (refl, (λ e. cc), (λ e. cc))) here,
  (0, [], refl, refl),
  refl,
)
