-- No public clause cites this file: it says what the results of the reader's methods mean, in the
-- words of the grammar.
use Rattle.std.specs.Prelude.{◌≡◌, ℕ, min, List, [], ◌∷◌, Option, Some, None, Result, Ok, Err, MatchResult, MatchOption}
use Rattle.std.specs.Prelude.{if◌then◌else◌, codes}
use Rattle.std.specs.Option.{option_map}
use Rattle.tl_token.specs.Numbers.{number_of}
use Rattle.tl_sides.specs.declared.side.Side.{Side}
use Rattle.tl_token.specs.Elements.{Attribute, Tag, is_word, value_of, side_named}
use Rattle.tl_token.specs.Grammar.{hidden, tag, character, unended_tag, unended_comment, bad_tag, unknown_element, bad_reference}
use Rattle.tl_token.specs.Grammar.{bad_character}
use Rattle.tl_token.specs.Grammar as grammar
use Rattle.tl_token.specs.inner.States.{TagOutcome, TagState, reads, unended, wrong, read, between, with_attribute, with_more}
use Rattle.tl_token.specs.inner.Reading.{Found, stands, faulty, tag_found}
use Rattle.tl_token.specs.declared.piece.Piece.{Piece}
use Rattle.tl_token.specs.declared.piece.Piece.TheVariants.{Hidden, Start, End, Character}
use Rattle.tl_token.specs.declared.token.TokenKind.TheVariants as kind
use Rattle.tl_token.specs.declared.piece.Fault.{Fault}
use Rattle.tl_token.specs.declared.piece.Fault.TheVariants.{UnendedTag, UnendedComment, BadTag, UnknownElement, BadReference}
use Rattle.tl_token.specs.declared.piece.Fault.TheVariants.{BadCharacter}
use Rattle.tl_token.specs.declared.token.TokenError.{TokenError}
use Rattle.tl_token.specs.declared.token.TokenError.TheVariants as error
use Rattle.tl_token.specs.declared.tag.Given.{Given}

-- the grammar's piece
abbrev pub piece_of : Piece → grammar.Lexeme
piece_of Hidden = hidden
piece_of (Start e spans) = tag (kind.Start e spans)
piece_of (End e) = tag (kind.End e)
piece_of (Character c) = character c

-- the grammar's fault
abbrev pub fault_of : Fault → grammar.Fault
fault_of UnendedTag = unended_tag
fault_of UnendedComment = unended_comment
fault_of BadTag = bad_tag
fault_of UnknownElement = unknown_element
fault_of BadReference = bad_reference
fault_of BadCharacter = bad_character

-- the error of a fault at that byte
abbrev pub error_of : Fault → ℕ → TokenError
error_of UnendedTag place = error.UnendedTag place
error_of UnendedComment place = error.UnendedComment place
error_of BadTag place = error.BadTag place
error_of UnknownElement place = error.UnknownElement place
error_of BadReference place = error.BadReference place
error_of BadCharacter place = error.BadCharacter place

-- what a result says stands there, where the rest follows
abbrev pub found_of : Result Piece Fault → List ℕ → Found
found_of (Ok piece) rest = stands (piece_of piece) rest
found_of (Err fault) rest = faulty (fault_of fault)

-- the number of the first attribute of that name, where there is one
abbrev pub number_in : List ℕ → List Attribute → Option (Option ℕ)
number_in word attributes =
    option_map (λ v. option_map (λ n. min n 4294967295) (number_of v)) (value_of word attributes)

-- the number of the first attribute of that name, with one more attribute
abbrev pub attribute_number_after : Option (Option ℕ) → List ℕ → Attribute → Option (Option ℕ)
attribute_number_after (Some known) word a = Some known
attribute_number_after None word a =
    if is_word a.name word then Some (option_map (λ n. min n 4294967295) (number_of a.value)) else None

-- the side of the first attribute `align`, where there is one
abbrev pub side_in : List Attribute → Option (Option Side)
side_in attributes = option_map side_named (value_of (codes "align") attributes)

-- the side of the first attribute `align`, with one more attribute
abbrev pub attribute_side_after : Option (Option Side) → Attribute → Option (Option Side)
attribute_side_after (Some known) a = Some known
attribute_side_after None a = if is_word a.name (codes "align") then Some (side_named a.value) else None

-- the numbers and the side of the attributes that a tag has so far
abbrev pub given_of : List Attribute → Given
given_of attributes = record {
  colspan = number_in (codes "colspan") attributes;
  rowspan = number_in (codes "rowspan") attributes;
  span = number_in (codes "span") attributes;
  least = number_in (codes "data-min") attributes;
  align = side_in attributes;
}

-- the numbers and the side of the attributes, with one more attribute
abbrev pub given_after : Given → Attribute → Given
given_after given a = record {
  colspan = attribute_number_after given.colspan (codes "colspan") a;
  rowspan = attribute_number_after given.rowspan (codes "rowspan") a;
  span = attribute_number_after given.span (codes "span") a;
  least = attribute_number_after given.least (codes "data-min") a;
  align = attribute_side_after given.align a;
}

-- what a text is, read as a tag that cannot go on there
abbrev pub stop : List ℕ → TagOutcome
stop [] = unended
stop (c ∷ cs) = wrong

-- the state reads to a fault
abbrev pub Stops : TagState → List ℕ → Fault → Type 0
Stops s cs fault = tag_found (read s cs) ≡ faulty (fault_of fault)

-- From those states on, with a tag and the name of an attribute, its value was read from old, and
-- new is left; or the tag is broken there.
abbrev pub ReadsValue : {X : Type 0} → (Tag → List ℕ → TagState) → (X → List ℕ) → Result X Fault
    → List ℕ → List ℕ → Type 0
ReadsValue state text result old new = (t : Tag) (name : List ℕ) → MatchResult result
    (λ value. read (state t name) old ≡ read (between (with_attribute t name (text value))) new)
    (λ fault. Stops (state t name) old fault)

-- The attributes of a tag, with what they ask for, were read from old up to the `>`, and new is left;
-- or the tag is broken there.
abbrev pub ReadsAttributes : Result Given Fault → List ℕ → List ℕ → Type 0
ReadsAttributes result old new = MatchResult result
    (λ given. (all : List Attribute) × (given ≡ given_of all)
    × ((t : Tag) → read (between t) old ≡ reads (with_more t all) new))
    (λ fault. (t : Tag) → Stops (between t) old fault)

-- a result says what was found, where the rest follows, or that nothing was
abbrev pub Finds : {X A : Type 0} → (X → A) → Option X → List ℕ → Option (A × List ℕ) → Type 0
Finds view result rest found = MatchOption result (found ≡ None) (λ x. found ≡ Some (view x, rest))
