-- How characters spell tokens. What stands at a place is a comment, a doctype, a tag, a reference
-- or a character of text, or else a fault. The forms are those of the HTML Standard's section 13.1,
-- narrowed and widened as docs/READING.md says.
use Rattle.std.specs.Prelude.{◌≡◌, ◌≢◌, ℕ, ◌⊎◌, Bool, true, false, not, ◌&&◌, ◌||◌, ◌==◌, nat_eq, List, [], ◌∷◌, ◌++◌, length}
use Rattle.std.specs.Prelude.{drop, Option, Some}
use Rattle.std.specs.Prelude.{None, option_map, if◌then◌else◌, codes, IsTrue}
use Rattle.std.specs.List.{AllByRecursion}
use Rattle.std.specs.Char.{is_ascii_alphabetic, is_ascii_alphanumeric, is_ascii_digit, is_ascii_hexdigit}
use Rattle.tl_token.specs.Characters.{◌∈◌, is_space, is_name_character, is_value_character, is_gap, is_control, opens_markup}
use Rattle.tl_token.specs.Characters.{begins, run, past}
use Rattle.tl_token.specs.Numbers.{number}
use Rattle.tl_token.specs.Elements.{Attribute, Tag, is_word, element_of, tag_token}
use Rattle.tl_token.specs.declared.token.TokenKind.{TokenKind}
use Rattle.tl_token.specs.declared.token.Element.{Element}
use lib.Pointwise.{pointwise}
use lib.Utf8.{scalar}

-- each character passes the test
abbrev pub Each : (ℕ → Bool) → List ℕ → Type 0
Each test = AllByRecursion (λ c. IsTrue (test c))

-- the text begins with this prefix
abbrev pub has_prefix : List ℕ → List ℕ → Bool
has_prefix [] cs = true
has_prefix (d ∷ ds) [] = false
has_prefix (d ∷ ds) (c ∷ cs) = c == d && has_prefix ds cs

-- what follows the first place at which the mark stands
abbrev pub past_first : List ℕ → List ℕ → Option (List ℕ)
past_first mark [] = None
past_first mark (c ∷ cs) =
    if has_prefix mark (c ∷ cs) then Some (drop (length mark) (c ∷ cs)) else past_first mark cs

-- `<!--`, and anything up to the first `-->` after that, from which the rest follows. So `<!-->`
-- ends no comment.
pub record Comment (cs rest : List ℕ) : Type 0 where
  pub inside : List ℕ
  pub opened : cs ≡ codes "<!--" ++ inside
  pub closed : past_first (codes "-->") inside ≡ Some rest

-- `<!` and `doctype` in any case, and anything up to the first `>`
pub record Doctype (cs rest : List ℕ) : Type 0 where
  pub word : List ℕ
  pub inside : List ℕ
  pub opened : cs ≡ codes "<!" ++ word ++ inside
  pub named : IsTrue (is_word word (codes "doctype"))
  pub closed : past_first (codes ">") inside ≡ Some rest

-- The value of an attribute, between its name and the rest. A name and a value without quotes are
-- as long as they can be: no character of a name follows the one, and white space or `>` follows
-- the other. A value in quotes may be followed by anything.
pub data Value (cs value rest : List ℕ) : Type 0 where
  missing : value ≡ [] → rest ≡ cs → IsTrue (not (begins is_name_character cs)) → Value cs value rest
  quoted : (quote : ℕ) → IsTrue (quote ∈ "\"'") → (before after : List ℕ)
      → Each is_space before → Each is_space after → Each (λ c. not (c == quote)) value
      → cs ≡ before ++ (codes "=" ++ (after ++ (quote ∷ (value ++ (quote ∷ rest)))))
      → Value cs value rest
  unquoted : (before after : List ℕ) → Each is_space before → Each is_space after
      → value ≢ [] → Each is_value_character value → IsTrue (begins (λ c. is_space c || c ∈ ">") rest)
      → cs ≡ before ++ (codes "=" ++ (after ++ (value ++ rest)))
      → Value cs value rest

-- What stands from the name of a tag up to its `>`, after which the rest follows: white space and
-- `/` anywhere, and attributes.
pub data Attributes : List ℕ → List Attribute → List ℕ → Type 0 where
  end : {c : ℕ} {rest : List ℕ} → IsTrue (c ∈ ">") → Attributes (c ∷ rest) [] rest
  gap : {c : ℕ} {cs rest : List ℕ} {others : List Attribute} → IsTrue (is_gap c)
      → Attributes cs others rest → Attributes (c ∷ cs) others rest
  attribute : {a : Attribute} {others : List Attribute} {cs following later rest : List ℕ}
      → a.name ≢ [] → Each is_name_character (a.name) → cs ≡ a.name ++ following
      → Value following (a.value) later → Attributes later others rest
      → Attributes cs (a ∷ others) rest

-- a letter, and then letters and digits
abbrev pub IsTagName : List ℕ → Type 0
IsTagName [] = ⊥
IsTagName (c ∷ cs) = IsTrue (is_ascii_alphabetic c) × Each is_ascii_alphanumeric cs

-- what a start tag or an end tag begins with
abbrev pub opening : Bool → List ℕ
opening is_end = if is_end then codes "</" else codes "<"

-- `<` or `</`, a name, and the attributes. The name is followed by white space, `/` or `>`.
pub record IsTag (cs : List ℕ) (tag : Tag) (rest : List ℕ) : Type 0 where
  pub following : List ℕ
  pub spelled : cs ≡ opening (tag.is_end) ++ (tag.name ++ following)
  pub named : IsTagName (tag.name)
  pub separated : IsTrue (begins (λ c. is_gap c || c ∈ ">") following)
  pub attributes : Attributes following (tag.attributes) rest

-- what `&name;` stands for, by exact letters
abbrev pub named_character : List ℕ → Option ℕ
named_character name =
    if pointwise nat_eq name (codes "amp") then Some 0x26
    else if pointwise nat_eq name (codes "lt") then Some 0x3C
    else if pointwise nat_eq name (codes "gt") then Some 0x3E
    else if pointwise nat_eq name (codes "quot") then Some 0x22
    else if pointwise nat_eq name (codes "apos") then Some 0x27
    else if pointwise nat_eq name (codes "nbsp") then Some 0xA0
    else None

-- the character of that number, if text may have it
abbrev pub numbered_character : ℕ → Option ℕ
numbered_character n = if scalar n && not (is_control n) then Some n else None

-- the longest prefix of one or more characters that pass the test, where a `;` follows it, and what
-- follows that
abbrev pub ended_run : (ℕ → Bool) → List ℕ → Option (List ℕ × List ℕ)
ended_run test cs =
    if begins test cs && begins (λ c. c ∈ ";") (past test cs)
    then Some (run test cs, drop 1 (past test cs))
    else None

-- what the name or the digits of a reference mean, and what follows the reference
abbrev pub referred : (List ℕ → Option ℕ) → Option (List ℕ × List ℕ) → Option (Option ℕ × List ℕ)
referred meaning ended = option_map (λ found. (meaning found.0, found.1)) ended

-- what follows `&#`, as a reference: decimal digits, or an `x` in either case and hexadecimal
-- digits
abbrev pub numeric_reference : List ℕ → Option (Option ℕ × List ℕ)
numeric_reference cs =
    if begins (λ c. c ∈ "xX") cs
    then referred (λ digits. numbered_character (number 16 digits)) (ended_run is_ascii_hexdigit (drop 1 cs))
    else referred (λ digits. numbered_character (number 10 digits)) (ended_run is_ascii_digit cs)

-- What follows a `&`, as a reference. None: it is no reference, and the `&` is text. Else the
-- character that the reference stands for, if it stands for one, and what follows its `;`.
abbrev pub reference : List ℕ → Option (Option ℕ × List ℕ)
reference cs =
    if begins (λ c. c ∈ "#") cs then numeric_reference (drop 1 cs)
    else referred named_character (ended_run is_ascii_alphanumeric cs)

-- what may stand at a place
pub data Lexeme : Type 0 where
  -- a comment or a doctype
  hidden : Lexeme
  tag : TokenKind → Lexeme
  -- a character of text, as it is or by a reference
  character : ℕ → Lexeme

-- a character that stands for itself in text: no control character, no `<` that opens markup, no
-- `&` that opens a reference
abbrev pub IsPlain : ℕ → List ℕ → Type 0
IsPlain c rest =
    IsTrue (not (is_control c))
    × (IsTrue (c ∈ "<") → (rest ≢ []) × IsTrue (not (begins opens_markup rest)))
    × (IsTrue (c ∈ "&") → reference rest ≡ None)

-- The piece that stands at a place, from which the rest follows.
pub data LexemeStands : List ℕ → Lexeme → List ℕ → Type 0 where
  comment : {cs rest : List ℕ} → Comment cs rest → LexemeStands cs hidden rest
  doctype : {cs rest : List ℕ} → Doctype cs rest → LexemeStands cs hidden rest
  markup : {cs rest : List ℕ} {kind : TokenKind} → (e : Element) (t : Tag) → IsTag cs t rest
      → element_of (t.name) ≡ Some e → kind ≡ tag_token e t
      → LexemeStands cs (tag kind) rest
  by_reference : {c d : ℕ} {cs rest : List ℕ} → IsTrue (c ∈ "&")
      → reference cs ≡ Some (Some d, rest)
      → LexemeStands (c ∷ cs) (character d) rest
  plain : {c : ℕ} {rest : List ℕ} → IsPlain c rest → LexemeStands (c ∷ rest) (character c) rest

-- what may stand at a place where no piece does
pub data Fault : Type 0 where
  unended_tag : Fault
  unended_comment : Fault
  bad_tag : Fault
  unknown_element : Fault
  bad_reference : Fault
  bad_character : Fault

-- some more text, at least a character, would make the text whole
abbrev pub IsProperPrefixOf : (List ℕ → Type 0) → List ℕ → Type 0
IsProperPrefixOf IsWhole cs = (cs ≢ []) × (more : List ℕ) × (more ≢ []) × IsWhole (cs ++ more)

-- the text is one whole tag
abbrev pub IsWholeTag : List ℕ → Type 0
IsWholeTag cs = (t : Tag) × IsTag cs t []

-- the text is one whole doctype
abbrev pub IsWholeDoctype : List ℕ → Type 0
IsWholeDoctype cs = Doctype cs []

-- The text ends inside a tag or a doctype, or after the `<!-` of a comment.
abbrev pub IsUnendedTag : List ℕ → Type 0
IsUnendedTag cs =
    (IsProperPrefixOf IsWholeTag cs ⊎ IsProperPrefixOf IsWholeDoctype cs) ⊎ (cs ≡ codes "<!-")

-- a comment begins, and no `-->` follows its `<!--`
pub record IsUnendedComment (cs : List ℕ) : Type 0 where
  pub inside : List ℕ
  pub opened : cs ≡ codes "<!--" ++ inside
  pub closed : past_first (codes "-->") inside ≡ None

-- A `<` that opens markup, where nothing that it may open stands.
pub record IsBadTag (cs : List ℕ) : Type 0 where
  pub second : ℕ
  pub after : List ℕ
  pub opened : cs ≡ codes "<" ++ (second ∷ after)
  pub opens : IsTrue (opens_markup second)
  pub no_tag : (t : Tag) (rest : List ℕ) → ¬ (IsTag cs t rest)
  pub no_comment : (rest : List ℕ) → ¬ (Comment cs rest)
  pub no_doctype : (rest : List ℕ) → ¬ (Doctype cs rest)
  pub ended : ¬ (IsUnendedTag cs)
  pub comment_ended : ¬ (IsUnendedComment cs)

-- the fault that stands at a place
abbrev pub FaultStands : Fault → List ℕ → Type 0
FaultStands unended_tag cs = IsUnendedTag cs
FaultStands unended_comment cs = IsUnendedComment cs
FaultStands bad_tag cs = IsBadTag cs
FaultStands unknown_element cs =
    (t : Tag) × (rest : List ℕ) × IsTag cs t rest × (element_of (t.name) ≡ None)
FaultStands bad_reference cs =
    (after rest : List ℕ) × (cs ≡ codes "&" ++ after) × (reference after ≡ Some (None, rest))
FaultStands bad_character cs = (c : ℕ) × (rest : List ℕ) × (cs ≡ c ∷ rest) × IsTrue (is_control c)
