-- No public clause cites this file: it says how a tag is read, a character at a time, by states as
-- those of the HTML Standard's tokenizer (section 13.2.5), with what the tag has so far. It decides
-- what the grammar of tags says of a text, also of one that ends too early.
use Rattle.std.specs.Prelude.{ℕ, Bool, true, false, ◌==◌, List, [], ◌∷◌, ◌++◌, if◌then◌else◌}
use Rattle.std.specs.Char.{is_ascii_alphabetic, is_ascii_alphanumeric}
use Rattle.tl_token.specs.Characters.{◌∈◌, is_space, is_name_character, is_value_character, is_gap}
use Rattle.tl_token.specs.Elements.{Attribute, Tag}

-- where in a tag the next character stands, and what was read of the tag
pub data TagState : Type 0 where
  -- after the `<`
  tag_open : TagState
  -- after the `</`
  end_tag_open : TagState
  -- in the name of the tag
  tag_name : Bool → List ℕ → TagState
  -- between two attributes
  between : Tag → TagState
  -- in the name of an attribute
  in_name : Tag → List ℕ → TagState
  -- after the name of an attribute and white space
  after_name : Tag → List ℕ → TagState
  -- after the `=` of an attribute
  before_value : Tag → List ℕ → TagState
  -- in a value, with the quote that ends it
  in_quotes : Tag → List ℕ → ℕ → List ℕ → TagState
  -- in a value without quotes
  in_value : Tag → List ℕ → List ℕ → TagState
  -- after the `>`
  ended : Tag → TagState
  -- this is no tag
  failed : TagState

-- the attribute of that name and value
abbrev pub named_attribute : List ℕ → List ℕ → Attribute
named_attribute name value = record { name = name; value = value }

-- the tag of that name without attributes
abbrev pub empty_tag : Bool → List ℕ → Tag
empty_tag is_end name = record { is_end = is_end; name = name; attributes = [] }

-- the tag with one more attribute
abbrev pub with_attribute : Tag → List ℕ → List ℕ → Tag
with_attribute t name value =
    record { is_end = t.is_end; name = t.name; attributes = t.attributes ++ named_attribute name value ∷ [] }

-- the tag with more attributes
abbrev pub with_more : Tag → List Attribute → Tag
with_more t others = record { is_end = t.is_end; name = t.name; attributes = t.attributes ++ others }

-- the state after one more character
abbrev pub step : TagState → ℕ → TagState
step tag_open c =
    if c ∈ "/" then end_tag_open
    else if is_ascii_alphabetic c then tag_name false (c ∷ [])
    else failed
step end_tag_open c = if is_ascii_alphabetic c then tag_name true (c ∷ []) else failed
step (tag_name is_end name) c =
    if is_ascii_alphanumeric c then tag_name is_end (name ++ c ∷ [])
    else if is_gap c then between (empty_tag is_end name)
    else if c ∈ ">" then ended (empty_tag is_end name)
    else failed
step (between t) c =
    if is_name_character c then in_name t (c ∷ [])
    else if is_gap c then between t
    else if c ∈ ">" then ended t
    else failed
step (in_name t name) c =
    if is_name_character c then in_name t (name ++ c ∷ [])
    else if is_space c then after_name t name
    else if c ∈ "=" then before_value t name
    else if c ∈ "/" then between (with_attribute t name [])
    else if c ∈ ">" then ended (with_attribute t name [])
    else failed
step (after_name t name) c =
    if is_space c then after_name t name
    else if c ∈ "=" then before_value t name
    else if is_name_character c then in_name (with_attribute t name []) (c ∷ [])
    else if c ∈ "/" then between (with_attribute t name [])
    else if c ∈ ">" then ended (with_attribute t name [])
    else failed
step (before_value t name) c =
    if is_space c then before_value t name
    else if c ∈ "\"'" then in_quotes t name c []
    else if is_value_character c then in_value t name (c ∷ [])
    else failed
step (in_quotes t name quote value) c =
    if c == quote then between (with_attribute t name value)
    else in_quotes t name quote (value ++ c ∷ [])
step (in_value t name value) c =
    if is_value_character c then in_value t name (value ++ c ∷ [])
    else if is_space c then between (with_attribute t name value)
    else if c ∈ ">" then ended (with_attribute t name value)
    else failed
step (ended t) c = ended t
step failed c = failed

-- what a text is, from a state on
pub data TagOutcome : Type 0 where
  -- a tag ends, from whose `>` the rest follows
  reads : Tag → List ℕ → TagOutcome
  -- the text ends before the tag does
  unended : TagOutcome
  wrong : TagOutcome

-- what the text is, read from that state on
abbrev pub read : TagState → List ℕ → TagOutcome
read (ended t) cs = reads t cs
read failed cs = wrong
read s [] = unended
read s (c ∷ cs) = read (step s c) cs
