-- Classes of characters. White space, letters and digits are those of ASCII, as the Infra Standard
-- defines them (ASCII whitespace, ASCII alpha, ASCII digit); the characters of names and values are a
-- profile of the HTML Standard's section 13.1.2.
use Rattle.std.specs.Prelude.{ℕ, Bool, false, ◌||◌, ◌&&◌, not, nat_lt, nat_le, List, [], ◌∷◌, Option, Some, None, if◌then◌else◌}
use Rattle.std.specs.Prelude.{codes}
use Rattle.std.specs.Char.{is_ascii_whitespace, is_ascii_alphabetic}
use Prim.Native.String.{String}
use Rattle.tl_base.specs.Lists.{is_among}

infix 60 ◌∈◌
-- the character stands in the text
abbrev pub ◌∈◌ : ℕ → String → Bool
c ∈ s = is_among (codes s) c

-- a tab, a line feed, a form feed, a carriage return or a space
abbrev pub is_space : ℕ → Bool
is_space = is_ascii_whitespace

-- a character of the name of an attribute
abbrev pub is_name_character : ℕ → Bool
is_name_character c = not (is_space c || c ∈ "/>=\"'<")

-- a character of a value without quotes
abbrev pub is_value_character : ℕ → Bool
is_value_character c = not (is_space c || c ∈ "\"'=<>`")

-- white space or `/`, which separate the attributes of a tag
abbrev pub is_gap : ℕ → Bool
is_gap c = is_space c || c ∈ "/"

-- A control character that no text has: below 32 and no white space, or from 127 to 159.
abbrev pub is_control : ℕ → Bool
is_control c = (nat_lt c 32 && not (is_space c)) || (nat_le 127 c && nat_le c 159)

-- a character that makes more than text of a `<` before it
abbrev pub opens_markup : ℕ → Bool
opens_markup c = is_ascii_alphabetic c || c ∈ "/!?"

-- the first character
abbrev pub first : List ℕ → Option ℕ
first [] = None
first (c ∷ cs) = Some c

-- the text begins with a character that passes the test
abbrev pub begins : (ℕ → Bool) → List ℕ → Bool
begins test [] = false
begins test (c ∷ cs) = test c

-- the longest prefix of characters that all pass the test
abbrev pub run : (ℕ → Bool) → List ℕ → List ℕ
run test [] = []
run test (c ∷ cs) = if test c then c ∷ run test cs else []

-- what follows the longest prefix of characters that all pass the test
abbrev pub past : (ℕ → Bool) → List ℕ → List ℕ
past test [] = []
past test (c ∷ cs) = if test c then past test cs else c ∷ cs
