-- No public clause cites this file: it says what is left to read, and which characters are of the
-- reader's classes.
use Rattle.std.specs.Prelude.{ℕ, Bool, true, false, ◌≡◌, ◌||◌, not, ◌==◌, List, [], ◌∷◌, Option, MatchOption, chars}
use Rattle.std.specs.Char.{is_ascii_alphabetic, is_ascii_alphanumeric, is_ascii_digit, is_ascii_hexdigit}
use Rattle.tl_token.specs.Characters.{◌∈◌, begins, is_space, is_name_character, is_value_character, is_gap}
use Rattle.tl_token.specs.declared.reader.Reader.{Reader}
use Rattle.tl_token.specs.declared.reader.Class.{Class}
use Rattle.tl_token.specs.declared.reader.Class.TheVariants.{Space, Alphanumeric, Digit, HexDigit, Name, Value, Sign, Letter, Gap}
use Rattle.tl_token.specs.declared.reader.Class.TheVariants.{HexMark}
use Rattle.tl_token.specs.declared.reader.Class.TheVariants.{TagNameEnd, ValueEnd, Is, Not}

-- the characters that are still to read
abbrev pub unread : Reader → List ℕ
unread reader = chars (reader.rest.now)

-- the character is of that class
abbrev pub is_in : Class → ℕ → Bool
is_in Space c = is_space c
is_in Alphanumeric c = is_ascii_alphanumeric c
is_in Digit c = is_ascii_digit c
is_in HexDigit c = is_ascii_hexdigit c
is_in Name c = is_name_character c
is_in Value c = is_value_character c
is_in Sign c = c ∈ "+-"
is_in Letter c = is_ascii_alphabetic c
is_in Gap c = is_gap c
is_in HexMark c = c ∈ "xX"
is_in TagNameEnd c = is_gap c || c ∈ ">"
is_in ValueEnd c = is_space c || c ∈ ">"
is_in (Is d) c = c == d
is_in (Not d) c = not (c == d)

-- whether the text began with the character, which was then passed
abbrev pub Eats : ℕ → Bool → List ℕ → List ℕ → Type 0
Eats c true old new = old ≡ c ∷ new
Eats c false old new = (new ≡ old) × (begins (λ d. d == c) old ≡ false)

-- the next character, which was passed, or the end of the text
abbrev pub NextIs : Option ℕ → List ℕ → List ℕ → Type 0
NextIs next old new = MatchOption next ((old ≡ []) × (new ≡ [])) (λ c. old ≡ c ∷ new)
