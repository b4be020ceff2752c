-- A text as its characters and the numbers between them. A number has a range: which characters and numbers there are is
-- the grammar of a text, and that each number is within its range is asked apart from it.
use Rattle.std.specs.Prelude.{◌≡◌, ℕ, suc, zero, ◌+◌, ◌/◌, ◌%◌, ◌≤◌, nat_lt, true, false, List, [], ◌∷◌, ◌++◌, map}
use Rattle.std.specs.List.{AllByRecursion}
use Rattle.std.specs.Char.{is_ascii_digit}

-- a character, or a number with the least and the greatest value that it may have
pub data TextPiece : Type 0 where
  character : ℕ → TextPiece
  number : (low high value : ℕ) → TextPiece

-- The canonical decimal of a number of at most so many digits more than one: that of its tenth and its last digit.
abbrev pub numeral_within : ℕ → ℕ → List ℕ
numeral_within zero n = (48 + n) ∷ []
numeral_within (suc digits) n =
    elim (nat_lt n 10) [ true ↦ (48 + n) ∷ [] | false ↦ numeral_within digits (n / 10) ++ (48 + n % 10) ∷ [] ]

-- the canonical decimal of a number, however great
unfoldable pub numeral : ℕ → List ℕ
numeral n = numeral_within n n

-- the characters of a piece
abbrev pub spelling : TextPiece → List ℕ
spelling (character c) = c ∷ []
spelling (number low high value) = numeral value

-- the characters of pieces, one after the other
abbrev pub spell : List TextPiece → List ℕ
spell [] = []
spell (piece ∷ pieces) = spelling piece ++ spell pieces

-- the number is within its range; a character has none
abbrev pub IsPieceInRange : TextPiece → Type 0
IsPieceInRange (character c) = Unit {0}
IsPieceInRange (number low high value) = (low ≤ value) × (value ≤ high)

-- each number is within its range
abbrev pub AllWithin : List TextPiece → Type 0
AllWithin = AllByRecursion IsPieceInRange

-- a number and the character that ends it
abbrev pub field : ℕ → ℕ → ℕ → ℕ → List TextPiece
field low high value end = number low high value ∷ character end ∷ []

-- the characters of a word
abbrev pub word : List ℕ → List TextPiece
word = map character

-- what follows a number that is a whole run of digits: no digit
abbrev pub IsPastDigits : List ℕ → Type 0
IsPastDigits [] = Unit {0}
IsPastDigits (c ∷ text) = is_ascii_digit c ≡ false
