-- When a text is a number, as people write them in tables: at most one mark, a sign or that of a currency; then digits, with
-- single separators between two of them; then nothing, a `%` or an exponent.
--
--   -3.50    a mark, digits             1'000'000   digits                1e-9   digits, an exponent
--   $1,200   a mark, digits             50%         digits, a `%`
use Rattle.std.specs.Prelude.{◌≡◌, ◌↔◌, ℕ, Bool, true, false, ◌&&◌, IsTrue, List, [], ◌∷◌, ◌++◌, map, codes, if◌then◌else◌}
use Rattle.std.specs.List.{flat_map, fold, list_all}
use Rattle.std.specs.Char.{is_ascii_digit}
use Rattle.tl_base.specs.Lists.{is_among}
use Rattle.tl_text.specs.declared.paragraph.Atom.{Atom}
use Rattle.tl_text.specs.declared.paragraph.Atom.TheVariants as atoms
use Rattle.tl_align.specs.declared.number.Class.{Class}
use Rattle.tl_align.specs.declared.number.Class.TheVariants.{Digit, Sign, Currency, Separator, Percent, Letter, Other}
use Rattle.tl_align.specs.declared.number.Reading.{Reading}
use Rattle.tl_align.specs.declared.number.Reading.TheVariants.{Start, Marked, InDigits, AfterSeparator, AfterPercent, AfterLetter}
use Rattle.tl_align.specs.declared.number.Reading.TheVariants.{AfterSign, InPower, Failed}

-- what a character is in a number
abbrev pub class_of : ℕ → Class
class_of c =
    if is_ascii_digit c then Digit
    else if is_among (codes "-+") c then Sign
    else if is_among (codes "$¢£¥€") c then Currency
    else if is_among (codes ".,'_") c then Separator
    else if is_among (codes "%") c then Percent
    else if is_among (codes "eE") c then Letter
    else Other

-- ---- the grammar, by what the characters are

-- no mark, or one
pub data IsMark : List Class → Type 0 where
  no_mark : IsMark []
  sign : IsMark (Sign ∷ [])
  currency : IsMark (Currency ∷ [])

-- one digit or more, with nothing or a separator between two of them
pub data AreGrouped : List Class → Type 0 where
  last_digit : AreGrouped (Digit ∷ [])
  beside : {others : List Class} → AreGrouped others → AreGrouped (Digit ∷ others)
  separated : {others : List Class} → AreGrouped others → AreGrouped (Digit ∷ Separator ∷ others)

-- one digit or more, and nothing between them
pub data AreDigits : List Class → Type 0 where
  end_digit : AreDigits (Digit ∷ [])
  next_to : {others : List Class} → AreDigits others → AreDigits (Digit ∷ others)

-- nothing, a `%`, or an exponent: its letter, at most one sign, and digits
pub data IsTail : List Class → Type 0 where
  no_tail : IsTail []
  percent : IsTail (Percent ∷ [])
  exponent : {digits : List Class} → AreDigits digits → IsTail (Letter ∷ digits)
  signed_exponent : {digits : List Class} → AreDigits digits → IsTail (Letter ∷ Sign ∷ digits)

-- these are digits and a tail
pub record IsBody (classes : List Class) : Type 0 where
  pub digits : List Class
  pub tail : List Class
  pub split : classes ≡ digits ++ tail
  pub grouped : AreGrouped digits
  pub ended : IsTail tail

-- these are a mark, digits and a tail
pub record IsNumeral (classes : List Class) : Type 0 where
  pub mark : List Class
  pub body : List Class
  pub split : classes ≡ mark ++ body
  pub marked : IsMark mark
  pub numbered : IsBody body

-- the text is a number
abbrev pub IsNumber : List ℕ → Type 0
IsNumber text = IsNumeral (map class_of text)

-- ---- the test, a character at a time

-- how far a number was read with one character more
abbrev pub after : Reading → Class → Reading
after Start Sign = Marked
after Start Currency = Marked
after Start Digit = InDigits
after Marked Digit = InDigits
after InDigits Digit = InDigits
after InDigits Separator = AfterSeparator
after InDigits Percent = AfterPercent
after InDigits Letter = AfterLetter
after AfterSeparator Digit = InDigits
after AfterLetter Sign = AfterSign
after AfterLetter Digit = InPower
after AfterSign Digit = InPower
after InPower Digit = InPower
after _ _ = Failed

-- it may end here
abbrev pub is_whole : Reading → Bool
is_whole InDigits = true
is_whole AfterPercent = true
is_whole InPower = true
is_whole _ = false

-- how far it was read with this text more
abbrev pub through : Reading → List ℕ → Reading
through reading text = fold (λ so_far c. after so_far (class_of c)) reading text

-- the text is a number
abbrev pub is_number : List ℕ → Bool
is_number text = is_whole (through Start text)

-- the test says just what the grammar does
abbrev pub NumbersAreByTheGrammar : Type 0
NumbersAreByTheGrammar = (text : List ℕ) → IsTrue (is_number text) ↔ IsNumber text

-- ---- words

-- the unit goes on with the word before it
abbrev pub is_glue : Atom → Bool
is_glue (atoms.Glue text) = true
is_glue _ = false

-- the units are those of one word: the first begins it, and the others go on with it
abbrev pub is_one_word : List Atom → Bool
is_one_word (atoms.Word text ∷ others) = list_all is_glue others
is_one_word _ = false

-- the characters of a unit; a break has none
abbrev pub text_of : Atom → List ℕ
text_of (atoms.Word text) = text
text_of (atoms.Glue text) = text
text_of atoms.Break = []

-- the units are those of one word alone, whose characters together are a number
abbrev pub is_number_word : List Atom → Bool
is_number_word units = is_one_word units && is_number (flat_map text_of units)
