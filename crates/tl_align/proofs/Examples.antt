-- The definitions, run on texts and on small tables that are drawn and counted by hand: `h` is a header cell, `d` any other.
use Rattle.std.proofs.Common.{◌≡◌, ℕ, true, false, List, [], ◌∷◌, ◌+◌, ◌∙◌, codes, sym, refl}
use Rattle.std.proofs.Common.{None, Some, Option}
use Rattle.tl_sides.specs.declared.align.Align.TheVariants.{Columns, Auto, Cells}
use Rattle.tl_sides.specs.declared.side.Side.{Side}
use Rattle.tl_sides.specs.declared.side.Side.TheVariants.{Left, Right, Center}
use Rattle.tl_table.specs.declared.cell.Content.{Content, roll-Content, out-roll-Content}
use Rattle.tl_table.specs.declared.cell.Content.TheOpen as parts
use Rattle.tl_table.specs.declared.cell.Kind.{Kind}
use Rattle.tl_table.specs.declared.cell.Kind.TheVariants as kinds
use Rattle.tl_table.specs.declared.cell.TableCell.{TableCell, roll-TableCell}
use Rattle.tl_table.specs.Tables.{OpenTable}
use Rattle.tl_text.specs.declared.paragraph.Atom.TheVariants.{Word, Glue, Break}
use Rattle.tl_align.specs.Numbers.{IsNumber, is_number, is_number_word}
use Rattle.tl_align.specs.Sides.{sides_of}
use Rattle.tl_align.proofs.NumberLemmas.{by_the_grammar}

-- ---- texts that are numbers

-- the grammar has what the test takes
number : (text : List ℕ) → is_number text ≡ true → IsNumber text
number text is = (by_the_grammar text).0 is

digits : IsNumber (codes "12")
digits = number (codes "12") refl

signed : IsNumber (codes "-3.50")
signed = number (codes "-3.50") refl

money : IsNumber (codes "$1,200")
money = number (codes "$1,200") refl

euros : IsNumber (codes "€7")
euros = number (codes "€7") refl

groups : IsNumber (codes "1'000'000")
groups = number (codes "1'000'000") refl

underscores : IsNumber (codes "1_000")
underscores = number (codes "1_000") refl

percent : IsNumber (codes "50%")
percent = number (codes "50%") refl

exponent : IsNumber (codes "1e-9")
exponent = number (codes "1e-9") refl

plain_exponent : IsNumber (codes "+2.5E12")
plain_exponent = number (codes "+2.5E12") refl

-- ---- texts that are none

-- the grammar has nothing that the test refuses
none : (text : List ℕ) → is_number text ≡ false → IsNumber text → ⊥
none text refused is =
    let both : false ≡ true = sym refused ∙ (by_the_grammar text).1 is in cc

empty : IsNumber [] → ⊥
empty = none [] refl

mark_alone : IsNumber (codes "-") → ⊥
mark_alone = none (codes "-") refl

point_first : IsNumber (codes ".5") → ⊥
point_first = none (codes ".5") refl

point_last : IsNumber (codes "5.") → ⊥
point_last = none (codes "5.") refl

two_separators : IsNumber (codes "1,,2") → ⊥
two_separators = none (codes "1,,2") refl

two_marks : IsNumber (codes "--1") → ⊥
two_marks = none (codes "--1") refl

percent_inside : IsNumber (codes "1%2") → ⊥
percent_inside = none (codes "1%2") refl

percent_and_exponent : IsNumber (codes "1e2%") → ⊥
percent_and_exponent = none (codes "1e2%") refl

no_power : IsNumber (codes "1e") → ⊥
no_power = none (codes "1e") refl

point_in_power : IsNumber (codes "1e2.5") → ⊥
point_in_power = none (codes "1e2.5") refl

two_words : IsNumber (codes "12 kg") → ⊥
two_words = none (codes "12 kg") refl

-- ---- units

whole_word : is_number_word (Word (codes "1,200") ∷ []) ≡ true
whole_word = refl

parts_of_a_word : is_number_word (Word (codes "1,") ∷ Glue (codes "200") ∷ []) ≡ true
parts_of_a_word = refl

words : is_number_word (Word (codes "1") ∷ Word (codes "2") ∷ []) ≡ false
words = refl

broken : is_number_word (Word (codes "1") ∷ Break ∷ []) ≡ false
broken = refl

-- ---- tables

-- a block of one word
abbrev word : List ℕ → List Content
word text = roll-Content (parts.Para (Word text ∷ [])) ∷ []

-- a cell over these columns in a row, which asks for this side
abbrev asking : Option Side → Kind → ℕ → ℕ → ℕ → List Content → TableCell
asking align kind left right row blocks = roll-TableCell (record {
  kind = kind;
  in_head = false;
  place = record { left = left; right = right; top = row; bottom = row + 1 };
  least = 0;
  align = align;
  blocks = blocks;
})

-- one that asks for none
abbrev over : Kind → ℕ → ℕ → ℕ → List Content → TableCell
over = asking None

abbrev h : ℕ → ℕ → List ℕ → TableCell
h column row text = over kinds.Head column (column + 1) row (word text)

abbrev d : ℕ → ℕ → List ℕ → TableCell
d column row text = over kinds.Plain column (column + 1) row (word text)

-- a cell without a block
abbrev blank : ℕ → ℕ → TableCell
blank column row = over kinds.Plain column (column + 1) row []

abbrev of_cells : ℕ → ℕ → List TableCell → OpenTable
of_cells cols rows cells = record { number = 0; cols = cols; rows = rows; cells = cells }

--   row 0  |   7   |   a caption
--   row 1  | To| No|   header cells
--   row 2  | A | 1 |
--   row 3  | B |   |
--   row 4  |   9   |   over both columns
abbrev fares : OpenTable
fares =
    of_cells 2 5 (over kinds.Caption 0 2 0 (word (codes "7")) ∷ h 0 1 (codes "To") ∷ h 1 1 (codes "No")
    ∷ d 0 2 (codes "A") ∷ d 1 2 (codes "1") ∷ d 0 3 (codes "B") ∷ blank 1 3 ∷ over kinds.Plain 0 2 4 (word (codes "9")) ∷ [])

by_numbers : sides_of Auto fares ≡ Left ∷ Left ∷ Right ∷ Left ∷ Right ∷ Left ∷ Right ∷ Left ∷ []
by_numbers = simp out-roll-Content

by_a_list : sides_of (Columns (Right ∷ Center ∷ [])) fares
    ≡ Left ∷ Right ∷ Center ∷ Right ∷ Center ∷ Right ∷ Center ∷ Left ∷ []
by_a_list = refl

past_the_list : sides_of (Columns (Right ∷ [])) fares ≡ Left ∷ Right ∷ Left ∷ Right ∷ Left ∷ Right ∷ Left ∷ Left ∷ []
past_the_list = refl

no_list : sides_of (Columns []) fares ≡ Left ∷ Left ∷ Left ∷ Left ∷ Left ∷ Left ∷ Left ∷ Left ∷ []
no_list = refl

-- no cell asks for a side: as by its numbers
no_cell_asks : sides_of Cells fares ≡ sides_of Auto fares
no_cell_asks = refl

--   row 0  | To   | Fare |   the first asks for the middle
--   row 1  | A    | 1    |   the second asks for the left
--   row 2  | both        |   asks for the right
--   row 3  | B    | 2    |
abbrev asked : OpenTable
asked = of_cells 2 4 (asking (Some Center) kinds.Head 0 1 0 (word (codes "To")) ∷ h 1 0 (codes "Fare")
    ∷ d 0 1 (codes "A") ∷ asking (Some Left) kinds.Plain 1 2 1 (word (codes "1"))
    ∷ asking (Some Right) kinds.Plain 0 2 2 (word (codes "both")) ∷ d 0 3 (codes "B") ∷ d 1 3 (codes "2") ∷ [])

by_cells : sides_of Cells asked ≡ Center ∷ Right ∷ Left ∷ Left ∷ Right ∷ Left ∷ Right ∷ []
by_cells = simp out-roll-Content

-- otherwise what a cell asks for does not count
not_asked : sides_of Auto asked ≡ Left ∷ Right ∷ Left ∷ Right ∷ Left ∷ Left ∷ Right ∷ []
not_asked = simp out-roll-Content

--   row 0  | 7 |   a caption over one column
--   row 1  | 1 |
captioned : sides_of Auto (of_cells 1 2 (over kinds.Caption 0 1 0 (word (codes "7")) ∷ d 0 1 (codes "1") ∷ [])) ≡ Left ∷ Right ∷ []
captioned = simp out-roll-Content

--   row 0  | 1 | x | 2 |
--   row 1  | x | 1 | 2 |   one word keeps a column left
one_word : sides_of Auto (of_cells 3 2 (d 0 0 (codes "1") ∷ d 1 0 (codes "x") ∷ d 2 0 (codes "2")
    ∷ d 0 1 (codes "x") ∷ d 1 1 (codes "1") ∷ d 2 1 (codes "2") ∷ []))
    ≡ Left ∷ Left ∷ Right ∷ Left ∷ Left ∷ Right ∷ []
one_word = simp out-roll-Content

--   row 0  |   | h |   a column without text, and one with text in its head alone
--   row 1  |   |   |
no_text : sides_of Auto (of_cells 2 2 (over kinds.Head 0 1 0 [] ∷ h 1 0 (codes "1") ∷ blank 0 1 ∷ blank 1 1 ∷ []))
    ≡ Left ∷ Left ∷ Left ∷ Left ∷ []
no_text = refl

--   row 0  | 1  |   two paragraphs are no number
--          | 2  |
two_paragraphs : sides_of Auto (of_cells 1 1 (over kinds.Plain 0 1 0 (roll-Content (parts.Para (Word (codes "1") ∷ []))
    ∷ roll-Content (parts.Para (Word (codes "2") ∷ [])) ∷ []) ∷ [])) ≡ Left ∷ []
two_paragraphs = refl
