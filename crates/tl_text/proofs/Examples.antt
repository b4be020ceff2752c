-- The definitions, run on three tiny paragraphs and on words with marks. A letter takes one column.
--
--   `aa bb`                 `a`, two breaks, `b`, a break     `ab` that goes on with `c`
--
--   |aa bb|    |aa|         |a|                               |abc|    |ab|
--              |bb|         | |                                        |c |
--                           |b|
use Rattle.std.proofs.Common.{◌≡◌, true, false, [], ◌∷◌, codes, refl, arith}
use Rattle.unicode_width.proofs.Computing.{unicode_width}
use Rattle.tl_text.specs.declared.paragraph.Atom.{Atom}
use Rattle.tl_text.specs.declared.paragraph.Atom.TheVariants.{Word, Glue, Break}
use Rattle.tl_text.specs.Words.{words_of}
use Rattle.tl_text.specs.Paragraph.{lined_pieces, has_leading_glue}
use Rattle.tl_text.specs.Cuttings.{line_width, IsCutting, HoldsIn, FillsLines}
use Rattle.tl_text.specs.Clusters.{units_of, by_clusters}
use Rattle.tl_text.specs.Parts.{parts_of, word_pieces, broken_above}
use Rattle.tl_text.specs.Refined.{MakesUp}
use Rattle.unicode_segmentation.specs.Segments.{cut}
use Rattle.unicode_segmentation.proofs.Computing.{unicode_segmentation}

abbrev aa : Atom
aa = Word (codes "aa")

abbrev bb : Atom
bb = Word (codes "bb")

abbrev a : Atom
a = Word (codes "a")

abbrev b : Atom
b = Word (codes "b")

abbrev ab : Atom
ab = Word (codes "ab")

abbrev c : Atom
c = Glue (codes "c")

-- ---- two words

two_words : words_of (codes " aa  bb ") ≡ codes "aa" ∷ codes "bb" ∷ []
two_words = refl

-- one line of them has a gap
one_line : line_width (aa ∷ bb ∷ []) ≡ 5
unfolding unicode_width
one_line = refl

-- two lines are a cutting, which holds in two columns
two_lines : IsCutting (aa ∷ bb ∷ []) (((aa ∷ []) ∷ (bb ∷ []) ∷ []) ∷ [])
two_lines = (((λ none. cc, (λ none. cc, tt)), refl), tt)

two_lines_hold : HoldsIn 2 (((aa ∷ []) ∷ (bb ∷ []) ∷ []) ∷ [])
unfolding unicode_width
two_lines_hold = (omega arith, (omega arith, tt))

-- the two lines are greedy up to four columns: the second word does not fit on the first line
two_lines_fill : FillsLines 4 ((aa ∷ []) ∷ (bb ∷ []) ∷ [])
unfolding unicode_width
two_lines_fill = (omega arith, tt)

-- ---- breaks: the piece between two is a line, and the one after the last is none

three_pieces : lined_pieces (a ∷ Break ∷ Break ∷ b ∷ Break ∷ []) ≡ (a ∷ []) ∷ [] ∷ (b ∷ []) ∷ []
three_pieces = refl

three_lines : IsCutting (a ∷ Break ∷ Break ∷ b ∷ Break ∷ []) (((a ∷ []) ∷ []) ∷ ([] ∷ []) ∷ ((b ∷ []) ∷ []) ∷ [])
three_lines = (((λ none. cc, tt), refl), (refl, (((λ none. cc, tt), refl), tt)))

-- ---- a unit that goes on with a word has no gap before it

glued_line : line_width (ab ∷ c ∷ []) ≡ 3
unfolding unicode_width
glued_line = refl

-- a unit that goes on with a word may begin a line, and no piece
glued_lines : IsCutting (ab ∷ c ∷ []) (((ab ∷ []) ∷ (c ∷ []) ∷ []) ∷ [])
glued_lines = (((λ none. cc, (λ none. cc, tt)), refl), tt)

no_leading_glue : has_leading_glue (ab ∷ c ∷ []) ≡ false
no_leading_glue = refl

leading_glue : has_leading_glue (ab ∷ Break ∷ c ∷ []) ≡ true
leading_glue = refl

-- ---- words between whose grapheme clusters a line may end

-- `abc`; an accent belongs to its letter; two regional indicators are one flag, and a third stands alone
letters : units_of (Word (codes "abc")) ≡ Word (codes "a") ∷ Glue (codes "b") ∷ Glue (codes "c") ∷ []
unfolding unicode_segmentation
letters = refl

accents : units_of (Word (0x65 ∷ 0x301 ∷ 0x65 ∷ 0x301 ∷ [])) ≡ Word (0x65 ∷ 0x301 ∷ []) ∷ Glue (0x65 ∷ 0x301 ∷ []) ∷ []
unfolding unicode_segmentation
accents = refl

flags : units_of (Word (0x1F1F7 ∷ 0x1F1FA ∷ 0x1F1F8 ∷ [])) ≡ Word (0x1F1F7 ∷ 0x1F1FA ∷ []) ∷ Glue (0x1F1F8 ∷ []) ∷ []
unfolding unicode_segmentation
flags = refl

-- breaks stay, and so does a unit that goes on with a word
rest_stays : by_clusters (Break ∷ aa ∷ c ∷ Break ∷ []) ≡ Break ∷ Word (codes "a") ∷ Glue (codes "a") ∷ c ∷ Break ∷ []
unfolding unicode_segmentation
rest_stays = refl

-- ---- the parts of a word

-- a part ends after a mark that a letter or digit follows
path_parts : parts_of (codes "usr/lib") ≡ codes "usr/" ∷ codes "lib" ∷ []
unfolding cut
path_parts = refl

-- of two marks in a row the first parts nothing, and the second does
two_marks : parts_of (codes "x--y") ≡ codes "x--" ∷ codes "y" ∷ []
unfolding cut
two_marks = refl

-- a mark at the end parts nothing
mark_at_end : parts_of (codes "a/") ≡ codes "a/" ∷ []
unfolding cut
mark_at_end = refl

-- a mark at the beginning is a part
mark_at_start : parts_of (codes "/a") ≡ codes "/" ∷ codes "a" ∷ []
unfolding cut
mark_at_start = refl

-- digits are not parted at a point between them, but at a dash
number_parts : parts_of (codes "1.2") ≡ codes "1.2" ∷ []
unfolding cut
number_parts = refl

range_parts : parts_of (codes "1-2") ≡ codes "1-" ∷ codes "2" ∷ []
unfolding cut
range_parts = refl

-- a point that has a digit on one side alone parts
letter_and_digit : parts_of (codes "a.2") ≡ codes "a." ∷ codes "2" ∷ []
unfolding cut
letter_and_digit = refl

digit_and_letter : parts_of (codes "1.a") ≡ codes "1." ∷ codes "a" ∷ []
unfolding cut
digit_and_letter = refl

-- an empty text has no part
no_parts : parts_of [] ≡ []
unfolding cut
no_parts = refl

-- ---- words that are broken above a number of columns

-- `usr/` has four columns: above four both parts are whole, and above three it is in its clusters
path_above_four : word_pieces 4 (codes "usr/lib") ≡ codes "usr/" ∷ codes "lib" ∷ []
unfolding cut unicode_width unicode_segmentation
path_above_four = refl

path_above_three : word_pieces 3 (codes "usr/lib") ≡ codes "u" ∷ codes "s" ∷ codes "r" ∷ codes "/" ∷ codes "lib" ∷ []
unfolding cut unicode_width unicode_segmentation
path_above_three = refl

-- a word of exactly so many columns stays whole, and above one column less it does not
three_above_three : word_pieces 3 (codes "a-b") ≡ codes "a-b" ∷ []
unfolding cut unicode_width unicode_segmentation
three_above_three = refl

three_above_two : word_pieces 2 (codes "a-b") ≡ codes "a-" ∷ codes "b" ∷ []
unfolding cut unicode_width unicode_segmentation
three_above_two = refl

-- a word of one part that is too wide is in its clusters
number_above_two : word_pieces 2 (codes "1.2") ≡ codes "1" ∷ codes "." ∷ codes "2" ∷ []
unfolding cut unicode_width unicode_segmentation
number_above_two = refl

end_above_one : word_pieces 1 (codes "a/") ≡ codes "a" ∷ codes "/" ∷ []
unfolding cut unicode_width unicode_segmentation
end_above_one = refl

-- a word of two parts that are not too wide is in its parts
name_above_two : word_pieces 2 (codes "a.2") ≡ codes "a." ∷ codes "2" ∷ []
unfolding cut unicode_width unicode_segmentation
name_above_two = refl

-- above 0 each word is in its clusters
letter_above_none : word_pieces 0 (codes "ab") ≡ codes "a" ∷ codes "b" ∷ []
unfolding cut unicode_width unicode_segmentation
letter_above_none = refl

-- the first piece begins a word, and the others go on with it; what goes on with a word stays, though
-- it is wide
broken_path : broken_above 2 (Word (codes "a-b") ∷ Glue (codes "c-d") ∷ Break ∷ aa ∷ [])
    ≡ Word (codes "a-") ∷ Glue (codes "b") ∷ Glue (codes "c-d") ∷ Break ∷ aa ∷ []
unfolding cut unicode_width unicode_segmentation
broken_path = refl

-- ---- units that make up a unit

-- `a` that goes on with `b` makes up `ab`, and `a` before a word `b` does not
made_up : MakesUp ab (a ∷ Glue (codes "b") ∷ [])
made_up = (codes "a" ∷ codes "b" ∷ [], refl, refl)

two_words_apart : MakesUp ab (a ∷ b ∷ []) → ⊥
two_words_apart ([], units, text) = absurd (cc)
two_words_apart (first ∷ [], units, text) = absurd (cc)
two_words_apart (first ∷ second ∷ others, units, text) = absurd (cc)

-- `a` alone does not make up `ab`: no text is lost
one_letter : MakesUp ab (a ∷ []) → ⊥
one_letter ([], units, text) = absurd (cc)
one_letter (first ∷ [], units, text) = absurd (cc)
one_letter (first ∷ second ∷ others, units, text) = absurd (cc)
