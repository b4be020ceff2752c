-- Paragraphs in which only the words wider than a number of columns may be broken: after the marks at
-- which people part paths, identifiers and addresses, and between the clusters of a part that is wider
-- still.
use Rattle.std.specs.Prelude.{ℕ, Bool, false, not, ◌&&◌, List, [], ◌∷◌, Option, Some, None, if◌then◌else◌, nat_lt, nat_le, codes}
use Rattle.std.specs.List.{flat_map}
use Rattle.std.specs.Char.{is_ascii_alphanumeric, is_ascii_digit}
use Rattle.unicode_segmentation.specs.Segments.{Rule, cut}
use Rattle.tl_base.specs.Lists.{is_among}
use Rattle.tl_text.specs.declared.paragraph.Atom.{Atom}
use Rattle.tl_text.specs.declared.paragraph.Atom.TheVariants.{Word, Glue, Break}
use Rattle.tl_text.specs.Words.{width_of}
use Rattle.tl_text.specs.Clusters.{clusters_of, word_of}

-- a character after which a word may be parted
abbrev pub is_mark : ℕ → Bool
is_mark c = is_among (codes "-/_.,:;=?&+#@%") c

-- a mark that stands between the digits of a number or a time
abbrev pub is_point : ℕ → Bool
is_point c = is_among (codes ".,:") c

-- the character before a place, if one stands there, is a digit
abbrev pub is_digit : Option ℕ → Bool
is_digit None = false
is_digit (Some c) = is_ascii_digit c

-- a part ends between these two characters, where the third stands before them: the first is a mark,
-- and the second a letter or digit of ASCII; but a number is not parted at its point
abbrev pub parts_between : Option ℕ → Option ℕ → ℕ → Bool
parts_between previous None next = false
parts_between previous (Some mark) next =
    is_mark mark && is_ascii_alphanumeric next && not (is_point mark && is_digit previous && is_ascii_digit next)

-- the nearest of the characters before a place, and the one before it
abbrev pub nearest : List ℕ → Option ℕ
nearest [] = None
nearest (c ∷ before) = Some c

abbrev pub second : List ℕ → Option ℕ
second [] = None
second (c ∷ before) = nearest before

-- a part ends between the characters before a place, nearest first, and those after it
abbrev pub is_part_break : Rule
is_part_break before [] = false
is_part_break before (next ∷ after) = parts_between (second before) (nearest before) next

-- the parts of a text, in order
abbrev pub parts_of : List ℕ → List (List ℕ)
parts_of text = cut is_part_break [] text []

-- a text of at most `most` columns stays whole; with 0 none does
abbrev pub stays_whole : ℕ → List ℕ → Bool
stays_whole most text = nat_lt 0 most && nat_le (width_of text) most

-- the pieces of a part: itself, or its clusters where it is too wide
abbrev pub part_pieces : ℕ → List ℕ → List (List ℕ)
part_pieces most part = if stays_whole most part then part ∷ [] else clusters_of part

-- the pieces of a word: itself, or those of its parts where it is too wide
abbrev pub word_pieces : ℕ → List ℕ → List (List ℕ)
word_pieces most text = if stays_whole most text then text ∷ [] else flat_map (part_pieces most) (parts_of text)

-- a word becomes a word of its pieces; any other atom stays
abbrev pub units_within : ℕ → Atom → List Atom
units_within most (Word text) = word_of (word_pieces most text)
units_within most (Glue text) = Glue text ∷ []
units_within most Break = Break ∷ []

-- the paragraph with each word of more than `most` columns in its pieces
abbrev pub broken_above : ℕ → List Atom → List Atom
broken_above most atoms = flat_map (units_within most) atoms
