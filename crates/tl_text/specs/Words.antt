-- Words and how wide they are. White space is ASCII whitespace of the Infra Standard; a width is that
-- of the crate `unicode_width`, in columns.
use Rattle.std.specs.Prelude.{ℕ, Bool, false, List, length, filter, nat_lt}
use Rattle.std.specs.List.{slice_split}
use Rattle.std.specs.Char.{is_ascii_whitespace}
use Rattle.unicode_width.specs.Width.{str_width}

-- some character stands in the text
abbrev pub has_character : List ℕ → Bool
has_character text = nat_lt 0 (length text)

-- the words of a text: it is split at each white space character, and the parts with a character
-- count
abbrev pub words_of : List ℕ → List (List ℕ)
words_of text = filter has_character (slice_split is_ascii_whitespace text)

-- how many columns a text takes
abbrev pub width_of : List ℕ → ℕ
width_of text = str_width false text
