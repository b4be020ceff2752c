-- Tables, drawn by hand. The first has a cell over both columns, one below on the left, and a slot
-- that no cell covers; its columns are 2 and 3 wide. The second has a cell over two rows beside two others. The third has a
-- nested
-- table in a cell beside an uncovered slot.
--
--   plain      frame          frame      frame
--   aaaa       +------+       +-+-+      +---+-+
--   bb         |aaaa  |       |a|b|      |a  |b|
--              +--+---+       | +-+      +---+-+
--              |bb|   |       |a|c|      |+-+| |
--              +--+---+       +-+-+      ||x|| |
--                                        |+-+| |
--                                        +---+-+
use Rattle.std.proofs.Common.{◌≡◌, inr, ℕ, List, [], ◌∷◌, Option, Some, None, codes, map, encode_utf8_all, refl, arith}
use Rattle.std.specs.Char.{encode_utf8}
use Rattle.tl_base.specs.declared.style.Style.{Style}
use Rattle.tl_base.specs.declared.style.Style.TheVariants.{Plain, Compact, Frame, Box, Rule, Apart}
use Rattle.tl_base.specs.declared.style.Style.TheVariants as styles
use Rattle.tl_grid.specs.declared.shape.Place.{Place}
use Rattle.tl_page.specs.declared.line.TextLine.{TextLine}
use Rattle.tl_page.specs.Corners.{Grid}
use Rattle.tl_page.specs.Pictures.{Picture, picture, lines_of}
use Rattle.tl_page.specs.Standing.{TextStandsAt}
use Rattle.tl_page.specs.Widths.{TakesColumns}

abbrev place : ℕ → ℕ → ℕ → ℕ → Place
place left right top bottom = record { left = left; right = right; top = top; bottom = bottom }

-- a grid; its head, if there is one, ends under the last row of it
abbrev grid : ℕ → ℕ → List Place → Option ℕ → Grid
grid cols rows places None = record { cols = cols; rows = rows; places = places; head = None; end = 0 }
grid cols rows places (Some row) = record { cols = cols; rows = rows; places = places; head = Some row; end = row }

-- ---- a span of columns

abbrev over_both : Place
over_both = place 0 2 0 1

abbrev below : Place
below = place 0 1 1 2

abbrev spanned : Style → Option ℕ → Picture
spanned style head = picture style (grid 2 2 (over_both ∷ below ∷ []) head) (2 ∷ 3 ∷ []) (1 ∷ 1 ∷ [])
    ((record { text = codes "aaaa"; width = 4 } ∷ []) ∷ (record { text = codes "bb"; width = 2 } ∷ []) ∷ [])

spanned_plain : lines_of (spanned Plain None) ≡ codes "aaaa   " ∷ codes "bb     " ∷ []
unfolding encode_utf8
spanned_plain = refl

spanned_compact : lines_of (spanned Compact None) ≡ codes "aaaa  " ∷ codes "bb    " ∷ []
unfolding encode_utf8
spanned_compact = refl

spanned_frame : lines_of (spanned Frame None) ≡
    codes "+------+"
    ∷ codes "|aaaa  |"
    ∷ codes "+--+---+"
    ∷ codes "|bb|   |"
    ∷ codes "+--+---+" ∷ []
unfolding encode_utf8
spanned_frame = refl

-- the first row is the head, or no row is: the line under it goes through where the cell below ends
spanned_grid : lines_of (spanned styles.Grid (Some 1)) ≡
    codes "+------+"
    ∷ codes "|aaaa  |"
    ∷ codes "+==+===+"
    ∷ codes "|bb|   |"
    ∷ codes "+--+---+" ∷ []
unfolding encode_utf8
spanned_grid = refl

spanned_box : lines_of (spanned Box (Some 1)) ≡ map encode_utf8_all (
    codes "┌──────┐"
    ∷ codes "│aaaa  │"
    ∷ codes "╞══╤═══╡"
    ∷ codes "│bb│   │"
    ∷ codes "└──┴───┘" ∷ [])
unfolding encode_utf8
spanned_box = refl

spanned_light : lines_of (spanned Box None) ≡ map encode_utf8_all (
    codes "┌──────┐"
    ∷ codes "│aaaa  │"
    ∷ codes "├──┬───┤"
    ∷ codes "│bb│   │"
    ∷ codes "└──┴───┘" ∷ [])
unfolding encode_utf8
spanned_light = refl

-- in style frame the head shows in nothing
spanned_frame_head : lines_of (spanned Frame (Some 1)) ≡ lines_of (spanned Frame None)
unfolding encode_utf8
spanned_frame_head = refl

-- the side of the frame takes one column
side_width : TakesColumns (codes "|") 1
unfolding encode_utf8
side_width = record {
  pieces = record { text = codes "|"; width = 1 } ∷ [];
  each = (inr (0x7C, (1, omega arith, refl), refl), tt);
  bytes = refl;
  columns = refl;
}

-- the text of the first cell stands on line 1, and that of the second on line 3, each after the side
first_stands : TextStandsAt (lines_of (spanned Frame None)) 1 1 (codes "aaaa")
unfolding encode_utf8
first_stands = record { before = codes "|"; after = codes "  |"; columns = side_width; line = refl }

second_stands : TextStandsAt (lines_of (spanned Frame None)) 1 3 (codes "bb")
unfolding encode_utf8
second_stands = record { before = codes "|"; after = codes "|   |"; columns = side_width; line = refl }

-- ---- a span of rows

abbrev beside : Place
beside = place 0 1 0 2

abbrev upper : Place
upper = place 1 2 0 1

abbrev lower : Place
lower = place 1 2 1 2

abbrev one : ℕ → TextLine
one letter = record { text = letter ∷ []; width = 1 }

abbrev tall : Picture
tall = picture Frame (grid 2 2 (beside ∷ upper ∷ lower ∷ []) None) (1 ∷ 1 ∷ []) (1 ∷ 1 ∷ [])
    ((one 0x61 ∷ one 0x20 ∷ one 0x61 ∷ []) ∷ (one 0x62 ∷ []) ∷ (one 0x63 ∷ []) ∷ [])

-- the content of the cell over both rows goes on through the rule between them
tall_frame : lines_of tall ≡
    codes "+-+-+"
    ∷ codes "|a|b|"
    ∷ codes "| +-+"
    ∷ codes "|a|c|"
    ∷ codes "+-+-+" ∷ []
unfolding encode_utf8
tall_frame = refl

-- ---- a caption and a head

abbrev cells_of_three_rows : List Place
cells_of_three_rows = place 0 2 0 1 ∷ place 0 1 1 2 ∷ place 1 2 1 2 ∷ place 0 1 2 3 ∷ place 1 2 2 3 ∷ []

abbrev captioned : Style → Option ℕ → Picture
captioned style head = picture style (grid 2 3 cells_of_three_rows head) (1 ∷ 1 ∷ []) (1 ∷ 1 ∷ 1 ∷ [])
    ((one 0x74 ∷ []) ∷ (one 0x61 ∷ []) ∷ (one 0x62 ∷ []) ∷ (one 0x63 ∷ []) ∷ (one 0x64 ∷ []) ∷ [])

-- the line under the caption is light, and that under the head, which ends with the second row, is double
captioned_box : lines_of (captioned Box (Some 2)) ≡ map encode_utf8_all (
    codes "┌───┐"
    ∷ codes "│t  │"
    ∷ codes "├─┬─┤"
    ∷ codes "│a│b│"
    ∷ codes "╞═╪═╡"
    ∷ codes "│c│d│"
    ∷ codes "└─┴─┘" ∷ [])
unfolding encode_utf8
captioned_box = refl

captioned_grid : lines_of (captioned styles.Grid (Some 2)) ≡
    codes "+---+"
    ∷ codes "|t  |"
    ∷ codes "+-+-+"
    ∷ codes "|a|b|"
    ∷ codes "+=+=+"
    ∷ codes "|c|d|"
    ∷ codes "+-+-+" ∷ []
unfolding encode_utf8
captioned_grid = refl

-- ---- style rule

-- a head of one row over two columns
abbrev fares : Picture
fares = picture Rule (grid 2 2 (place 0 1 0 1 ∷ place 1 2 0 1 ∷ place 0 1 1 2 ∷ place 1 2 1 2 ∷ []) (Some 1)) (5 ∷ 4 ∷ [])
    (1 ∷ 1 ∷ [])
    ((record { text = codes "name"; width = 4 } ∷ []) ∷ (record { text = codes "fare"; width = 4 } ∷ [])
    ∷ (record { text = codes "Bern"; width = 4 } ∷ []) ∷ (record { text = codes "12"; width = 2 } ∷ []) ∷ [])

fares_rule : lines_of fares ≡ codes "name  fare" ∷ codes "----- ----" ∷ codes "Bern  12  " ∷ []
unfolding encode_utf8
fares_rule = refl

-- the text below the line stands on the third line of the page
below_rule : TextStandsAt (lines_of fares) 0 2 (codes "Bern")
unfolding encode_utf8
below_rule = record {
  before = [];
  after = codes "  12  ";
  columns = record { pieces = []; each = tt; bytes = refl; columns = refl };
  line = refl;
}

-- under a head cell over both columns the gap between them stays blank, and the line goes on over a slot without a cell
spanned_rule : lines_of (spanned Rule (Some 1)) ≡ codes "aaaa  " ∷ codes "-- ---" ∷ codes "bb    " ∷ []
unfolding encode_utf8
spanned_rule = refl

-- no line under the caption, which stands above the head
captioned_rule : lines_of (captioned Rule (Some 2)) ≡ codes "t  " ∷ codes "a b" ∷ codes "- -" ∷ codes "c d" ∷ []
unfolding encode_utf8
captioned_rule = refl

-- without a head there is no line, nor under one with nothing below it
no_head_rule : lines_of (captioned Rule None) ≡ codes "t  " ∷ codes "a b" ∷ codes "c d" ∷ []
unfolding encode_utf8
no_head_rule = refl

head_alone_rule : lines_of (captioned Rule (Some 3)) ≡ lines_of (captioned Rule None)
unfolding encode_utf8
head_alone_rule = refl

-- ---- style apart

-- under the head stands a line, between two rows below it an empty one, and after the last row none
abbrev more_fares : Picture
more_fares = picture Apart (grid 2 3 (place 0 1 0 1 ∷ place 1 2 0 1 ∷ place 0 1 1 2 ∷ place 1 2 1 2 ∷ place 0 1 2 3 ∷ place 1 2 2 3 ∷ [])
    (Some 1)) (5 ∷ 4 ∷ []) (1 ∷ 1 ∷ 1 ∷ [])
    ((record { text = codes "name"; width = 4 } ∷ []) ∷ (record { text = codes "fare"; width = 4 } ∷ [])
    ∷ (record { text = codes "Bern"; width = 4 } ∷ []) ∷ (record { text = codes "12"; width = 2 } ∷ [])
    ∷ (record { text = codes "Chur"; width = 4 } ∷ []) ∷ (record { text = codes "8"; width = 1 } ∷ []) ∷ [])

fares_apart : lines_of more_fares ≡
    codes "name  fare"
    ∷ codes "----- ----"
    ∷ codes "Bern  12  "
    ∷ codes "          "
    ∷ codes "Chur  8   " ∷ []
unfolding encode_utf8
fares_apart = refl

-- the text of the last row stands on the fifth line of the page
last_apart : TextStandsAt (lines_of more_fares) 0 4 (codes "Chur")
unfolding encode_utf8
last_apart = record {
  before = [];
  after = codes "  8   ";
  columns = record { pieces = []; each = tt; bytes = refl; columns = refl };
  line = refl;
}

-- the text of a cell over two rows goes on through the empty line beside it
tall_apart : lines_of (picture Apart (grid 2 2 (beside ∷ upper ∷ lower ∷ []) None) (1 ∷ 1 ∷ []) (1 ∷ 1 ∷ [])
    ((one 0x61 ∷ one 0x62 ∷ one 0x63 ∷ []) ∷ (one 0x78 ∷ []) ∷ (one 0x79 ∷ []) ∷ [])) ≡
    codes "a x" ∷ codes "b  " ∷ codes "c y" ∷ []
unfolding encode_utf8
tall_apart = refl

-- no line stands between two rows of a head, nor under a caption
headed_apart : lines_of (captioned Apart (Some 2)) ≡ codes "t  " ∷ codes "a b" ∷ codes "- -" ∷ codes "c d" ∷ []
unfolding encode_utf8
headed_apart = refl

-- a caption ends at the first row, and without a head all rows below it stand apart
caption_apart : lines_of (picture Apart (record { cols = 2; rows = 3; places = cells_of_three_rows; head = None; end = 1 })
    (1 ∷ 1 ∷ []) (1 ∷ 1 ∷ 1 ∷ [])
    ((one 0x74 ∷ []) ∷ (one 0x61 ∷ []) ∷ (one 0x62 ∷ []) ∷ (one 0x63 ∷ []) ∷ (one 0x64 ∷ []) ∷ [])) ≡
    codes "t  " ∷ codes "a b" ∷ codes "   " ∷ codes "c d" ∷ []
unfolding encode_utf8
caption_apart = refl

-- ---- hardly any table

-- a table without columns has no line
none_frame : lines_of (picture Frame (grid 0 0 [] None) [] [] []) ≡ []
none_frame = refl

-- a table with a column and a row without content is two lines of corners
empty_frame : lines_of (picture Frame (grid 1 1 (place 0 1 0 1 ∷ []) None) (0 ∷ []) (0 ∷ []) ([] ∷ [])) ≡
    codes "++" ∷ codes "++" ∷ []
unfolding encode_utf8
empty_frame = refl

-- ---- a nested table beside a slot that no cell covers

abbrev nested : Picture
nested = picture Frame (grid 1 1 (place 0 1 0 1 ∷ []) None) (1 ∷ []) (1 ∷ []) ((one 0x78 ∷ []) ∷ [])

abbrev around : Style → List TextLine → Picture
around style page = picture style (grid 2 2 (place 0 1 0 1 ∷ place 1 2 0 1 ∷ place 0 1 1 2 ∷ []) None)
    (3 ∷ 1 ∷ []) (1 ∷ 3 ∷ [])
    ((one 0x61 ∷ []) ∷ (one 0x62 ∷ []) ∷ page ∷ [])

abbrev nested_page : List TextLine
nested_page = map (λ text. record { text = text; width = 3 }) (lines_of nested)

nested_frame : lines_of (around Frame nested_page) ≡
    codes "+---+-+"
    ∷ codes "|a  |b|"
    ∷ codes "+---+-+"
    ∷ codes "|+-+| |"
    ∷ codes "||x|| |"
    ∷ codes "|+-+| |"
    ∷ codes "+---+-+" ∷ []
unfolding encode_utf8
nested_frame = refl

-- in style plain the slot is blank, and so is the gap
nested_plain : lines_of (around Plain nested_page) ≡
    codes "a    b" ∷ codes "+-+   " ∷ codes "|x|   " ∷ codes "+-+   " ∷ []
unfolding encode_utf8
nested_plain = refl
