-- Lines at their sides of a room, and a page of them, drawn by hand: the head and the numbers below it stand at the right.
--
--   +----+---+
--   |Item| No|
--   +----+---+
--   |ab  |120|
--   +----+---+
use Rattle.std.proofs.Common.{◌≡◌, ℕ, ◌+◌, List, [], ◌∷◌, None, codes, map, encode_utf8_all, refl}
use Rattle.std.specs.Char.{encode_utf8}
use Rattle.tl_base.specs.declared.style.Style.TheVariants.{Plain, Frame}
use Rattle.tl_sides.specs.declared.side.Side.TheVariants.{Left, Right, Center}
use Rattle.tl_grid.specs.declared.shape.Place.{Place}
use Rattle.tl_page.specs.declared.line.TextLine.{TextLine}
use Rattle.tl_page.specs.Corners.{Grid}
use Rattle.tl_page.specs.Pages.{aligned, indent}
use Rattle.tl_page.specs.Pictures.{picture, lines_of}

-- a line of characters of one column each
abbrev line : List ℕ → ℕ → TextLine
line text width = record { text = text; width = width }

-- ---- one line of 3 columns in a room of 6

at_left : aligned Left 6 (line (codes "abc") 3) ≡ line (codes "abc") 3
unfolding encode_utf8
at_left = refl

at_right : aligned Right 6 (line (codes "abc") 3) ≡ line (codes "   abc") 6
unfolding encode_utf8
at_right = refl

-- one space before it, and two columns are left after it
in_the_middle : aligned Center 6 (line (codes "abc") 3) ≡ line (codes " abc") 4
unfolding encode_utf8
in_the_middle = refl

-- as much on both sides
even : indent Center 6 2 ≡ 2
even = refl

-- a line that fills its room
full : aligned Center 3 (line (codes "abc") 3) ≡ line (codes "abc") 3
unfolding encode_utf8
full = refl

-- a wide character takes two columns
wide : aligned Right 5 (line (encode_utf8_all (codes "日")) 2) ≡ line (encode_utf8_all (codes "   日")) 5
unfolding encode_utf8
wide = refl

-- ---- a page

abbrev place : ℕ → ℕ → Place
place left top = record { left = left; right = left + 1; top = top; bottom = top + 1 }

abbrev prices : Grid
prices = record {
  cols = 2;
  rows = 2;
  places = place 0 0 ∷ place 1 0 ∷ place 0 1 ∷ place 1 1 ∷ [];
  head = None;
  end = 0;
}

abbrev contents : List (List TextLine)
contents =
    map (aligned Left 4) (line (codes "Item") 4 ∷ [])
    ∷ map (aligned Right 3) (line (codes "No") 2 ∷ [])
    ∷ map (aligned Left 4) (line (codes "ab") 2 ∷ [])
    ∷ map (aligned Right 3) (line (codes "120") 3 ∷ []) ∷ []

framed : lines_of (picture Frame prices (4 ∷ 3 ∷ []) (1 ∷ 1 ∷ []) contents) ≡
    codes "+----+---+"
    ∷ codes "|Item| No|"
    ∷ codes "+----+---+"
    ∷ codes "|ab  |120|"
    ∷ codes "+----+---+" ∷ []
unfolding encode_utf8
framed = refl

plain : lines_of (picture Plain prices (4 ∷ 3 ∷ []) (1 ∷ 1 ∷ []) contents) ≡ codes "Item   No" ∷ codes "ab    120" ∷ []
unfolding encode_utf8
plain = refl

-- two lines of one cell, each alone
alone : lines_of (picture Plain (record { cols = 1; rows = 1; places = place 0 0 ∷ []; head = None; end = 0 }) (6 ∷ []) (2 ∷ [])
    (map (aligned Center 6) (line (codes "aa b") 4 ∷ line (codes "ccc") 3 ∷ []) ∷ [])) ≡ codes " aa b " ∷ codes " ccc  " ∷ []
unfolding encode_utf8
alone = refl
