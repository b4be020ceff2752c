-- The characters that the lines of a table are drawn with. Where four slots meet, the character is chosen by the sides of
-- that place on which a line is drawn: up, down, to the left and to the right of it. Fewer than two never are, since where a
-- line parts two of the slots, another one does too. Signs are codes of characters; the page has them in UTF-8.
--
--   frame    grid    box      rule      the second line is the one under the head; in styles rule and apart it is the only one
--   +-+-+    +-+-+   ┌─┬─┐
--   +-+-+    +=+=+   ╞═╪═╡    - -
--   +-+-+    +-+-+   └─┴─┘
use Rattle.std.specs.Prelude.{ℕ, Bool, true, false, List, codes, replicate, encode_utf8_all}
use Rattle.std.specs.List.{Contains}
use Rattle.tl_base.specs.declared.style.Style.{Style}
use Rattle.tl_base.specs.declared.style.Style.TheVariants.{Plain, Compact, Frame, Grid, Box, Rule, Apart}

-- lines of `|` and `+`, and of `rule` from left to right
abbrev pub ascii_sign : ℕ → Bool → Bool → Bool → Bool → ℕ
ascii_sign rule true true false false = 0x7C
ascii_sign rule false false true true = rule
ascii_sign rule up down left right = 0x2B

-- light lines
abbrev pub light_sign : Bool → Bool → Bool → Bool → ℕ
light_sign true true false false = 0x2502  -- │
light_sign false false true true = 0x2500  -- ─
light_sign false true false true = 0x250C  -- ┌
light_sign false true true false = 0x2510  -- ┐
light_sign true false false true = 0x2514  -- └
light_sign true false true false = 0x2518  -- ┘
light_sign true true false true = 0x251C  -- ├
light_sign true true true false = 0x2524  -- ┤
light_sign false true true true = 0x252C  -- ┬
light_sign true false true true = 0x2534  -- ┴
light_sign true true true true = 0x253C  -- ┼
light_sign up down left right = 0x20

-- light lines from top to bottom, and double ones from left to right
abbrev pub double_sign : Bool → Bool → Bool → Bool → ℕ
double_sign true true false false = 0x2502  -- │
double_sign false false true true = 0x2550  -- ═
double_sign false true false true = 0x2552  -- ╒
double_sign false true true false = 0x2555  -- ╕
double_sign true false false true = 0x2558  -- ╘
double_sign true false true false = 0x255B  -- ╛
double_sign true true false true = 0x255E  -- ╞
double_sign true true true false = 0x2561  -- ╡
double_sign false true true true = 0x2564  -- ╤
double_sign true false true true = 0x2567  -- ╧
double_sign true true true true = 0x256A  -- ╪
double_sign up down left right = 0x20

-- the sign by the style, whether it stands on the line under the head, and its sides up, down, left and right; in styles
-- plain and compact all are spaces, and in styles rule and apart all that are not on that line
abbrev pub sign : Style → Bool → Bool → Bool → Bool → Bool → ℕ
sign Plain under up down left right = 0x20
sign Compact under up down left right = 0x20
sign Frame under up down left right = ascii_sign 0x2D up down left right
sign Grid false up down left right = ascii_sign 0x2D up down left right
sign Grid true up down left right = ascii_sign 0x3D up down left right
sign Box false up down left right = light_sign up down left right
sign Box true up down left right = double_sign up down left right
sign Rule false up down left right = 0x20
sign Rule true up down left right = 0x2D
sign Apart false up down left right = 0x20
sign Apart true up down left right = 0x2D

-- all signs, and the space
abbrev pub signs : List ℕ
signs = codes " |-+=│─┌┐└┘├┤┬┴┼═╒╕╘╛╞╡╤╧╪"

-- a space, or a character of a line or of a corner
abbrev pub IsSign : ℕ → Type 0
IsSign character = Contains signs character

-- a sign so many times side by side, as bytes
abbrev pub run : ℕ → ℕ → List ℕ
run count character = encode_utf8_all (replicate count character)
