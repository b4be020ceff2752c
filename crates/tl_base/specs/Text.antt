-- Texts, which contracts see as the lists of their characters (Unicode scalar values).
use Rattle.std.specs.Prelude.{ℕ, Bool, true, ◌&&◌, nat_lt, List, [], ◌∷◌, length}
use Rattle.std.specs.Str.{encode_utf8_all}

-- how many bytes a text takes in UTF-8
abbrev pub byte_count : List ℕ → ℕ
byte_count text = length (encode_utf8_all text)

-- each byte is an ASCII character
abbrev pub is_ascii : List ℕ → Bool
is_ascii [] = true
is_ascii (byte ∷ bytes) = nat_lt byte 128 && is_ascii bytes
