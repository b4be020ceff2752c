-- ASCII bytes are their own characters.
use Rattle.std.proofs.Common.{◌≡◌, ℕ, true, ltb, List, [], ◌∷◌}
use Rattle.std.specs.Str.{chars, IsAscii}
use Rattle.std.proofs.lemmas.Bool.{ltb-true, and_parts}
use Rattle.std.proofs.lemmas.Str.{chars-IsAscii}
use Rattle.std.proofs.lemmas.Str.Ascii.{IsAscii-nil, IsAscii-cons}
use Rattle.tl_base.specs.Text.{is_ascii}

pub IsAscii-from_test : (bytes : List ℕ) → is_ascii bytes ≡ true → IsAscii bytes
IsAscii-from_test [] h = IsAscii-nil
IsAscii-from_test (byte ∷ bytes) h =
    let both = and_parts (ltb byte 128) (is_ascii bytes) h in
    IsAscii-cons byte bytes (ltb-true byte 128 both.0) (IsAscii-from_test bytes both.1)

pub chars-is_ascii : (bytes : List ℕ) → is_ascii bytes ≡ true → chars bytes ≡ bytes
chars-is_ascii bytes h = chars-IsAscii bytes (IsAscii-from_test bytes h)
