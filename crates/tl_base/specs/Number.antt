-- Canonical decimal numbers: digits with no leading zero, and a lone `0` for zero.
use Rattle.std.specs.Prelude.{◌≡◌, ℕ, ◌<◌, ◌^◌, List, drop, take_while, decimal}
use Rattle.std.specs.Char.{is_ascii_digit}

-- the whole run of ASCII digits that begins at a place
abbrev pub digit_run : List ℕ → ℕ → List ℕ
digit_run bytes at = take_while is_ascii_digit (drop at bytes)

-- the whole run of digits at the place is the canonical decimal of `n`, a number of 64 bits
abbrev pub NumberStandsAt : List ℕ → ℕ → ℕ → Type 0
NumberStandsAt bytes at n = (n < 2 ^ 64) × (digit_run bytes at ≡ decimal n)
