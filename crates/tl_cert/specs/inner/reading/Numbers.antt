-- No public clause cites this file. The reading of a number and of the character that ends it.
use Rattle.std.specs.Prelude.{ℕ, suc, ◌+◌, ◌*◌, ◌-◌, nat_le, Bool, true, ◌&&◌, ◌==◌, List, [], ◌∷◌, length, if◌then◌else◌}
use Rattle.std.specs.Char.{is_ascii_digit}
use Rattle.tl_cert.specs.inner.reading.Readings.{got, wrong, outside, Reading, ◌>>=◌, give, begins}

-- the number that digits go on with from this one, and what follows the digits
abbrev pub read_run : ℕ → List ℕ → ℕ × List ℕ
read_run n [] = (n, [])
read_run n (c ∷ text) = if is_ascii_digit c then read_run (10 * n + (c - 48)) text else (n, c ∷ text)

-- the character that ends the number
abbrev pub ended : (ℕ → ℕ → Bool) → ℕ → Reading (ℕ × ℕ)
ended allowed n [] = wrong 0
ended allowed n (e ∷ rest) = if allowed n e then got (n, e) rest else wrong (suc (length rest))

-- The number, whole, is one that may stand here, is within its range, and is ended. `left` counts from its first digit on.
abbrev pub run_ended : (low high : ℕ) → (ℕ → Bool) → (ℕ → ℕ → Bool) → (left n : ℕ) → Reading (ℕ × ℕ)
run_ended low high possible allowed left n rest =
    if possible n then (if nat_le low n && nat_le n high then ended allowed n rest else outside left) else wrong (length rest)

-- A zero stands alone.
abbrev pub zero_ended : (low high : ℕ) → (ℕ → Bool) → (ℕ → ℕ → Bool) → Reading (ℕ × ℕ)
zero_ended low high possible allowed rest =
    if possible 0 then (if begins is_ascii_digit rest then wrong (length rest) else run_ended low high possible allowed
    (suc (length rest)) 0 rest)
    else wrong (suc (length rest))

-- A canonical decimal and the character that ends it, where numbers that are not possible are ended by no character.
unfoldable pub number_reading : (low high : ℕ) → (ℕ → Bool) → (ℕ → ℕ → Bool) → Reading (ℕ × ℕ)
number_reading low high possible allowed [] = wrong 0
number_reading low high possible allowed (c ∷ text) =
    if is_ascii_digit c
    then (if c == 48 then zero_ended low high possible allowed text
    else (let run = read_run (c - 48) text in run_ended low high possible allowed (suc (length text)) (run.0) (run.1)))
    else wrong (suc (length text))

-- a number that this character ends
unfoldable pub field_at : (low high end : ℕ) → Reading ℕ
field_at low high end = number_reading low high (λ n. true) (λ n c. c == end) >>= λ x. give (x.0)

-- a whole number up to `high` that may stand here, before what ends it
unfoldable pub run_at : ℕ → (ℕ → Bool) → Reading ℕ
run_at high possible [] = wrong 0
run_at high possible (c ∷ text) =
    if is_ascii_digit c
    then (if c == 48
    then (if possible 0 then (if begins is_ascii_digit text then wrong (length text) else got 0 text) else wrong
    (suc (length text)))
    else (let run = read_run (c - 48) text in
    if possible (run.0) then (if nat_le (run.0) high then got (run.0) (run.1) else outside (suc (length text))) else wrong
    (length run.1)))
    else wrong (suc (length text))

-- the number's lower limit, and the character that ends it
abbrev pub least_ended : ℕ → (ℕ → ℕ → Bool) → ℕ → ℕ → Reading (ℕ × ℕ)
least_ended low allowed left n rest = if nat_le low n then ended allowed n rest else outside left
