-- The numbers of attributes, by the HTML Standard's rules for parsing non-negative integers
-- (section 2.3.4.2): white space, one `+` or `-` or none, one or more digits, and then anything.
use Rattle.std.specs.Prelude.{ℕ, ◌+◌, ◌*◌, min, max, Bool, ◌&&◌, nat_lt, List, [], ◌∷◌, drop, Option, Some, None, if◌then◌else◌}
use Rattle.std.specs.List.{fold}
use Rattle.std.specs.Char.{is_ascii_digit, digit_value}
use Rattle.tl_base.specs.declared.limits.TheConstants.{MAX_COLSPAN, MAX_ROWSPAN, MAX_PAGE_WIDTH}
use Rattle.tl_token.specs.Characters.{◌∈◌, is_space, begins, run, past}

-- the number that the digits of a base stand for, after the digits that stand for n
abbrev pub number_from : ℕ → ℕ → List ℕ → ℕ
number_from base n digits = fold (λ n c. n * base + digit_value c) n digits

-- the number that the digits of a base stand for
abbrev pub number : ℕ → List ℕ → ℕ
number base digits = number_from base 0 digits

-- the text without the sign at its start, if one stands there
abbrev pub unsigned : List ℕ → List ℕ
unsigned cs = if begins (λ c. c ∈ "+-") cs then drop 1 cs else cs

-- The number of the digits, where a `-` stands before them or none does. No digit is no number, and
-- neither is a negative number; `-0` is 0.
abbrev pub signed_number : Bool → List ℕ → Option ℕ
signed_number is_negative [] = None
signed_number is_negative (d ∷ ds) =
    if is_negative && nat_lt 0 (number 10 (d ∷ ds)) then None else Some (number 10 (d ∷ ds))

-- The number that a value begins with. None is a fault: there is no digit, or the number is
-- negative.
abbrev pub number_of : List ℕ → Option ℕ
number_of value =
    let cs = past is_space value in
    signed_number (begins (λ c. c ∈ "-") cs) (run is_ascii_digit (unsigned cs))

-- The columns of a cell, a `col` or a `colgroup`: 1 where there is no number or it is 0, and at
-- most `MAX_COLSPAN`.
abbrev pub columns_spanned : Option ℕ → ℕ
columns_spanned None = 1
columns_spanned (Some n) = max 1 (min n MAX_COLSPAN)

-- The rows of a cell: 1 where there is no number, 0 for "grows downward", and at most `MAX_ROWSPAN`.
abbrev pub rows_spanned : Option ℕ → ℕ
rows_spanned None = 1
rows_spanned (Some n) = min n MAX_ROWSPAN

-- The columns of text that a cell is wide at least: 0 where there is no number, and at most `MAX_PAGE_WIDTH`.
abbrev pub floor_of : Option ℕ → ℕ
floor_of None = 0
floor_of (Some n) = min n MAX_PAGE_WIDTH
