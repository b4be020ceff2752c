-- Which runs of digits are canonical decimals.
use Rattle.std.proofs.Common.{◌≡◌, ℕ, ◌<◌, ◌≤◌, ◌^◌, List, [], ◌∷◌, length, get_or, true, false, Bool, arith, ap, sym, take, ◌∙◌}
use Rattle.std.proofs.Common.{refl, cond, suc, zero, ◌&&◌}
use Rattle.std.specs.Fmt.{decimal}
use Rattle.std.specs.Char.{is_ascii_digit}
use Rattle.std.specs.List.{take_while}
use Rattle.std.specs.Str.{all_ascii_digits, IsUtf8}
use Rattle.std.specs.Prelude.{Result, Ok, Err, IfSome, IfNone, ◌≢◌}
use Rattle.std.specs.Result.{result_ok}
use Rattle.std.specs.Str.Parse.{digits_value, ParsesUnsigned}
use Rattle.std.proofs.lemmas.Str.{IsUtf8-from_ascii}
use Rattle.std.proofs.lemmas.Str.Parse.{IsNumeralModel, numerals_by_value, tells_all_ascii_digits, parse_digits}
use Rattle.std.proofs.lemmas.Fmt.{
  decimal_digit,
  first_decimal,
  IsAscii-from_digits,
  decimal-digits_value,
  parse-decimal,
  decimal_is_IsNumeral,
  decimal_injective,
}
use Rattle.tl_base.specs.Number.{NumberStandsAt}
use Rattle.std.proofs.lemmas.List.Sums.{take_while-cons}
use Rattle.std.proofs.lemmas.List.Folds.{length-prefix_len}

-- all ASCII digits, and their value, are std's digits and value
pub own : IsNumeralModel (λ ds. all_ascii_digits ds ≡ true) (digits_value 10)
own = numerals_by_value _ tells_all_ascii_digits

-- digits are text
pub digits_are_text : (ds : List ℕ) → all_ascii_digits ds ≡ true → IsUtf8 ds
digits_are_text ds digits = IsUtf8-from_ascii ds (IsAscii-from_digits ds (own.to ds digits))

-- a decimal begins with a zero only where that is its one digit
pub zero_is_alone : (n : ℕ) → n < 2 ^ 64 → get_or (decimal n) 0 0 ≡ 48 → length (decimal n) ≡ 1
zero_is_alone zero small first = rw (decimal_digit 0 (omega arith))
zero_is_alone (suc m) small first = omega (arith, first_decimal (suc m) (omega arith) small)

-- a digit before digits
digits_step : (is_digit : Bool) (b : ℕ) (ds : List ℕ) → is_ascii_digit b ≡ is_digit →
    all_ascii_digits ds ≡ true → all_ascii_digits (cond is_digit (b ∷ ds) []) ≡ true
digits_step false b ds is digits = refl
digits_step true b ds is digits = rw is digits

-- the run of digits that bytes begin with is all digits
pub digits-take_while : (bs : List ℕ) → all_ascii_digits (take_while is_ascii_digit bs) ≡ true
digits-take_while [] = refl
digits-take_while (b ∷ bs) =
    rw (take_while-cons is_ascii_digit b bs) (digits_step (is_ascii_digit b) b _ refl (digits-take_while bs))

-- the prefix as long as the run of digits is all digits
pub digits-take : (bs : List ℕ) → all_ascii_digits (take (length (take_while is_ascii_digit bs)) bs) ≡ true
digits-take bs = rw (length-prefix_len is_ascii_digit bs) (digits-take_while bs)

-- what `parse` reads from digits with no leading zero has those digits as its decimal
pub parsed_value : {E : Type 0} (ds : List ℕ) (r : Result ℕ E) → all_ascii_digits ds ≡ true →
    (get_or ds 0 0 ≡ 48 → length ds ≤ 1) → ParsesUnsigned 64 10 ds r → IfSome (result_ok r) (λ n. ds ≡ decimal n)
parsed_value {E} ds (Ok n) digits alone parsed =
    let value = parse_digits own {E = E} 64 ds (Ok n) parsed digits in
    let written : decimal (digits_value 10 ds) ≡ ds =
    decimal-digits_value own ds digits value.0.0 (λ first. let short : length ds ≤ 1 = alone first in
    omega (arith, value.0.0)) value.0.1 in
    sym (ap decimal value.1 ∙ written)
parsed_value ds (Err e) digits alone parsed = tt

-- what `parse` refuses is the decimal of no number of 64 bits
pub parsed_none : {E : Type 0} (ds : List ℕ) (r : Result ℕ E) → ParsesUnsigned 64 10 ds r →
    IfNone (result_ok r) ((n : ℕ) → n < 2 ^ 64 → ds ≢ decimal n)
parsed_none ds (Ok n) parsed = tt
parsed_none {E} ds (Err e) parsed = λ n small is.
    let r : Result ℕ E = Err e in
    let read : r ≡ Ok n = parse-decimal 64 n ds r small small is parsed in cc

-- one digit more in a run of digits
run_more : (is_digit : Bool) (d : ℕ) (ds : List ℕ) → (is_digit && all_ascii_digits ds) ≡ true →
    (all_ascii_digits ds ≡ true → take_while is_ascii_digit ds ≡ ds) →
    cond is_digit (d ∷ take_while is_ascii_digit ds) [] ≡ d ∷ ds
run_more true d ds digits rest = ap (λ run. d ∷ run) (rest digits)
run_more false d ds digits rest = cc

-- digits alone are their own run
take_while-digits : (ds : List ℕ) → all_ascii_digits ds ≡ true → take_while is_ascii_digit ds ≡ ds
take_while-digits [] digits = refl
take_while-digits (d ∷ ds) digits =
    rw (take_while-cons is_ascii_digit d ds) (run_more (is_ascii_digit d) d ds digits (take_while-digits ds))

-- a number's decimal begins with itself
pub decimal_stands : (n : ℕ) → n < 2 ^ 64 → NumberStandsAt (decimal n) 0 n
decimal_stands n small = (small, take_while-digits (decimal n) (own.from (decimal n) (decimal_is_IsNumeral n small).0.1))

-- and no other number does
pub stands_once : (bytes : List ℕ) (at m n : ℕ) → NumberStandsAt bytes at m → NumberStandsAt bytes at n → m ≡ n
stands_once bytes at m n first second = decimal_injective m n first.0 second.0 (sym first.1 ∙ second.1)
