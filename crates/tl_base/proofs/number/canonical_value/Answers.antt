-- `parse` reads the digits that `decimal` writes, and no others where there is no leading zero.
use Rattle.std.proofs.Common.{◌≡◌, ◌<◌, ◌≤◌, true, length, get_or, decimal, ap, arith, sym, ◌∙◌}
use Rattle.tl_base.proofs.Decimals.{zero_is_alone, digits_are_text, parsed_value, parsed_none}
use Rattle.tl_base.proofs.number.canonical_value.Goals as goal

pub returns-then-has_leading_zero-clause-none : goal.returns-then-has_leading_zero-clause-none
returns-then-has_leading_zero-clause-none c = λ n small is.
    let zero = c.has_leading_zero.ensures.0 c.if-has_leading_zero.true in
    let first : get_or (decimal n) 0 0 ≡ 48 = ap (λ ds. get_or ds 0 0) (sym is) ∙ zero.1 in
    let alone : length (decimal n) ≡ 1 = zero_is_alone n small first in
    omega (arith, zero.0, ap length is)

pub unwrap-text-requires : goal.unwrap-text-requires
unwrap-text-requires c = grind (arith, digits_are_text c.args.digits.now c.requires, c.from_utf8.ensures.cases)

-- the text that is read is the digits
same_text : (c : goal.After-ok) → c.unwrap-text.result.now ≡ c.args.digits.now
same_text c = (rw c.unwrap-text.ensures at c.from_utf8.ensures.cases).0

-- no leading zero, but for one alone
no_leading_zero : (c : goal.After-ok) → get_or c.args.digits.now 0 0 ≡ 48 → length c.args.digits.now ≤ 1
no_leading_zero c = λ first.
    let short : 1 < length c.args.digits.now → ⊥ = λ long.
    let zero : c.has_leading_zero.result ≡ true = c.has_leading_zero.ensures.1 (long, first) in cc in
    omega arith

pub returns-clause-value : goal.returns-clause-value
returns-clause-value c = rw c.ok.ensures.value
    (parsed_value c.args.digits.now c.parse.result c.requires (no_leading_zero c) (rw (same_text c) at c.parse.ensures.value.0))

pub returns-clause-none : goal.returns-clause-none
returns-clause-none c = rw c.ok.ensures.value
    (parsed_none c.args.digits.now c.parse.result (rw (same_text c) at c.parse.ensures.value.0))
