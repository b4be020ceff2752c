-- The number with which the argument begins is the only one that it can be.
use Rattle.std.proofs.Common.{◌≡◌, ℕ, ◌<◌, ◌^◌, List, length, decimal, ap, sym, subst, ◌∙◌, arith}
use Rattle.tl_base.specs.Number.{NumberStandsAt}
use Rattle.tl_base.proofs.Decimals.{decimal_stands, stands_once}
use Rattle.tl_command.proofs.numbers.number_within.Goals as goal
use Rattle.tl_command.proofs.numbers.number_within.Goals.{then-past-word-via-then-past-word}
use Rattle.tl_command.proofs.numbers.number_within.Goals.{then-past-word-via-else-past-word+then-number-from}
use Rattle.tl_command.proofs.numbers.number_within.Goals.{then-past-word-via-else-past-word+else-number-from+then-number-from-2}

-- an argument begins with its number
number_stands : (word bytes : List ℕ) (number : ℕ) → bytes ≡ word → number < 2 ^ 64 → word ≡ decimal number →
    NumberStandsAt bytes 0 number
number_stands word bytes number same small is =
    subst (λ (bs : List ℕ). NumberStandsAt bs 0 number) (sym (same ∙ is)) (decimal_stands number small)

pub returns-in_err-number-clause-none : goal.returns-in_err-number-clause-none
returns-in_err-number-clause-none c = rw c.from_residual.ensures (λ number least small is.
    c.in_err-number.ensures.refused number (number_stands c.args.word.now c.as_bytes.result.now number c.as_bytes.ensures.value
    (omega (arith, small, c.ranges.most.fits)) is))

pub returns-then-past-word-clause-none : goal.returns-then-past-word-clause-none
returns-then-past-word-clause-none c = λ number least small is.
    let same : number ≡ c.in_ok-number.number = stands_once c.as_bytes.result.now 0 number c.in_ok-number.number
    (number_stands c.args.word.now c.as_bytes.result.now number c.as_bytes.ensures.value
    (omega (arith, small, c.ranges.most.fits)) is) c.in_ok-number.ensures.read in
    let long : length c.args.word.now ≡ length (decimal c.in_ok-number.number) =
    ap length is ∙ ap (λ n. length (decimal n)) same in
    elim c.then-past-word.branch [
      | then-past-word-via-then-past-word w ↦ omega (arith, long, c.in_ok-number.ensures.past)
      | then-past-word-via-else-past-word+then-number-from w ↦ omega (arith, same, least)
      | then-past-word-via-else-past-word+else-number-from+then-number-from-2 w ↦ omega (arith, same, small)
    ]
