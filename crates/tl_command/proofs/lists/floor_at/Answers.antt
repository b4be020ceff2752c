-- The number that stands there is too great, and no other stands there.
use Rattle.std.proofs.Common.{◌≡◌, arith}
use Rattle.tl_base.proofs.Decimals.{stands_once}
use Rattle.tl_command.proofs.lists.floor_at.Goals as goal

pub returns-then-number-from-clause-none : goal.returns-then-number-from-clause-none
returns-then-number-from-clause-none c = λ floor small stands.
    let same : floor ≡ c.in_ok-number.number =
    stands_once c.args.bytes.now c.args.at floor c.in_ok-number.number stands c.in_ok-number.ensures.read in
    omega (arith, same, small, c.if-number-from.true, c.from.ensures)
