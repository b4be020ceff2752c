use Rattle.std.proofs.Common.{◌≡◌, ℕ, min, length}
use Rattle.tl_token.specs.Numbers.{number, number_from}
use Rattle.tl_token.specs.inner.Reader.{unread}
use Rattle.tl_token.proofs.number.number.Given as goal

-- the digits that are left, after those of the number so far, stand for the whole number
abbrev pub invariant-loop-digit : goal.invariant-loop-digit
invariant-loop-digit l = (total : ℕ) × (l.number ≡ min total 4294967295)
    × (number_from l.base total (unread l.digits) ≡ number l.base (unread l.initial.digits))

abbrev pub decreases-loop-digit : goal.decreases-loop-digit
decreases-loop-digit l = length (unread l.digits)
