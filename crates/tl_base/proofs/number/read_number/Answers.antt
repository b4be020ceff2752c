-- The run of digits is all digits.
use Rattle.std.proofs.Common.{◌-◌, length, take, drop}
use Rattle.tl_base.proofs.Decimals.{digits-take}
use Rattle.tl_base.proofs.number.read_number.Goals as goal

pub canonical_value-requires : goal.canonical_value-requires
canonical_value-requires c =
    rw c.leading_digits.ensures (digits-take (take (length c.args.bytes.now - c.args.at) (drop c.args.at c.args.bytes.now)))
