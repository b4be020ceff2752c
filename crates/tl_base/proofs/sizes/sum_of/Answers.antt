-- The sizes are of 32 bits, so that their sum is small.
use Rattle.std.proofs.Common.{rules, ◌≡◌, sum, arith}
use Rattle.tl_base.proofs.SizeLaws.{sum-bound}
use Rattle.tl_base.proofs.sizes.sum_of.Goals as goal

pub returns-clause-small : goal.returns-clause-small
returns-clause-small c =
    let same : c.sum.result ≡ sum c.args.sizes.now = search rules in
    omega (arith, same, sum-bound c.args.sizes.now (λ k. omega (arith, c.type_inv.sizes k)))
