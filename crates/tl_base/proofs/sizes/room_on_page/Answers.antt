-- The room of a span within a page is below 32 bits.
use Rattle.std.proofs.Common.{◌-◌, ◌≤◌, arith}
use Rattle.std.proofs.Math.Nat.{mul-le-mul}
use Rattle.tl_base.specs.declared.limits.TheConstants.{MAX_COLUMNS}
use Rattle.tl_base.proofs.SizeLaws.{sum-range}
use Rattle.tl_base.proofs.sizes.room_on_page.Goals as goal

pub overflow_cast-result : goal.overflow_cast-result
overflow_cast-result c =
    let inner : c.args.right - c.args.left - 1 ≤ MAX_COLUMNS = omega (arith, c.requires.within, c.requires.few) in
    let gaps = mul-le-mul c.requires.gap inner in
    omega (arith, gaps, c.room_size.ensures.room, sum-range c.args.widths.now c.args.left c.args.right, c.requires.sum)
