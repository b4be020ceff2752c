use Rattle.std.proofs.Common.{◌+◌, ◌≤◌, length, subst, sym, take, arith}
use Rattle.std.specs.List.{AllZip}
use Rattle.tl_fan.proofs.Pieces.{group_more}
use Rattle.tl_fan.proofs.fan.fan_out.Goals as goal

pub loop-from-preserved : goal.loop-from-preserved
loop-from-preserved g c =
    let within : c.loop-from.from + c.min.result ≤ length c.args.numbers.now =
    omega (arith, c.min.ensures, c.loop-from-test.true) in (
      within,
      c.later_group-later.ensures,
      subst (AllZip (λ number one. g.F.Fn.post c.args.piece.now (number, tt) one) (take _ c.args.numbers.now))
          (sym c.in_ok-append.ensures.items)
          (group_more (λ number one. g.F.Fn.post c.args.piece.now (number, tt) one) c.args.numbers.now c.loop-from.from
          c.min.result c.loop-from.found.items c.in_ok-more.more.items c.loop-from.invariant.2 c.in_ok-more.ensures),
    )
