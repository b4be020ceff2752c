use Rattle.std.proofs.Common.{inr, refl, arith}
use Rattle.tl_problem.proofs.TightLaws.{tight-is_tight}
use Rattle.tl_branch.proofs.lowest.take_lower.Goals as goal

pub returns-in_ok-tight-clause-lowered : goal.returns-in_ok-tight-clause-lowered
returns-in_ok-tight-clause-lowered c = inr (record {
  placed = c.in_ok-tight.tight;
  is = refl;
  tight = tight-is_tight c.args.problem.now c.args.placed.now.widths c.in_ok-tight.tight c.in_ok-tight.ensures.tight;
  height = refl;
  lower = omega (arith, c.in_ok-tight.ensures.no_higher, c.if-placed-lowest.true);
})
