-- Each span has a class, and few.
use Rattle.std.proofs.Common.{length, ap, arith}
use Rattle.tl_problem.proofs.SpanningLemmas.{classes-few}
use Rattle.tl_check.proofs.zones.last_class.Goals as goal

pub overflow_sub-result : goal.overflow_sub-result
overflow_sub-result c = omega (
  arith,
  ap length c.classes.ensures,
  (classes-few c.args.problem.now c.requires.sound c.args.s c.requires.span).0,
)

pub overflow_cast-result : goal.overflow_cast-result
overflow_cast-result c = omega (
  arith,
  ap length c.classes.ensures,
  (classes-few c.args.problem.now c.requires.sound c.args.s c.requires.span).1,
)

pub returns : goal.returns
returns c = omega (
  arith,
  ap length c.classes.ensures,
  (classes-few c.args.problem.now c.requires.sound c.args.s c.requires.span).0,
)
