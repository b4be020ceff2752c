use Rattle.std.proofs.Common.{length, ap, arith}
use Rattle.tl_problem.proofs.SpanningLemmas.{spans-few}
use Rattle.tl_tidy.proofs.look.look_at.Goals as goal

pub first_open-requires : goal.first_open-requires
first_open-requires c = omega (
  arith,
  ap length c.ranges-in-Some.ensures,
  c.requires.zone.spans,
  spans-few c.args.problem.now c.requires.work.sound,
)
