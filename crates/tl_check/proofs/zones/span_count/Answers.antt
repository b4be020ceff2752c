-- There are few spans.
use Rattle.std.proofs.Common.{length, ap, arith}
use Rattle.tl_problem.proofs.SpanningLemmas.{spans-few}
use Rattle.tl_check.proofs.zones.span_count.Goals as goal

pub overflow_cast-result : goal.overflow_cast-result
overflow_cast-result c = omega (arith, ap length c.spans.ensures.spans, spans-few c.args.problem.now c.spans.ensures.sound)
