-- The bounds of a span are the one from above and the one from below.
use Rattle.std.proofs.Common.{◌≡◌, ◌++◌, List, ap, ◌∙◌, subst, append_assoc}
use Rattle.tl_problem.specs.Works.{AreAllowed}
use Rattle.tl_problem.specs.Zones.{range_at}
use Rattle.tl_cert.specs.Nogoods.{range_bounds}
use Rattle.tl_cert.specs.Traces.{zone_of}
use Rattle.tl_cert.specs.declared.log.Bound.{Bound}
use Rattle.tl_check.specs.inner.Firing.{HasLeft}
use Rattle.tl_check.specs.inner.Matrices.{some_list}
use Rattle.tl_check.proofs.Spans.{range-bounds}
use Rattle.tl_check.proofs.ZoneWalks.{range-small}
use Rattle.tl_check.proofs.left.left_with_span.Goals as goal

pub upper_bound-requires-clause-last : goal.upper_bound-requires-clause-last
upper_bound-requires-clause-last c =
    (range-small c.args.problem.now c.requires.keeps.sound c.args.trace.now c.requires.trace c.args.s c.requires.span
    c.args.z c.requires.zone c.zone_range-range.result c.zone_range-range.ensures).1

pub lower_bound-requires-clause-first : goal.lower_bound-requires-clause-first
lower_bound-requires-clause-first c =
    (range-small c.args.problem.now c.requires.keeps.sound c.args.trace.now c.requires.trace c.args.s c.requires.span
    c.args.z c.requires.zone c.zone_range-range.result c.zone_range-range.ensures).0

pub returns : goal.returns
returns c = λ nogood has.
    let p = c.args.problem.now in
    let both : some_list c.upper_bound.result ++ some_list c.lower_bound.result
    ≡ range_bounds p c.args.s (range_at (zone_of p c.args.trace.now c.args.z) c.args.s) =
    range-bounds p c.args.s c.zone_range-range.result c.upper_bound.result c.lower_bound.result c.upper_bound.ensures.bound
    c.lower_bound.ensures.bound
    ∙ ap (range_bounds p c.args.s) c.zone_range-range.ensures in
    subst (λ (l : List Bound). HasLeft p (AreAllowed p c.args.matrix.now.bounds) l c.left_with_some.result)
    (append_assoc nogood (some_list c.upper_bound.result) (some_list c.lower_bound.result) ∙ ap (λ l. nogood ++ l) both)
    (c.left_with_some.ensures _ (c.left_with_some-with_upper.ensures nogood has))
