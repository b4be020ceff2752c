-- Span by span, the bound from above before the one from below.
use Rattle.std.proofs.Common.{◌≡◌, ◌++◌, sym, ap, ◌∙◌, append_assoc, arith}
use Rattle.tl_problem.specs.Zones.{range_at}
use Rattle.tl_cert.specs.Nogoods.{range_bounds}
use Rattle.tl_cert.specs.Traces.{zone_of}
use Rattle.tl_cert.proofs.TraceLaws.{zones-are}
use Rattle.tl_check.specs.inner.Matrices.{some_list}
use Rattle.tl_check.specs.inner.Zones.{bounds_upto}
use Rattle.tl_check.proofs.Spans.{range-bounds, upto-next}
use Rattle.tl_check.proofs.ZoneWalks.{range-small}
use Rattle.tl_check.proofs.ranges.bounds_of_zone.Goals as goal

pub upper_bound-requires-clause-last : goal.upper_bound-requires-clause-last
upper_bound-requires-clause-last c =
    (range-small c.args.problem.now c.requires.sound c.args.trace.now c.requires.trace c.loop-s.s
    (omega (arith, c.loop-s-test.true, c.span_count-count.ensures))
    c.args.z c.requires.zone c.zone_range-range.result c.zone_range-range.ensures).1

pub lower_bound-requires-clause-first : goal.lower_bound-requires-clause-first
lower_bound-requires-clause-first c =
    (range-small c.args.problem.now c.requires.sound c.args.trace.now c.requires.trace c.loop-s.s
    (omega (arith, c.loop-s-test.true, c.span_count-count.ensures))
    c.args.z c.requires.zone c.zone_range-range.result c.zone_range-range.ensures).0

pub loop-s-preserved : goal.loop-s-preserved
loop-s-preserved c =
    let p = c.args.problem.now in
    let zone = zone_of p c.args.trace.now c.args.z in
    let s = c.loop-s.s in
    let both : some_list c.upper_bound.result ++ some_list c.lower_bound.result ≡ range_bounds p s (range_at zone s) =
    range-bounds p s c.zone_range-range.result c.upper_bound.result c.lower_bound.result c.upper_bound.ensures.bound
    c.lower_bound.ensures.bound
    ∙ ap (range_bounds p s) c.zone_range-range.ensures in
    c.in_ok-push_some-2.ensures ∙ ap (λ l. l ++ some_list c.lower_bound.result) c.in_ok-push_some.ensures
    ∙ append_assoc c.loop-s.bounds (some_list c.upper_bound.result) (some_list c.lower_bound.result)
    ∙ ap (λ l. c.loop-s.bounds ++ l) both
    ∙ ap (λ l. l ++ range_bounds p s (range_at zone s)) c.loop-s.invariant
    ∙ sym (upto-next p zone s)

pub returns : goal.returns
returns c =
    let p = c.args.problem.now in
    let zone = zone_of p c.args.trace.now c.args.z in
    let is = zones-are p c.requires.sound c.args.trace.now c.requires.trace c.args.z c.requires.zone in
    c.loop-s.invariant ∙ ap (bounds_upto p zone) (omega (
      arith,
      c.loop-s-test.false,
      c.loop-s.auto.s-end,
      c.span_count-count.ensures,
      is.spans,
    ))
