-- Span by span.
use Rattle.std.proofs.Common.{◌<◌}
use Rattle.std.proofs.Common.{length, refl, arith}
use Rattle.tl_problem.specs.Spans.{spans_of}
use Rattle.tl_cert.specs.Traces.{zone_of}
use Rattle.tl_cert.proofs.TraceLaws.{zones-are}
use Rattle.tl_check.proofs.ZoneWalks.{range-small}
use Rattle.tl_check.proofs.Working.{differ-from, differ-next}
use Rattle.tl_check.proofs.worked.differs.Goals as goal

pub span_differs-requires-clause-first : goal.span_differs-requires-clause-first
span_differs-requires-clause-first c =
    let p = c.args.problem.now in
    let trace = c.args.trace.now in
    let zone = zone_of p trace c.args.z in
    let is = zones-are p c.requires.sound trace c.requires.trace c.args.z c.requires.zone in
    let inside : c.loop-s.s < length (spans_of p) = omega (arith, c.loop-s-test.true, c.span_count-count.ensures) in
    (range-small p c.requires.sound trace c.requires.trace c.loop-s.s inside c.args.z c.requires.zone c.zone_range-range.result
    c.zone_range-range.ensures).0

pub span_differs-requires-clause-last : goal.span_differs-requires-clause-last
span_differs-requires-clause-last c =
    let p = c.args.problem.now in
    let trace = c.args.trace.now in
    let zone = zone_of p trace c.args.z in
    let is = zones-are p c.requires.sound trace c.requires.trace c.args.z c.requires.zone in
    let inside : c.loop-s.s < length (spans_of p) = omega (arith, c.loop-s-test.true, c.span_count-count.ensures) in
    (range-small p c.requires.sound trace c.requires.trace c.loop-s.s inside c.args.z c.requires.zone c.zone_range-range.result
    c.zone_range-range.ensures).1

pub returns-then-span_differs : goal.returns-then-span_differs
returns-then-span_differs c =
    let p = c.args.problem.now in
    let trace = c.args.trace.now in
    let zone = zone_of p trace c.args.z in
    let is = zones-are p c.requires.sound trace c.requires.trace c.args.z c.requires.zone in
    let inside : c.loop-s.s < length (spans_of p) = omega (arith, c.loop-s-test.true, c.span_count-count.ensures) in (
      λ yes. differ-from p zone c.loop-s.s (omega (arith, inside, is.spans)) c.zone_range-range.result c.zone_range-range.ensures
          (c.span_differs.ensures.0 c.if-span_differs.true),
      λ differ. refl,
    )

pub loop-s-preserved : goal.loop-s-preserved
loop-s-preserved c =
    let p = c.args.problem.now in
    let trace = c.args.trace.now in
    let zone = zone_of p trace c.args.z in
    let is = zones-are p c.requires.sound trace c.requires.trace c.args.z c.requires.zone in
    let inside : c.loop-s.s < length (spans_of p) = omega (arith, c.loop-s-test.true, c.span_count-count.ensures) in
    λ differ less. differ-next p zone c.loop-s.s c.zone_range-range.result c.zone_range-range.ensures c.loop-s.invariant
    (λ here. let yes = c.span_differs.ensures.1 here in cc) differ less

pub returns : goal.returns
returns c =
    let p = c.args.problem.now in
    let trace = c.args.trace.now in
    let is = zones-are p c.requires.sound trace c.requires.trace c.args.z c.requires.zone in (
      λ never. absurd cc,
      λ differ. absurd (c.loop-s.invariant differ (omega (
        arith,
        differ.span,
        c.loop-s-test.false,
        c.span_count-count.ensures,
        is.spans,
      ))),
    )
