-- Span by span.
use Rattle.std.proofs.Common.{◌≡◌}
use Rattle.std.proofs.Common.{[], length, refl, ap, ◌∙◌, subst, arith}
use Rattle.tl_problem.specs.declared.zone.Range.{Range}
use Rattle.tl_cert.specs.Traces.{zone_of}
use Rattle.tl_cert.proofs.TraceLaws.{zones-are}
use Rattle.tl_check.specs.inner.Zones.{bounds_upto}
use Rattle.tl_check.proofs.Spans.{bare-next, bare-first, bare-last}
use Rattle.tl_check.proofs.nogoods.is_whole.Goals as goal

pub loop-s-preserved : goal.loop-s-preserved
loop-s-preserved c =
    let p = c.args.problem.now in
    let zone = zone_of p c.args.trace.now c.args.z in
    let at = c.zone_range-range.ensures in
    bare-next p zone c.loop-s.s c.loop-s.invariant (omega (arith, ap (λ (r : Range). r.first) at, c.if-range-ne0.false))
    (omega (arith, ap (λ (r : Range). r.last) at, c.if-range-last_class.false, c.last_class.ensures))

pub returns-then-range-ne0 : goal.returns-then-range-ne0
returns-then-range-ne0 c = (
  λ never. absurd cc,
  λ none.
      let p = c.args.problem.now in
      let is = zones-are p c.requires.sound c.args.trace.now c.requires.trace c.args.z c.requires.zone in
      let bare = bare-first p (zone_of p c.args.trace.now c.args.z) is none c.loop-s.s
      (omega (arith, c.loop-s-test.true, c.span_count-count.ensures, is.spans)) in
      absurd (c.if-range-ne0.true (ap (λ (r : Range). r.first) c.zone_range-range.ensures ∙ bare)),
)

pub returns-then-range-last_class : goal.returns-then-range-last_class
returns-then-range-last_class c = (
  λ never. absurd cc,
  λ none.
      let p = c.args.problem.now in
      let is = zones-are p c.requires.sound c.args.trace.now c.requires.trace c.args.z c.requires.zone in
      let bare = bare-last p (zone_of p c.args.trace.now c.args.z) is none c.loop-s.s
      (omega (arith, c.loop-s-test.true, c.span_count-count.ensures, is.spans)) in
      absurd (c.if-range-last_class.true (omega (
        arith,
        ap (λ (r : Range). r.last) c.zone_range-range.ensures,
        bare,
        c.last_class.ensures,
      ))),
)

pub returns : goal.returns
returns c =
    let p = c.args.problem.now in
    let zone = zone_of p c.args.trace.now c.args.z in
    let is = zones-are p c.requires.sound c.args.trace.now c.requires.trace c.args.z c.requires.zone in
    let all : c.loop-s.s ≡ length zone = omega (
      arith,
      c.loop-s-test.false,
      c.loop-s.auto.s-end,
      c.span_count-count.ensures,
      is.spans,
    ) in
    (λ yes. subst (λ n. bounds_upto p zone n ≡ []) all c.loop-s.invariant, λ none. refl)
