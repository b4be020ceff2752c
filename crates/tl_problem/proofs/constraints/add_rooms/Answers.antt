-- Each span is given the first width of its first class, which is in the limits as the page has some widths.
use Rattle.tl_base.specs.declared.spacing.Spacing.{Spacing}
use Rattle.std.proofs.Common.{◌<◌, length, arith, ap}
use Rattle.tl_problem.specs.Spans.{spans_of}
use Rattle.tl_problem.specs.Zones.{span_at}
use Rattle.tl_problem.proofs.SpanLaws.{classes-some}
use Rattle.tl_problem.proofs.ZoneLaws.{span-within}
use Rattle.tl_problem.proofs.ConstraintLemmas.{page-satisfiable, PageUpto-room, class-small}
use Rattle.tl_problem.proofs.constraints.add_rooms.Goals as goal

pub bounds-class_list-0 : goal.bounds-class_list-0
bounds-class_list-0 c = rw c.class_list.ensures (classes-some c.args.problem.now (span_at c.args.problem.now c.loop-s.s))

pub overflow_add-least : goal.overflow_add-least
overflow_add-least c =
    let p = c.args.problem.now in
    let inside : c.loop-s.s < length (spans_of p) = omega (arith, c.loop-s-test.true, ap length c.requires.spans) in
    let small = class-small p c.requires.page.sound c.loop-s.s 0 inside (classes-some p (span_at p c.loop-s.s)) in
    rw c.class_list.ensures (omega (arith, small, ap (λ (s : Spacing). s.gap) c.spacing-gap.ensures.spacing, c.spacing-gap.ensures.sound.near))

pub keep_apart-requires-clause-begins : goal.keep_apart-requires-clause-begins
keep_apart-requires-clause-begins c =
    let p = c.args.problem.now in
    let inside : c.loop-s.s < length (spans_of p) = omega (arith, c.loop-s-test.true, ap length c.requires.spans) in
    let span = span-within p c.requires.page.sound c.loop-s.s inside in
    rw c.requires.spans (omega (arith, span.0, span.1, c.loop-s.invariant.variables))

pub keep_apart-requires-clause-ends : goal.keep_apart-requires-clause-ends
keep_apart-requires-clause-ends c =
    let p = c.args.problem.now in
    let inside : c.loop-s.s < length (spans_of p) = omega (arith, c.loop-s-test.true, ap length c.requires.spans) in
    let span = span-within p c.requires.page.sound c.loop-s.s inside in
    rw c.requires.spans (omega (arith, span.1, c.loop-s.invariant.variables))

pub keep_apart-requires-clause-small : goal.keep_apart-requires-clause-small
keep_apart-requires-clause-small c =
    let p = c.args.problem.now in
    let inside : c.loop-s.s < length (spans_of p) = omega (arith, c.loop-s-test.true, ap length c.requires.spans) in
    let small = class-small p c.requires.page.sound c.loop-s.s 0 inside (classes-some p (span_at p c.loop-s.s)) in
    rw c.class_list.ensures (omega (arith, small, ap (λ (s : Spacing). s.gap) c.spacing-gap.ensures.spacing, c.spacing-gap.ensures.sound.near))

pub keep_apart-requires-clause-holds : goal.keep_apart-requires-clause-holds
keep_apart-requires-clause-holds c = page-satisfiable c.args.problem.now 0 c.loop-s.s c.loop-s.matrix
    c.loop-s.invariant

pub loop-s-preserved : goal.loop-s-preserved
loop-s-preserved c =
    let p = c.args.problem.now in
    let inside : c.loop-s.s < length (spans_of p) = omega (arith, c.loop-s-test.true, ap length c.requires.spans) in
    PageUpto-room p c.loop-s.s c.loop-s.matrix c.keep_apart.new.matrix inside c.loop-s.invariant
    (rw (c.requires.spans, c.class_list.ensures, c.spacing-gap.ensures.spacing) at c.keep_apart.ensures.adds)
