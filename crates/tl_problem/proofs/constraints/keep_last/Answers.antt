-- The last class of a span ends with the page; any other ends before the next begins.
use Rattle.tl_base.specs.declared.spacing.Spacing.{Spacing}
use Rattle.std.proofs.Common.{◌+◌, ◌<◌, length, arith, ap}
use Rattle.std.proofs.lemmas.List.{get_or_default}
use Rattle.tl_problem.specs.Spans.{spans_of, page_room}
use Rattle.tl_problem.specs.Zones.{span_at, range_at, classes_at}
use Rattle.tl_problem.specs.inner.Constraints.{HasLast}
use Rattle.tl_problem.proofs.SpanLaws.{classes-rising}
use Rattle.tl_problem.proofs.ZoneLaws.{span-within}
use Rattle.tl_problem.proofs.ConstraintLemmas.{AddsFact-none, last-kept, class-small}
use Rattle.tl_problem.proofs.constraints.keep_last.Goals as goal

pub returns-then-next-classes-clause-adds : goal.returns-then-next-classes-clause-adds
returns-then-next-classes-clause-adds c =
    let inside : c.args.s < length (spans_of c.args.problem.now) = omega (arith, c.requires.zone.spans, c.requires.span) in
    AddsFact-none c.args.matrix.now (HasLast c.args.problem.now c.args.zone.now c.args.s)
    (last-kept c.args.problem.now c.spans.ensures.sound c.args.zone.now c.args.s inside c.args.matrix.now.bounds c.requires.keeps
    (rw (c.class_list-classes.ensures, c.ranges-2.ensures) at c.if-next-classes.true))

pub overflow_sub-classes : goal.overflow_sub-classes
overflow_sub-classes c =
    let p = c.args.problem.now in
    let in_range = c.requires.zone.ranges c.args.s c.requires.span in
    let apart = rw (c.class_list-classes.ensures, c.ranges-2.ensures) at c.if-next-classes.false in
    let more : (range_at c.args.zone.now c.args.s).last + 1 < length (classes_at p c.args.s) = omega (arith, in_range.1, apart) in
    let rise = classes-rising p (span_at p c.args.s) (range_at c.args.zone.now c.args.s).last
    ((range_at c.args.zone.now c.args.s).last + 1) 0
    (omega arith) more in
    rw (c.class_list-classes.ensures, c.ranges-2.ensures) (omega (arith, rise))

pub overflow_add-classes : goal.overflow_add-classes
overflow_add-classes c =
    let p = c.args.problem.now in
    let inside : c.args.s < length (spans_of p) = omega (arith, c.requires.zone.spans, c.requires.span) in
    let in_range = c.requires.zone.ranges c.args.s c.requires.span in
    let apart = rw (c.class_list-classes.ensures, c.ranges-2.ensures) at c.if-next-classes.false in
    let more : (range_at c.args.zone.now c.args.s).last + 1 < length (classes_at p c.args.s) = omega (arith, in_range.1, apart) in
    let small = class-small p c.spans.ensures.sound c.args.s ((range_at c.args.zone.now c.args.s).last + 1) inside more in
    rw (c.class_list-classes.ensures, c.ranges-2.ensures) (omega
    (arith, small, ap (λ (s : Spacing). s.gap) c.spacing.ensures.spacing, c.spacing.ensures.sound.near))

pub keep_near-requires-clause-begins : goal.keep_near-requires-clause-begins
keep_near-requires-clause-begins c =
    let inside : c.args.s < length (spans_of c.args.problem.now) = omega (arith, c.requires.zone.spans, c.requires.span) in
    let span = span-within c.args.problem.now c.spans.ensures.sound c.args.s inside in
    rw c.spans.ensures.spans (omega (arith, span.0, span.1, c.requires.keeps.variables))

pub keep_near-requires-clause-ends : goal.keep_near-requires-clause-ends
keep_near-requires-clause-ends c =
    let inside : c.args.s < length (spans_of c.args.problem.now) = omega (arith, c.requires.zone.spans, c.requires.span) in
    let span = span-within c.args.problem.now c.spans.ensures.sound c.args.s inside in
    rw c.spans.ensures.spans (omega (arith, span.1, c.requires.keeps.variables))

pub keep_near-requires-clause-small : goal.keep_near-requires-clause-small
keep_near-requires-clause-small c =
    let p = c.args.problem.now in
    let inside : c.args.s < length (spans_of p) = omega (arith, c.requires.zone.spans, c.requires.span) in
    let in_range = c.requires.zone.ranges c.args.s c.requires.span in
    let apart = rw (c.class_list-classes.ensures, c.ranges-2.ensures) at c.if-next-classes.false in
    let more : (range_at c.args.zone.now c.args.s).last + 1 < length (classes_at p c.args.s) = omega (arith, in_range.1, apart) in
    let small = class-small p c.spans.ensures.sound c.args.s ((range_at c.args.zone.now c.args.s).last + 1) inside more in
    rw (c.class_list-classes.ensures, c.ranges-2.ensures) (omega
    (arith, small, ap (λ (s : Spacing). s.gap) c.spacing.ensures.spacing, c.spacing.ensures.sound.near))

pub returns-clause-adds : goal.returns-clause-adds
returns-clause-adds c =
    let p = c.args.problem.now in
    let in_range = c.requires.zone.ranges c.args.s c.requires.span in
    let apart = rw (c.class_list-classes.ensures, c.ranges-2.ensures) at c.if-next-classes.false in
    let more : (range_at c.args.zone.now c.args.s).last + 1 < length (classes_at p c.args.s) = omega (arith, in_range.1, apart) in
    let at = get_or_default (classes_at p c.args.s) ((range_at c.args.zone.now c.args.s).last + 1) 0 (page_room p + 1) more in
    rw (
      c.spans.ensures.spans,
      c.class_list-classes.ensures,
      c.ranges-2.ensures,
      c.spacing.ensures.spacing,
      at,
    ) at c.keep_near.ensures.adds
