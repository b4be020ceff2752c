-- The first class of a span is kept by the page; any other begins within it.
use Rattle.tl_base.specs.declared.spacing.Spacing.{Spacing}
use Rattle.std.proofs.Common.{◌<◌, length, arith, ap}
use Rattle.tl_problem.specs.Spans.{spans_of}
use Rattle.tl_problem.specs.Zones.{range_at}
use Rattle.tl_problem.specs.inner.Constraints.{HasFirst}
use Rattle.tl_problem.proofs.ZoneLaws.{span-within}
use Rattle.tl_problem.proofs.ConstraintLemmas.{AddsFact-none, first-kept, class-small}
use Rattle.tl_problem.proofs.constraints.keep_first.Goals as goal

pub returns-then-first-eq0-clause-adds : goal.returns-then-first-eq0-clause-adds
returns-then-first-eq0-clause-adds c =
    let inside : c.args.s < length (spans_of c.args.problem.now) = omega (arith, c.requires.zone.spans, c.requires.span) in
    AddsFact-none c.args.matrix.now (HasFirst c.args.problem.now c.args.zone.now c.args.s)
    (first-kept c.args.problem.now c.spans.ensures.sound c.args.zone.now c.args.s inside c.args.matrix.now.bounds c.requires.keeps
    (rw c.ranges-2.ensures at c.if-first-eq0.true))

pub overflow_add-classes : goal.overflow_add-classes
overflow_add-classes c =
    let inside : c.args.s < length (spans_of c.args.problem.now) = omega (arith, c.requires.zone.spans, c.requires.span) in
    let in_range = c.requires.zone.ranges c.args.s c.requires.span in
    let small = class-small c.args.problem.now c.spans.ensures.sound c.args.s (range_at c.args.zone.now c.args.s).first inside
    (omega (arith, in_range.0, in_range.1)) in
    rw (c.class_list-classes.ensures, c.ranges-2.ensures) (omega
    (arith, small, ap (λ (s : Spacing). s.gap) c.spacing.ensures.spacing, c.spacing.ensures.sound.near))

pub keep_apart-requires-clause-begins : goal.keep_apart-requires-clause-begins
keep_apart-requires-clause-begins c =
    let inside : c.args.s < length (spans_of c.args.problem.now) = omega (arith, c.requires.zone.spans, c.requires.span) in
    let span = span-within c.args.problem.now c.spans.ensures.sound c.args.s inside in
    rw c.spans.ensures.spans (omega (arith, span.0, span.1, c.requires.keeps.variables))

pub keep_apart-requires-clause-ends : goal.keep_apart-requires-clause-ends
keep_apart-requires-clause-ends c =
    let inside : c.args.s < length (spans_of c.args.problem.now) = omega (arith, c.requires.zone.spans, c.requires.span) in
    let span = span-within c.args.problem.now c.spans.ensures.sound c.args.s inside in
    rw c.spans.ensures.spans (omega (arith, span.1, c.requires.keeps.variables))

pub keep_apart-requires-clause-small : goal.keep_apart-requires-clause-small
keep_apart-requires-clause-small c =
    let inside : c.args.s < length (spans_of c.args.problem.now) = omega (arith, c.requires.zone.spans, c.requires.span) in
    let in_range = c.requires.zone.ranges c.args.s c.requires.span in
    let small = class-small c.args.problem.now c.spans.ensures.sound c.args.s (range_at c.args.zone.now c.args.s).first inside
    (omega (arith, in_range.0, in_range.1)) in
    rw (c.class_list-classes.ensures, c.ranges-2.ensures) (omega
    (arith, small, ap (λ (s : Spacing). s.gap) c.spacing.ensures.spacing, c.spacing.ensures.sound.near))

pub returns-clause-adds : goal.returns-clause-adds
returns-clause-adds c = rw (
  c.spans.ensures.spans,
  c.class_list-classes.ensures,
  c.ranges-2.ensures,
  c.spacing.ensures.spacing,
) at
    c.keep_apart.ensures.adds
