-- What is left keeps the page, so that the next range can be added.
use Rattle.std.proofs.Common.{◌<◌, length, false, arith, ap}
use Rattle.std.specs.Prelude.{IsTrue}
use Rattle.tl_problem.specs.Spans.{spans_of}
use Rattle.tl_problem.proofs.ConstraintLemmas.{KeepsPage-adds, AddsRanges-first, AddsRanges-last, AddsRanges-more}
use Rattle.tl_problem.proofs.constraints.add_ranges.Goals as goal

pub keep_first-requires-clause-keeps : goal.keep_first-requires-clause-keeps
keep_first-requires-clause-keeps c =
    KeepsPage-adds c.args.problem.now c.args.matrix.now.bounds c.loop-s.matrix.bounds c.loop-s.invariant.adds.variables
    c.loop-s.invariant.adds.keeps
    c.requires.keeps

pub keep_first-requires-clause-holds : goal.keep_first-requires-clause-holds
keep_first-requires-clause-holds c = c.loop-s.invariant.holds

pub returns-then-not-keep_first-clause-adds : goal.returns-then-not-keep_first-clause-adds
returns-then-not-keep_first-clause-adds c =
    let in_zone : c.loop-s.s < length c.args.zone.now = omega (arith, c.loop-s-test.true, ap length c.ranges-s-end.ensures) in
    let inside : c.loop-s.s < length (spans_of c.args.problem.now) = omega (arith, in_zone, c.requires.zone.spans) in
    AddsRanges-first c.args.problem.now c.requires.sound c.args.zone.now c.loop-s.s inside in_zone c.args.matrix.now
    c.loop-s.matrix
    c.loop-s.invariant.adds c.keep_first.new.matrix c.keep_first.ensures.adds (IsTrue false) (λ never. cc)

pub keep_last-requires-clause-keeps : goal.keep_last-requires-clause-keeps
keep_last-requires-clause-keeps c =
    KeepsPage-adds c.args.problem.now c.loop-s.matrix.bounds c.keep_first.new.matrix.bounds c.keep_first.ensures.adds.variables
    c.keep_first.ensures.adds.keeps
    (KeepsPage-adds c.args.problem.now c.args.matrix.now.bounds c.loop-s.matrix.bounds c.loop-s.invariant.adds.variables
    c.loop-s.invariant.adds.keeps
    c.requires.keeps)

pub returns-then-not-keep_last-clause-adds : goal.returns-then-not-keep_last-clause-adds
returns-then-not-keep_last-clause-adds c =
    let in_zone : c.loop-s.s < length c.args.zone.now = omega (arith, c.loop-s-test.true, ap length c.ranges-s-end.ensures) in
    let inside : c.loop-s.s < length (spans_of c.args.problem.now) = omega (arith, in_zone, c.requires.zone.spans) in
    AddsRanges-last c.args.problem.now c.requires.sound c.args.zone.now c.loop-s.s inside in_zone c.args.matrix.now
    c.loop-s.matrix
    c.loop-s.invariant.adds c.keep_first.new.matrix c.keep_last.new.matrix c.keep_first.ensures.adds c.keep_last.ensures.adds
    (IsTrue false) (λ never. cc)

pub loop-s-preserved : goal.loop-s-preserved
loop-s-preserved c =
    let in_zone : c.loop-s.s < length c.args.zone.now = omega (arith, c.loop-s-test.true, ap length c.ranges-s-end.ensures) in
    let inside : c.loop-s.s < length (spans_of c.args.problem.now) = omega (arith, in_zone, c.requires.zone.spans) in
    record {
      adds = AddsRanges-more c.args.problem.now c.requires.sound c.args.zone.now c.loop-s.s inside in_zone c.args.matrix.now
          c.loop-s.matrix
          c.loop-s.invariant.adds c.keep_first.new.matrix c.keep_last.new.matrix c.keep_first.ensures.adds
          c.keep_last.ensures.adds;
      holds = c.keep_last.ensures.holds.0 c.if-not-keep_last.false;
    }
