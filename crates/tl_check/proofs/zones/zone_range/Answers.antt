-- Cut by cut, up to the whole.
use Rattle.std.proofs.Common.{◌≡◌}
use Rattle.std.proofs.Common.{subst, arith}
use Rattle.tl_problem.specs.Zones.{range_at}
use Rattle.tl_problem.proofs.SpanningLemmas.{classes-few}
use Rattle.tl_cert.specs.Traces.{zone_of}
use Rattle.tl_cert.proofs.CutParts.{no_cut}
use Rattle.tl_check.specs.inner.Zones.{IsWithinClasses}
use Rattle.tl_check.proofs.ZoneWalks.{walk-start, walk-end, walk-low, walk-high, walk-other, parent-there, cut-class}
use Rattle.tl_check.proofs.zones.zone_range.Goals as goal

pub zones-init : goal.zones-init
zones-init c =
    record {
      there = c.requires.zone;
      top = omega (arith, c.last_class-last.ensures);
      classes = walk-start c.args.problem.now c.requires.sound c.args.trace.now c.requires.trace c.args.s c.requires.span
          c.args.z c.last_class-last.result
          c.requires.zone c.last_class-last.ensures;
    }

pub zones-preserved-then-zone-eq1 : goal.zones-preserved-then-zone-eq1
zones-preserved-then-zone-eq1 c =
    record {
      there = parent-there c.args.problem.now c.args.trace.now c.requires.trace c.zones.zone c.zones-test.true
          c.zones.invariant.there
          no_cut;
      top = omega (arith, c.min-last.ensures, c.zones.invariant.top);
      classes = rw c.min-last.ensures
          (walk-low c.args.problem.now c.requires.sound c.args.trace.now c.requires.trace c.args.s c.requires.span c.args.z
          c.zones.zone c.zones.first
          c.zones.last c.zones-test.true c.zones.invariant.there no_cut c.zones.invariant.classes c.if-zone-eq1.true
          c.if-cut-s.true);
    }

pub zones-preserved-else-zone-eq1 : goal.zones-preserved-else-zone-eq1
zones-preserved-else-zone-eq1 c =
    let class = cut-class c.args.problem.now c.requires.sound c.args.trace.now c.requires.trace c.args.s c.requires.span
    c.args.z c.zones.zone c.zones.first
    c.zones.last c.zones-test.true c.zones.invariant.there no_cut c.zones.invariant.classes c.if-cut-s.true in
    let few = classes-few c.args.problem.now c.requires.sound c.args.s c.requires.span in
    let next = c.next_class.ensures (omega (arith, class, few.1)) in
    record {
      there = parent-there c.args.problem.now c.args.trace.now c.requires.trace c.zones.zone c.zones-test.true
          c.zones.invariant.there
          no_cut;
      top = c.zones.invariant.top;
      classes = rw (c.max-first.ensures, next)
          (walk-high c.args.problem.now c.requires.sound c.args.trace.now c.requires.trace c.args.s c.requires.span c.args.z
          c.zones.zone c.zones.first
          c.zones.last c.zones-test.true c.zones.invariant.there no_cut c.zones.invariant.classes c.if-zone-eq1.false
          c.if-cut-s.true);
    }

pub zones-preserved : goal.zones-preserved
zones-preserved c =
    record {
      there = parent-there c.args.problem.now c.args.trace.now c.requires.trace c.zones.zone c.zones-test.true
          c.zones.invariant.there
          no_cut;
      top = c.zones.invariant.top;
      classes = walk-other c.args.problem.now c.requires.sound c.args.trace.now c.requires.trace c.args.s c.requires.span
          c.args.z c.zones.zone c.zones.first
          c.zones.last c.zones-test.true c.zones.invariant.there no_cut c.zones.invariant.classes c.if-cut-s.false;
    }

pub returns : goal.returns
returns c =
    let p = c.args.problem.now in
    let none : c.zones.zone ≡ 0 = omega (arith, c.zones-test.false) in
    walk-end p c.requires.sound c.args.trace.now c.requires.trace c.args.s c.requires.span c.args.z c.zones.first c.zones.last
    c.zones.invariant.top
    (subst (λ n. IsWithinClasses (range_at (zone_of p c.args.trace.now c.args.z) c.args.s)
    (range_at (zone_of p c.args.trace.now n) c.args.s) c.zones.first c.zones.last)
    none c.zones.invariant.classes)
