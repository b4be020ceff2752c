-- A span more.
use Rattle.std.proofs.Common.{◌<◌, ◌++◌, List, [], length, get_or, sym, ap, ◌∙◌, subst, arith}
use Rattle.std.proofs.lemmas.List.{get_or_default}
use Rattle.tl_problem.specs.declared.zone.Range.{Range}
use Rattle.tl_problem.specs.Zones.{range}
use Rattle.tl_cert.specs.Nogoods.{range_bounds}
use Rattle.tl_cert.specs.declared.log.Bound.{Bound}
use Rattle.tl_check.specs.Matrices.{Describes}
use Rattle.tl_check.specs.inner.Zones.{bounds_upto}
use Rattle.tl_check.proofs.Spans.{upto-next}
use Rattle.tl_check.proofs.ranges.keep_ranges.Goals as goal

pub loop-s-preserved : goal.loop-s-preserved
loop-s-preserved c =
    let p = c.args.problem.now in
    let zone = c.args.zone.now in
    let s = c.loop-s.s in
    let m = c.keep_range.new.matrix.bounds in
    let within : s < length zone = omega (arith, c.loop-s-test.true, c.span_count-count.ensures, c.requires.zone.spans) in
    record {
      describes = subst (λ (l : List Bound). Describes p l [] m) (sym (upto-next p zone s))
          (subst (λ (r : Range). Describes p (bounds_upto p zone s ++ range_bounds p s r) [] m)
          (ap (λ (z : List Range). get_or z s _) c.ranges-ranges.ensures ∙ get_or_default zone s _ (range 0 0) within)
          (c.keep_range.ensures.describes (bounds_upto p zone s) c.loop-s.invariant.describes));
      marks = record {
        marks = c.keep_range.ensures.marks.marks ∙ c.loop-s.invariant.marks.marks;
        held = c.keep_range.ensures.marks.held ∙ c.loop-s.invariant.marks.held;
      };
    }
