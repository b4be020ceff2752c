-- Cut by cut, up to the whole.
use Rattle.std.proofs.Common.{◌≡◌, List, [], inr, ap, ◌∙◌, subst, arith}
use Rattle.std.specs.List.{Contains}
use Rattle.std.proofs.lemmas.List.Elements.{All-nil}
use Rattle.tl_base.proofs.Members.{Contains-none}
use Rattle.tl_problem.specs.declared.zone.Range.{Range}
use Rattle.tl_problem.specs.Works.{AreAllowed}
use Rattle.tl_cert.specs.Implied.{Implied}
use Rattle.tl_cert.specs.Nogoods.{zone_bounds}
use Rattle.tl_cert.specs.Traces.{zone_of}
use Rattle.tl_cert.proofs.CutParts.{no_cut}
use Rattle.tl_check.specs.declared.left.Left.TheVariants.{More}
use Rattle.tl_check.proofs.LeftLaws.{but-found, but-none}
use Rattle.tl_check.proofs.PartBounds.{cut-span, cut-next, part-implied, part-looked_at, whole-no_bounds}
use Rattle.tl_check.proofs.ZoneWalks.{cut_to, parent-there, zone-first}
use Rattle.tl_check.proofs.left.left_of_zone.Goals as goal

pub part_bound-requires-clause-span : goal.part_bound-requires-clause-span
part_bound-requires-clause-span c = cut-span c.args.problem.now c.requires.keeps.sound c.args.trace.now c.requires.trace
    c.cuts.zone c.cuts-test.true
    c.cuts.invariant.there no_cut

pub part_bound-requires-clause-class : goal.part_bound-requires-clause-class
part_bound-requires-clause-class c = cut-next c.args.problem.now c.requires.keeps.sound c.args.trace.now c.requires.trace
    c.cuts.zone c.cuts-test.true
    c.cuts.invariant.there no_cut

pub is_implied-requires-clause-span : goal.is_implied-requires-clause-span
is_implied-requires-clause-span c =
    let inside = cut-span c.args.problem.now c.requires.keeps.sound c.args.trace.now c.requires.trace c.cuts.zone c.cuts-test.true
    c.cuts.invariant.there no_cut in
    omega (arith, inside, c.part_bound.ensures.span)

pub left_with_span-left-requires-clause-span : goal.left_with_span-left-requires-clause-span
left_with_span-left-requires-clause-span c = cut-span c.args.problem.now c.requires.keeps.sound c.args.trace.now
    c.requires.trace c.cuts.zone
    c.cuts-test.true c.cuts.invariant.there no_cut

pub cuts-init : goal.cuts-init
cuts-init c = record {
  there = c.requires.zone;
  found = record {
    seen = [];
    has_left = All-nil (Implied c.args.problem.now (AreAllowed c.args.problem.now c.args.matrix.now.bounds));
    among = λ bound has. absurd (Contains-none bound has);
    others = λ bound has. inr (inr has);
  };
}

pub cuts-preserved-else-is_more : goal.cuts-preserved-else-is_more
cuts-preserved-else-is_more c = record {
  there = parent-there c.args.problem.now c.args.trace.now c.requires.trace c.cuts.zone c.cuts-test.true c.cuts.invariant.there
      no_cut;
  found = part-looked_at c.args.problem.now c.requires.keeps.sound c.args.trace.now c.requires.trace c.cuts.zone
      c.cuts-test.true c.cuts.invariant.there
      no_cut c.part_bound.result c.part_bound.ensures.bound (AreAllowed c.args.problem.now c.args.matrix.now.bounds)
      c.args.z c.requires.zone c.cuts.left
      c.left_with_span-left.result c.left_with_span-left.ensures c.cuts.invariant.found;
}

pub cuts-preserved : goal.cuts-preserved
cuts-preserved c = record {
  there = parent-there c.args.problem.now c.args.trace.now c.requires.trace c.cuts.zone c.cuts-test.true c.cuts.invariant.there
      no_cut;
  found = part-implied c.args.problem.now c.requires.keeps.sound c.args.trace.now c.requires.trace c.cuts.zone c.cuts-test.true
      c.cuts.invariant.there
      no_cut c.part_bound.result c.part_bound.ensures.bound (AreAllowed c.args.problem.now c.args.matrix.now.bounds)
      c.args.z c.cuts.left
      (c.is_implied.ensures.0 c.if-not-is_implied.false) c.cuts.invariant.found;
}

pub returns-then-is_more : goal.returns-then-is_more
returns-then-is_more c =
    let p = c.args.problem.now in
    let trace = c.args.trace.now in
    let more : c.left_with_span-left.result ≡ More = c.is_more.ensures.0 c.if-is_more.true in
    let found = part-looked_at p c.requires.keeps.sound trace c.requires.trace c.cuts.zone c.cuts-test.true c.cuts.invariant.there
    no_cut c.part_bound.result c.part_bound.ensures.bound
    (AreAllowed p c.args.matrix.now.bounds) c.args.z c.requires.zone c.cuts.left
    c.left_with_span-left.result c.left_with_span-left.ensures c.cuts.invariant.found in
    but-found p (AreAllowed p c.args.matrix.now.bounds) (zone_bounds p (zone_of p trace c.args.z))
    (zone_bounds p (zone_of p trace (cut_to trace c.cuts.zone no_cut).zone)) c.left_with_span-left.result more found

pub returns : goal.returns
returns c =
    let p = c.args.problem.now in
    let trace = c.args.trace.now in
    let first : zone_of p trace c.cuts.zone ≡ zone_of p trace 0 = ap (zone_of p trace) (omega (arith, c.cuts-test.false)) in
    let whole = first ∙ zone-first p trace c.requires.trace in
    but-none p (AreAllowed p c.args.matrix.now.bounds) (zone_bounds p (zone_of p trace c.args.z))
    (zone_bounds p (zone_of p trace c.cuts.zone)) c.cuts.left
    (λ b has. whole-no_bounds p b (subst (λ (zone : List Range). Contains (zone_bounds p zone) b) whole has))
    c.cuts.invariant.found
