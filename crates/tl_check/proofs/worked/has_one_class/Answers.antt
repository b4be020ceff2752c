-- Each span has one class.
use Rattle.std.proofs.Common.{◌≡◌}
use Rattle.std.proofs.Common.{refl, subst, arith}
use Rattle.std.proofs.lemmas.List.{get_or_default}
use Rattle.tl_problem.specs.declared.zone.Range.{Range}
use Rattle.tl_problem.specs.Zones.{range}
use Rattle.tl_cert.specs.Traces.{zone_of}
use Rattle.tl_cert.proofs.TraceLaws.{zones-are}
use Rattle.tl_check.proofs.worked.has_one_class.Goals as goal

pub returns : goal.returns
returns c =
    let p = c.args.problem.now in
    let zone = zone_of p c.args.trace.now c.args.z in
    let is = zones-are p c.requires.sound c.args.trace.now c.requires.trace c.args.z c.requires.zone in (
      λ yes k d within. subst (λ (r : Range). r.first ≡ r.last) (get_or_default zone k (range 0 0) d within)
          (c.loop-s.invariant k (omega (arith, within, c.loop-s-test.false, c.span_count-count.ensures, is.spans))),
      λ all. refl,
    )
