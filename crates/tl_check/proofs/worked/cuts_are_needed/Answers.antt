-- Cut by cut.
use Rattle.std.proofs.Common.{◌<◌}
use Rattle.std.proofs.Common.{get_or, ◌∙◌}
use Rattle.std.proofs.lemmas.List.{get_or_default}
use Rattle.tl_problem.specs.Zones.{InZone}
use Rattle.tl_cert.specs.declared.trace.CutAt.{CutAt}
use Rattle.tl_cert.specs.Traces.{zone_of}
use Rattle.tl_check.proofs.Working.{found-to, found-from, needed-next}
use Rattle.tl_check.proofs.worked.cuts_are_needed.Goals as goal

pub returns-then-not-is_below-clause-needed : goal.returns-then-not-is_below-clause-needed
returns-then-not-is_below-clause-needed c =
    let p = c.args.problem.now in
    let trace = c.args.trace.now in
    let i = c.loop-i.i in
    let cut : CutAt = get_or trace i (record { zone = 0; span = 0; class = 0 }) in
    let Among = InZone p (zone_of p trace cut.zone) in (
      λ never. absurd cc,
      λ all.
          let found = all i (record { zone = 0; span = 0; class = 0 }) c.loop-i-test.true in
          let yes = c.is_below.ensures.1
          (found-from p Among (λ bound. bound < c.args.opening)
          c.zone_bound.result c.zone_bound.ensures.bound found.0 found.1 found.2) in
          absurd cc,
    )

pub loop-i-preserved : goal.loop-i-preserved
loop-i-preserved c =
    let p = c.args.problem.now in
    let trace = c.args.trace.now in
    let i = c.loop-i.i in
    let cut : CutAt = get_or trace i (record { zone = 0; span = 0; class = 0 }) in
    let Among = InZone p (zone_of p trace cut.zone) in
    let found = found-to p Among (λ bound. bound < c.args.opening) c.zone_bound.result c.zone_bound.ensures.bound
    (c.is_below.ensures.0 c.if-not-is_below.false) in
    record {
      needed = needed-next p trace c.args.opening i cut c.loop-i-test.true (get_or_default trace i
          (record { zone = 0; span = 0; class = 0 }) cut c.loop-i-test.true)
          c.loop-i.invariant.needed found;
      page = c.zone_bound.ensures.page;
      matrix = c.zone_bound.ensures.matrix ∙ c.loop-i.invariant.matrix;
    }
