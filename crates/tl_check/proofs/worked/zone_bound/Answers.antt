-- What is left under the bounds of the zone is the zone.
use Rattle.tl_cert.specs.Traces.{zone_of}
use Rattle.tl_cert.proofs.TraceLaws.{zones-are}
use Rattle.tl_check.proofs.Working.{zone-bound}
use Rattle.tl_check.proofs.worked.zone_bound.Goals as goal

pub returns-clause-bound : goal.returns-clause-bound
returns-clause-bound c =
    let p = c.args.problem.now in
    let sound = c.requires.page.work_of.sound in
    let zone = zone_of p c.args.trace.now c.args.z in
    zone-bound p sound zone (zones-are p sound c.args.trace.now c.requires.trace c.args.z c.requires.zone)
    c.keep_zone.new.matrix.bounds
    c.keep_zone.ensures.describes c.held_bound-bound.result c.held_bound-bound.ensures.bound
