use Rattle.std.proofs.Common.{subst, arith}
use Rattle.std.specs.Option.{MatchOption}
use Rattle.tl_problem.specs.Bounds.{HasNoWidths}
use Rattle.tl_problem.specs.Placements.{IsPlacementIn}
use Rattle.tl_problem.specs.Zones.{InZone}
use Rattle.tl_tidy.proofs.WalkLaws.{one-height}
use Rattle.tl_tidy.proofs.look.place_tight.Goals as goal

pub returns-clause-low : goal.returns-clause-low
returns-clause-low c =
    let p = c.args.problem.now in
    let zone = c.args.zone.now in
    let placed = subst (λ o. MatchOption o (HasNoWidths (InZone p zone)) (IsPlacementIn p (InZone p zone)))
    c.unwrap-least.ensures c.in_ok-found.ensures.placed in
    let low = one-height p c.requires.work.sound c.requires.agree c.args.height zone c.requires.zone c.requires.one c.requires.bound
    c.unwrap-least.result placed in
    omega (arith, low, c.in_ok-placed.ensures.no_higher)
