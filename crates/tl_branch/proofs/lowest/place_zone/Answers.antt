use Rattle.std.proofs.Common.{subst}
use Rattle.std.specs.Option.{MatchOption}
use Rattle.tl_problem.specs.Zones.{InZone}
use Rattle.tl_problem.specs.Bounds.{HasNoWidths}
use Rattle.tl_problem.specs.Placements.{IsPlacementIn}
use Rattle.tl_solve.proofs.ArenaLaws.{looked-placed}
use Rattle.tl_branch.proofs.lowest.place_zone.Goals as goal

pub returns-in_ok-take_lower-clause-looked : goal.returns-in_ok-take_lower-clause-looked
returns-in_ok-take_lower-clause-looked c =
    let Among = InZone c.args.problem.now c.args.zone.now in
    let placed = subst (λ o. MatchOption o (HasNoWidths Among) (IsPlacementIn c.args.problem.now Among))
    c.in-Some.is c.in_ok-found.ensures.placed in
    looked-placed c.args.problem.now c.args.zone.now c.in-Some.placed c.take_lower.new.lowest.height placed
    c.in_ok-take_lower.ensures.taken
