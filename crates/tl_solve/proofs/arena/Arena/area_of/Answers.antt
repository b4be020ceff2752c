-- The zone at that place of the list is the one with this number.
use Rattle.std.proofs.Common.{sym, subst, arith, MatchOption}
use Rattle.tl_problem.specs.declared.zone.Range.{Range}
use Rattle.std.proofs.Common.{List}
use Rattle.tl_problem.specs.Areas.{IsAreaBound}
use Rattle.tl_problem.specs.Bounds.{HasNoWidths}
use Rattle.tl_problem.specs.Zones.{whole_zone, InZone, IsZone}
use Rattle.tl_solve.proofs.ArenaLaws.{arena-item, arena-zone}
use Rattle.tl_solve.proofs.ZoneLists.{zones-count}
use Rattle.tl_solve.proofs.arena.Arena.area_of.Goals as goal

pub index-requires : goal.index-requires
index-requires c =
    let arena = c.args.self.now in
    let count = zones-count (whole_zone c.args.problem.now) arena.trace arena.zones.items c.requires.arena.zones in
    omega (arith, c.requires.there, count)

pub area_of-requires-clause-zone : goal.area_of-requires-clause-zone
area_of-requires-clause-zone c =
    let p = c.args.problem.now in
    let arena = c.args.self.now in
    let same = arena-item p arena c.requires.arena c.args.zone c.index.result.now c.requires.there c.index.ensures in
    subst (IsZone p) (sym same) (arena-zone p arena c.requires.arena c.args.zone c.requires.there)

pub returns-clause-area : goal.returns-clause-area
returns-clause-area c =
    let p = c.args.problem.now in
    let same = arena-item p c.args.self.now c.requires.arena c.args.zone c.index.result.now c.requires.there c.index.ensures in
    subst (λ (zone : List Range). MatchOption c.area_of.result (HasNoWidths (InZone p zone)) (IsAreaBound p (InZone p zone))) same
    c.area_of.ensures.bound
