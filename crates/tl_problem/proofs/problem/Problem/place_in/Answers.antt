-- The placement is at the least widths of the zone.
use Rattle.tl_problem.specs.Placements.{AreLeast}
use Rattle.tl_problem.specs.Zones.{InZone}
use Rattle.tl_problem.proofs.problem.Problem.place_in.Goals as goal

pub returns-in_default-clause-placed : goal.returns-in_default-clause-placed
returns-in_default-clause-placed c = rw c.in_default.is at c.in_ok-found.ensures.widths

pub place_under-requires : goal.place_under-requires
place_under-requires c =
    let least : AreLeast c.args.self.now.spacing.gap (InZone c.args.self.now c.args.zone.now) c.in-Some.widths =
    rw c.in-Some.is at c.in_ok-found.ensures.widths in
    rw c.as_slice.ensures least.kind.page

pub returns-clause-placed : goal.returns-clause-placed
returns-clause-placed c =
    let least : AreLeast c.args.self.now.spacing.gap (InZone c.args.self.now c.args.zone.now) c.in-Some.widths =
    rw c.in-Some.is at c.in_ok-found.ensures.widths in
    record {
      columns = rw (c.in_ok-placed.ensures.1, c.as_slice.ensures) least;
      placement = c.in_ok-placed.ensures.0;
    }
