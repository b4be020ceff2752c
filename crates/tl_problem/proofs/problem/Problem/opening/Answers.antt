-- The least positions for the least widths are those of all widths within the page.
use Rattle.std.proofs.Common.{arith}
use Rattle.tl_problem.specs.Placements.{IsOpening}
use Rattle.tl_problem.proofs.NeedLemmas.{page-give, page-least, least-sum, opening-tight}
use Rattle.tl_problem.proofs.problem.Problem.opening.Goals as goal

pub least_sizes-requires-clause-fits : goal.least_sizes-requires-clause-fits
least_sizes-requires-clause-fits c = rw c.deref.ensures.value
    (omega (arith, least-sum c.args.self.now c.cells-cells.ensures.sound c.in_ok-demands.demands.items c.in_ok-demands.ensures))

pub place_under-requires : goal.place_under-requires
place_under-requires c =
    rw c.as_slice.ensures
    (page-give c.args.self.now c.cells-cells.ensures.sound c.in_ok-demands.demands.items c.in_ok-widths.widths
    c.in_ok-demands.ensures
    (rw c.deref.ensures.value at c.in_ok-widths.ensures.least))

pub returns-clause-opening : goal.returns-clause-opening
returns-clause-opening c =
    let least = page-least c.args.self.now c.cells-cells.ensures.sound c.in_ok-demands.demands.items c.in_ok-widths.widths
    c.in_ok-demands.ensures
    (rw c.deref.ensures.value at c.in_ok-widths.ensures.least) in
    let is : IsOpening c.args.self.now c.in_ok-placed.placed = record {
      columns = rw (c.in_ok-placed.ensures.1, c.as_slice.ensures) least;
      placement = c.in_ok-placed.ensures.0;
    } in
    is

pub returns-clause-tight : goal.returns-clause-tight
returns-clause-tight c =
    opening-tight c.args.self.now c.cells-cells.ensures.sound c.in_ok-demands.demands.items c.in_ok-placed.placed
    c.in_ok-demands.ensures
    (rw (c.in_ok-placed.ensures.1, c.as_slice.ensures) (rw c.deref.ensures.value at c.in_ok-widths.ensures.least))
    c.in_ok-placed.ensures.0
