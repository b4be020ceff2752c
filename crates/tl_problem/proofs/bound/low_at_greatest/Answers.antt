-- At the greatest room the cell has a height.
use Rattle.std.proofs.Common.{◌≤◌, arith}
use Rattle.std.proofs.lemmas.List.Elements.{All-contains}
use Rattle.tl_base.specs.Steps.{first_width}
use Rattle.tl_problem.specs.Problem.{cell_width}
use Rattle.tl_problem.proofs.bound.low_at_greatest.Goals as goal

pub height_in-requires : goal.height_in-requires
height_in-requires c =
    let at = c.greatest_room-room.ensures.room.attained in
    let page = c.requires.keeps.page at.0 at.1 in
    let wide = All-contains (λ cell. first_width cell.low ≤ cell_width c.args.problem.now at.0 cell)
    c.args.problem.now.cells c.args.cell.now
    page.cells c.requires.inside in
    omega (arith, wide, at.2)

pub returns : goal.returns
returns c = (c.greatest_room-room.result, (c.greatest_room-room.ensures.room, c.height_in.ensures))
