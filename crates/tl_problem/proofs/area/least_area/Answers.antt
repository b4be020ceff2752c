-- The least area is at the least room, or where a step begins.
use Rattle.std.proofs.Common.{◌≤◌, arith, refl, sym, ◌∙◌}
use Rattle.std.proofs.lemmas.List.Elements.{All-contains}
use Rattle.tl_base.specs.Steps.{first_width}
use Rattle.tl_problem.specs.Problem.{cell_width}
use Rattle.tl_problem.specs.Works.{AreAllowed}
use Rattle.tl_problem.proofs.Heights.{height-from_first}
use Rattle.tl_problem.proofs.AreaFound.{IsLeastArea-found}
use Rattle.tl_problem.proofs.area.least_area.Goals as goal

pub unwrap-height-requires : goal.unwrap-height-requires
unwrap-height-requires c =
    let at = c.least_room-low.ensures.room.attained in
    let page = c.requires.keeps.page at.0 at.1 in
    let wide = All-contains (λ cell. first_width cell.low ≤ cell_width c.args.problem.now at.0 cell)
    c.args.problem.now.cells c.args.cell.now
    page.cells c.requires.inside in
    let here = height-from_first c.args.cell.now.low c.requires.cell.steps.0.has_step c.least_room-low.result
    (omega (arith, wide, at.2)) in
    rw (c.height_at.ensures.height, here.1) refl

pub returns : goal.returns
returns c =
    IsLeastArea-found c.args.problem.now (AreAllowed c.args.problem.now c.args.matrix.now.bounds)
    c.args.cell.now c.least_room-low.result
    c.greatest_room-high.result c.unwrap-height.result c.least_step.result c.requires.cell
    c.least_room-low.ensures.room c.greatest_room-high.ensures.room (sym c.height_at.ensures.height ∙ c.unwrap-height.ensures)
    (rw (
      c.configs.ensures.configs,
      c.area_at-start.ensures,
      c.spacing-gap.ensures.spacing,
      c.spacing-row_gap.ensures.spacing,
    ) at
    c.least_step.ensures)
