-- A height that the steps have is reached by some width.
use Rattle.tl_base.specs.Sizes.{room}
use Rattle.tl_problem.proofs.NeedLemmas.{width-found}
use Rattle.tl_problem.proofs.placing.width_at.Goals as goal

pub unwrap-requires : goal.unwrap-requires
unwrap-requires c =
    width-found c.args.cell.now.high c.requires.steps (room c.args.gap c.args.widths.now c.args.cell.now.left
    c.args.cell.now.right)
    c.high_at-height.result c.high_at-height.ensures c.width_for.result c.width_for.ensures.none
