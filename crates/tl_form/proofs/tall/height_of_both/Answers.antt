-- At each width both heights are at most the first ones.
use Rattle.std.proofs.Common.{◌∙◌, arith, sym}
use Rattle.tl_form.proofs.TallStacks.{tall-parts}
use Rattle.tl_form.proofs.tall.height_of_both.Goals as goal

pub overflow_add-result : goal.overflow_add-result
overflow_add-result c =
    omega (
      arith,
      tall-parts c.args.above.now c.args.below.now c.requires.steps.0 c.requires.steps.1 c.args.width
          c.unwrap.result c.unwrap-2.result (sym c.height_at.ensures.height ∙ c.unwrap.ensures)
          (sym c.height_at-2.ensures.height ∙ c.unwrap-2.ensures),
      c.requires.small,
    )
