use Rattle.tl_form.proofs.DueProblems.{sections_give}
use Rattle.tl_form.proofs.due_laws.sections_give_sound_problems.Goals as goal

pub returns : goal.returns
returns c = sections_give c.layouts_are_by_low.ensures c.layouts_by_high_fit.ensures c.problem_is_determined.ensures
    c.sound_problems_alone.ensures c.placements_are_low.ensures
