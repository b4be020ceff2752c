use Rattle.tl_problem.proofs.OneClass.{one_class-height}
use Rattle.tl_problem.proofs.laws.one_class_is_exact.Goals as goal

pub returns : goal.returns
returns c = λ problem sound zone is one agree bound widths heights bounds inside least. one_class-height problem sound zone is
    one agree widths
    heights bound inside least bounds
