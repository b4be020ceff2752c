use Rattle.tl_tidy.proofs.NeedLaws.{chosen-unique}
use Rattle.tl_tidy.proofs.laws.chosen_is_unique.Goals as goal

pub returns : goal.returns
returns c = λ problem height placed other one two. chosen-unique problem height placed other one two
