use Rattle.tl_tidy.proofs.NeedLaws.{whole-below}
use Rattle.tl_tidy.proofs.laws.need_is_below_count.Goals as goal

pub returns : goal.returns
returns c = λ problem sound height need is small. whole-below problem sound height need is small
