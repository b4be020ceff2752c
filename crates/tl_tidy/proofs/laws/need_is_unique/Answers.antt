use Rattle.tl_tidy.proofs.NeedLaws.{need-unique}
use Rattle.tl_tidy.proofs.laws.need_is_unique.Goals as goal

pub returns : goal.returns
returns c = λ problem sound height zone need other is also. need-unique problem height is other also
