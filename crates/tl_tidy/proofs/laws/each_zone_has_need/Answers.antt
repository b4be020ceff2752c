use Rattle.tl_tidy.proofs.NeedLaws.{need-exists}
use Rattle.tl_tidy.proofs.laws.each_zone_has_need.Goals as goal

pub returns : goal.returns
returns c = λ problem sound height zone is. need-exists problem sound height zone is
