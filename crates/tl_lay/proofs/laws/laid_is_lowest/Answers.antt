use Rattle.tl_lay.proofs.LowestPages.{laid_is_lowest}
use Rattle.tl_lay.proofs.laws.laid_is_lowest.Goals as goal

pub returns : goal.returns
returns c = laid_is_lowest
