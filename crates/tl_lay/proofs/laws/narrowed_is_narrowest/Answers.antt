use Rattle.tl_lay.proofs.NarrowestPages.{narrowed_is_narrowest}
use Rattle.tl_lay.proofs.laws.narrowed_is_narrowest.Goals as goal

pub returns : goal.returns
returns c = narrowed_is_narrowest c.met_is_slimmest.ensures c.slimmest_is_no_less.ensures c.kept_has_slimmest.ensures
