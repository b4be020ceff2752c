use Rattle.tl_form.proofs.ValidLaws.{lowest_is_least}
use Rattle.tl_form.proofs.valid_laws.lowest_is_least.Goals as goal

pub returns : goal.returns
returns c = lowest_is_least c.layouts_are_by_low.ensures c.layouts_by_high_fit.ensures
