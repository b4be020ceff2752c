use Rattle.tl_form.proofs.OpenLaws.{open_spends}
use Rattle.tl_form.proofs.open_laws.open_spends.Goals as goal

pub returns : goal.returns
returns c = open_spends c.layouts_are_by_low.ensures c.layouts_by_high_fit.ensures c.true_where_bounds_meet.ensures
