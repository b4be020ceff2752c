use Rattle.tl_form.proofs.ValidLaws.{bounded_is_between}
use Rattle.tl_form.proofs.valid_laws.bounded_is_between.Goals as goal

pub returns : goal.returns
returns c = bounded_is_between c.layouts_are_by_low.ensures c.layouts_by_high_fit.ensures
