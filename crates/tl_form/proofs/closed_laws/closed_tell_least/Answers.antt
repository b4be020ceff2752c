use Rattle.tl_form.proofs.ClosedLaws.{closed_tell}
use Rattle.tl_form.proofs.closed_laws.closed_tell_least.Goals as goal

pub returns : goal.returns
returns c = closed_tell c.layouts_are_by_low.ensures c.layouts_by_high_fit.ensures
