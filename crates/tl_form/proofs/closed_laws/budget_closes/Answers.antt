use Rattle.tl_form.proofs.ClosedLaws.{budget_closes}
use Rattle.tl_form.proofs.closed_laws.budget_closes.Goals as goal

pub returns : goal.returns
returns c = budget_closes c.layouts_are_by_low.ensures c.layouts_by_high_fit.ensures c.true_where_bounds_meet.ensures
    c.counts_rise.ensures
