use Rattle.tl_narrow.proofs.Laws.{met}
use Rattle.tl_narrow.proofs.slim_laws.met_is_slimmest.Goals as goal

pub returns : goal.returns
returns c = λ table style height most budget slim sound is same.
    met table style height most budget slim sound c.lowest_is_least.ensures c.bounded_is_between.ensures
    c.narrow_is_too_wide.ensures c.least_heights_exist.ensures is same
