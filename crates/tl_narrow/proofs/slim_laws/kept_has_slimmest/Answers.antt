use Rattle.tl_narrow.proofs.Laws.{has_slimmest}
use Rattle.tl_narrow.proofs.slim_laws.kept_has_slimmest.Goals as goal

pub returns : goal.returns
returns c = λ table style height most budget slim sound is there.
    has_slimmest table style height most budget slim sound c.lowest_is_least.ensures
    c.bounded_is_between.ensures c.least_heights_exist.ensures is there
