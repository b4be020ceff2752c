use Rattle.tl_narrow.proofs.Laws.{low_least}
use Rattle.tl_narrow.proofs.slim_laws.slimmest_is_no_less.Goals as goal

pub returns : goal.returns
returns c = λ table style height most budget slim sound is width slimmest.
    low_least table style height most budget slim sound c.lowest_is_least.ensures c.bounded_is_between.ensures
    c.narrow_is_too_wide.ensures is width slimmest.some slimmest.low
