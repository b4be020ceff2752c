use Rattle.tl_narrow.proofs.Laws.{enough}
use Rattle.tl_narrow.proofs.slim_laws.enough_is_not_spent.Goals as goal

pub returns : goal.returns
returns c = λ table style height most budget count slim is counted more.
    enough table style height most budget slim c.all_counts_rise.ensures count is counted more
