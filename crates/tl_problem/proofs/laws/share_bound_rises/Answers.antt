use Rattle.tl_problem.specs.Zones.{InZone}
use Rattle.tl_problem.proofs.ShareLaws.{share-rises}
use Rattle.tl_problem.proofs.laws.share_bound_rises.Goals as goal

pub returns : goal.returns
returns c = λ problem weighting zone part within low high outer inner. share-rises problem (InZone problem zone)
    (InZone problem part) within weighting low high outer inner
