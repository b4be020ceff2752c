use Rattle.tl_problem.specs.Zones.{InZone}
use Rattle.tl_problem.proofs.ShareLaws.{share-below_layout}
use Rattle.tl_problem.proofs.laws.share_bound_is_below_layouts.Goals as goal

pub returns : goal.returns
returns c = λ problem sound weighting is zone bound widths heights shared inside layout. share-below_layout problem sound weighting
    is (InZone problem zone) widths heights inside layout bound shared
