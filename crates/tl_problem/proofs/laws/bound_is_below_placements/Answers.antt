use Rattle.tl_problem.specs.Zones.{InZone}
use Rattle.tl_problem.proofs.BoundLaws.{bound-below_placement}
use Rattle.tl_problem.proofs.laws.bound_is_below_placements.Goals as goal

pub returns : goal.returns
returns c = λ problem sound zone bound placed is inside placement. bound-below_placement problem sound (InZone problem zone)
    bound placed is inside placement
