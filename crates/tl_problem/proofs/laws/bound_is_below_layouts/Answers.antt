use Rattle.tl_problem.specs.Zones.{InZone}
use Rattle.tl_problem.proofs.BoundLaws.{bound-below_layout}
use Rattle.tl_problem.proofs.laws.bound_is_below_layouts.Goals as goal

pub returns : goal.returns
returns c = λ problem sound zone bound widths heights is inside layout. bound-below_layout problem sound (InZone problem zone)
    bound widths heights
    is inside layout
