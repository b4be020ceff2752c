use Rattle.tl_problem.specs.Zones.{InZone}
use Rattle.tl_problem.proofs.AreaLaws.{area-below_layout}
use Rattle.tl_problem.proofs.laws.area_bound_is_below_layouts.Goals as goal

pub returns : goal.returns
returns c = λ problem sound zone bound widths heights is inside layout. area-below_layout problem sound (InZone problem zone)
    widths heights inside
    layout bound is
