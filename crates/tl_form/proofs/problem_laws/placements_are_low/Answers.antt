use Rattle.tl_form.proofs.PlacementSizes.{placement-low}
use Rattle.tl_form.proofs.problem_laws.placements_are_low.Goals as goal

pub returns : goal.returns
returns c = placement-low
