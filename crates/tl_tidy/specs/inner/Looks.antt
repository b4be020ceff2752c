-- What a look at a zone finds; no public clause cites this file.
use Rattle.std.specs.Prelude.{ℕ, List}
use Rattle.tl_problem.specs.declared.placed.Placed.{Placed}
use Rattle.tl_problem.specs.declared.zone.Range.{Range}
use Rattle.tl_problem.specs.Problem.{ProblemModel}
use Rattle.tl_problem.specs.Zones.{InZone, IsFirstOpen}
use Rattle.tl_problem.specs.Agreement.{HasOneClass}
use Rattle.tl_problem.specs.Placements.{AreLeast}
use Rattle.tl_problem.specs.Tight.{IsTightFrom}
use Rattle.tl_tidy.specs.declared.look.Look.{Look}
use Rattle.tl_tidy.specs.declared.look.Look.TheVariants.{TooHigh, OneClass, Cut}
use Rattle.tl_tidy.specs.Needs.{HasLowBound, IsTooHigh}

-- the zone is too high, or has a low bound, and one class for each span or a first span of more
abbrev pub LooksAs : ProblemModel → ℕ → List Range → Look → Type 0
LooksAs problem height zone TooHigh = IsTooHigh problem height zone
LooksAs problem height zone OneClass = HasLowBound problem height zone × HasOneClass zone
LooksAs problem height zone (Cut span) = HasLowBound problem height zone × IsFirstOpen zone span

-- the placement of the zone's least positions, made tight
pub record IsTightIn (problem : ProblemModel) (zone : List Range) (placed : Placed) : Type 0 where
  pub widths : List ℕ
  pub least : AreLeast problem.spacing.gap (InZone problem zone) widths
  pub tight : IsTightFrom problem widths placed
