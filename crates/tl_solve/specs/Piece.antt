-- What every search of a piece of work promises: a search of one zone with a quota of cuts, for layouts that are lower than a
-- given height. Its trace begins with that zone as the whole, and what it did not come to is left.
use Rattle.std.specs.Prelude.{◌≡◌, ◌≢◌, ℕ, ◌<◌, ◌≤◌, ◌⊎◌, List, [], length, Option, None, Some, IfSome}
use Rattle.std.specs.List.{All, AllPairs, Contains}
use Rattle.tl_problem.specs.declared.placed.Placed.{Placed}
use Rattle.tl_problem.specs.declared.zone.Range.{Range}
use Rattle.tl_problem.specs.Problem.{ProblemModel}
use Rattle.tl_problem.specs.Zones.{InZone}
use Rattle.tl_problem.specs.Bounds.{IsBound}
use Rattle.tl_problem.specs.Tight.{IsTight}
use Rattle.tl_cert.specs.declared.trace.CutAt.{CutAt}
use Rattle.tl_cert.specs.Traces.{zone_at, Stands, IsTrace, IsKeen}
use Rattle.tl_cert.specs.Worked.{IsClosedZone}

-- the height that is to be undercut after the piece: that of the placement found, or the given one where none was found
abbrev pub final_height : ℕ → Option Placed → ℕ
final_height given None = given
final_height given (Some placed) = placed.height

-- the zone with this number of the trace of a zone has a bound below the height
abbrev pub HasBoundIn : ProblemModel → List Range → List CutAt → ℕ → ℕ → Type 0
HasBoundIn problem zone trace z height = (bound : ℕ) × IsBound problem (InZone problem (zone_at zone trace z)) bound ×
    (bound < height)

-- the zones that are left: different ones, all of which stand
pub record AreLeft (trace : List CutAt) (lefts : List ℕ) : Type 0 where
  pub standing : All (Stands trace) lefts
  pub different : AllPairs (λ one other. one ≢ other) lefts

-- The piece of a zone. It has at most `quota` cuts, each of a zone with a bound below the given height. A placement was found
-- only if it is tight and lower than the given height, and no zone of the trace, cut or not, has one lower than the final
-- height. Each zone that stands is left or closed for that height, and zones are left only after all cuts of the quota.
pub record IsPieceOf (problem : ProblemModel) (zone : List Range) (given quota : ℕ) (best : Option Placed)
    (trace : List CutAt) (lefts : List ℕ) : Type 0 where
  pub trace_of : IsTrace zone trace
  pub few : length trace ≤ quota
  pub cut_zones : All (λ cut. HasBoundIn problem zone trace cut.zone given) trace
  pub found : IfSome best (λ placed. IsTight problem placed × (placed.height < given))
  pub keen : IsKeen problem zone trace (final_height given best)
  pub left : AreLeft trace lefts
  pub closed : (z : ℕ) → Stands trace z →
      Contains lefts z ⊎ IsClosedZone problem (zone_at zone trace z) (final_height given best)
  pub spent : lefts ≢ [] → length trace ≡ quota
