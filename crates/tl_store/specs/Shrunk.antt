-- What shrinking leaves of a line.
use Rattle.std.specs.Prelude.{◌≡◌, ◌≢◌, ◌⊎◌, ℕ, ◌<◌, ◌≤◌, List, length}
use Rattle.std.specs.List.{AllPairs, Contains}
use Rattle.tl_problem.specs.Problem.{ProblemModel}
use Rattle.tl_cert.specs.declared.limits.TheConstants.{MAX_BOUNDS}
use Rattle.tl_cert.specs.declared.log.Bound.{Bound}
use Rattle.tl_cert.specs.declared.log.LogLine.{LogLine}
use Rattle.tl_cert.specs.declared.log.Nogood.{Nogood}
use Rattle.tl_cert.specs.declared.log.Nogood.TheVariants.{Zone, Bounds}
use Rattle.tl_cert.specs.declared.trace.CutAt.{CutAt}
use Rattle.tl_cert.specs.Nogoods.{nogood_bounds}
use Rattle.tl_cert.specs.Lines.{IsGoodLine}
use Rattle.tl_cert.specs.Learnt.{with_bounds, IsMinimalLine}
use Rattle.tl_store.specs.Stores.{BoundComesFirst}

-- bounds that a line may write out: at least one and not too many, in order
pub record AreFewBounds (bounds : List Bound) : Type 0 where
  pub some : 1 ≤ length bounds
  pub most : length bounds ≤ MAX_BOUNDS
  pub sorted : AllPairs BoundComesFirst bounds

-- the nogood is zone 0, which has no bounds, or has few bounds
abbrev pub IsShort : Nogood → Type 0
IsShort (Zone z) = z ≡ 0
IsShort (Bounds bounds) = AreFewBounds bounds

-- some of the line's bounds, more than may be written out, make with its fires and its end a good line from which no bound can
-- be taken
pub record HasLongMinimal (problem : ProblemModel) (trace : List CutAt) (log : List LogLine) (lower k : ℕ)
    (line : LogLine) : Type 0 where
  pub bounds : List Bound
  pub long : MAX_BOUNDS < length bounds
  pub no_more : length bounds ≤ length (nogood_bounds problem trace line.nogood)
  pub apart : AllPairs (λ a b. a ≢ b) bounds
  pub among : (bound : Bound) → Contains bounds bound → Contains (nogood_bounds problem trace line.nogood) bound
  pub good : IsGoodLine problem trace log lower k (with_bounds line bounds)
  pub minimal : IsMinimalLine problem trace log lower k (with_bounds line bounds)

-- The line is shrunk to the new one, which is good, with the same fires and the same end and some of its bounds. No bound can
-- be taken from it; or it is the old line, where too many bounds would be left.
pub record IsShrunk (problem : ProblemModel) (trace : List CutAt) (log : List LogLine) (lower k : ℕ)
    (line new : LogLine) : Type 0 where
  pub good : IsGoodLine problem trace log lower k new
  pub fires : new.fires ≡ line.fires
  pub end : new.end ≡ line.end
  pub among : (bound : Bound) → Contains (nogood_bounds problem trace new.nogood) bound →
      Contains (nogood_bounds problem trace line.nogood) bound
  pub small : (IsMinimalLine problem trace log lower k new × IsShort new.nogood)
      ⊎ ((new ≡ line) × HasLongMinimal problem trace log lower k line)
