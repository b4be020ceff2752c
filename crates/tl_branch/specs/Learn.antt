-- What the search that learns promises besides what every search does.
use Rattle.std.specs.Prelude.{ℕ, ◌<◌, ◌≤◌, List, [], ◌∷◌, ◌++◌, length, get_or, remove}
use Rattle.tl_problem.specs.declared.placed.Placed.{Placed}
use Rattle.tl_problem.specs.Problem.{ProblemModel}
use Rattle.tl_problem.specs.Agreement.{LowIsHigh}
use Rattle.tl_problem.specs.Placements.{IsOpening}
use Rattle.tl_cert.specs.declared.log.Bound.{Bound}
use Rattle.tl_cert.specs.declared.log.LogLine.{LogLine}
use Rattle.tl_cert.specs.declared.trace.CutAt.{CutAt}
use Rattle.tl_cert.specs.Learnt.{IsLearnt, NogoodCloses, nogoods_in}
use Rattle.tl_cert.specs.Lines.{IsGoodLine}
use Rattle.tl_cert.specs.Traces.{IsZoneOf, Stands}
use Rattle.tl_cert.specs.Worked.{IsBoundOf}
use Rattle.tl_cert.specs.ZoneOrders.{AtEachCut, ZoneComesBefore}
use Rattle.tl_solve.specs.declared.outcome.Outcome.{Outcome}
use Rattle.tl_solve.specs.Arenas.{HasBoundBelow, IsLowered}
use Rattle.tl_solve.specs.Ends.{IsLeastStanding}
use Rattle.tl_solve.specs.Orders.{CutsFirstSpans, CutsBelowPlacements, IsInClassOrder}

-- ---- the lines of zones that are cut

-- the first so many nogoods close each zone that comes before the one that is cut: those that stand, and those that were cut
-- and whose parts are done
abbrev pub CloseAllBefore : ProblemModel → List (List Bound) → List CutAt → CutAt → ℕ → Type 0
CloseAllBefore problem nogoods cuts cut n = (z : ℕ) → IsZoneOf cuts z → ZoneComesBefore cuts z cut.zone →
    (k : ℕ) × (k < n) × NogoodCloses problem cuts nogoods k z

-- at the cut the first nogoods closed all zones before the one that is cut, and none of them closed that one
pub record IsUnclosed (problem : ProblemModel) (nogoods : List (List Bound)) (cuts : List CutAt) (cut : CutAt) : Type 0 where
  pub n : ℕ
  pub there : n ≤ length nogoods
  pub before : CloseAllBefore problem nogoods cuts cut n
  pub none : (k : ℕ) → k < n → NogoodCloses problem cuts nogoods k cut.zone → ⊥

-- ---- the fires of lines

-- the line with these fires
abbrev pub with_fires : LogLine → List ℕ → LogLine
with_fires line fires = record { nogood = line.nogood; fires = fires; end = line.end }

-- line `k` is good for no height once any one of its fires is taken away
abbrev pub FiresAreNeeded : ProblemModel → List CutAt → List LogLine → ℕ → LogLine → Type 0
FiresAreNeeded problem trace log k line = (i height : ℕ) → i < length line.fires →
    IsGoodLine problem trace log height k (with_fires line (remove line.fires i)) → ⊥

-- ---- the lower bound

-- The cut is the one that comes next: its zone stands, has a bound below the height and follows all zones that were cut. The
-- first nogoods close all zones before it, and none of them closes it.
pub record IsNextCut (problem : ProblemModel) (trace : List CutAt) (nogoods : List (List Bound)) (height : ℕ)
    (cut : CutAt) : Type 0 where
  pub stands : Stands trace cut.zone
  pub below : HasBoundBelow problem trace cut.zone height
  pub order : IsInClassOrder (trace ++ cut ∷ [])
  pub unclosed : IsUnclosed problem nogoods trace cut

-- the zone is ahead of the search: it stands, and does not come before the one that is cut next
pub record IsAhead (trace : List CutAt) (cut : CutAt) (z : ℕ) : Type 0 where
  pub stands : Stands trace z
  pub not_passed : ZoneComesBefore trace z cut.zone → ⊥

-- `lower` is the least of the bounds of the zones that are ahead and have widths
pub record IsLeastAhead (problem : ProblemModel) (trace : List CutAt) (nogoods : List (List Bound)) (height lower : ℕ) : Type 0 where
  pub cut : CutAt
  pub next : IsNextCut problem trace nogoods height cut
  pub never_more : (z bound : ℕ) → IsAhead trace cut z → IsBoundOf problem trace z bound → lower ≤ bound
  pub attained : (z : ℕ) × IsAhead trace cut z × IsBoundOf problem trace z lower

-- The lower bound is the least of the bounds of the zones that are left. Where `low` is `high` for every cell these are the
-- zones that are ahead of the search, and elsewhere, where no nogood closes a zone, all that stand.
pub record IsLeastLeft (problem : ProblemModel) (trace : List CutAt) (log : List LogLine) (height lower : ℕ) : Type 0 where
  pub alike : LowIsHigh problem → IsLeastAhead problem trace (nogoods_in problem trace log) height lower
  pub unlike : (LowIsHigh problem → ⊥) → IsLeastStanding problem trace height lower

-- ---- all of it

-- The search began with the opening and replaced it only by lower placements. It cut zones in the order of their classes,
-- each at its first span of more than one class, after the first of them, and none with a bound at or above the height of a
-- placement that was made before. Where `low` is `high` for every cell, its trace and its log are learnt, and each zone that
-- it was done with had a line by the next cut, a cut zone too. No line fires more lines than it needs. A lower bound below the
-- height is the least of the bounds that are left.
pub record IsLearnOutcome (problem : ProblemModel) (outcome : Outcome) : Type 0 where
  pub opening : Placed
  pub is_opening : IsOpening problem opening
  pub lowered : IsLowered opening outcome.best
  pub spans : CutsFirstSpans problem outcome.trace
  pub below : CutsBelowPlacements problem outcome.trace
  pub order : IsInClassOrder outcome.trace
  pub learnt : LowIsHigh problem → IsLearnt problem opening.height outcome.trace outcome.log
  pub closed_before : LowIsHigh problem →
      AtEachCut (IsUnclosed problem (nogoods_in problem outcome.trace outcome.log)) outcome.trace
  pub fires : (k : ℕ) (d : LogLine) → k < length outcome.log →
      FiresAreNeeded problem outcome.trace outcome.log k (get_or outcome.log k d)
  pub least : outcome.lower < outcome.best.height →
      IsLeastLeft problem outcome.trace outcome.log outcome.best.height outcome.lower
