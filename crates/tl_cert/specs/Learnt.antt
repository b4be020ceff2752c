-- What a search has learnt from its log: no zone is cut that a line known by then closes, and each line is shrunk to the
-- bounds that matter. It speaks of a problem in which `low` is `high` for every cell, of a trace and of a log.
use Rattle.std.specs.Prelude.{◌≢◌, ◌↔◌, ℕ, ◌<◌, ◌≤◌, List, [], length, get_or, map}
use Rattle.std.specs.List.{All, Contains}
use Rattle.tl_problem.specs.Problem.{ProblemModel}
use Rattle.tl_problem.specs.Zones.{InZone}
use Rattle.tl_cert.specs.declared.limits.TheConstants.{MAX_BOUNDS}
use Rattle.tl_cert.specs.declared.log.Bound.{Bound}
use Rattle.tl_cert.specs.declared.log.LogLine.{LogLine}
use Rattle.tl_cert.specs.declared.log.Nogood.TheVariants.{Bounds}
use Rattle.tl_cert.specs.declared.trace.CutAt.{CutAt}
use Rattle.tl_cert.specs.Traces.{Stands, zone_of}
use Rattle.tl_cert.specs.Nogoods.{nogood_bounds}
use Rattle.tl_cert.specs.Implied.{Implied}
use Rattle.tl_cert.specs.Lines.{IsGoodLine}
use Rattle.tl_cert.specs.ZoneOrders.{AtEachCut, ZoneComesBefore}

-- ---- lines that are shrunk

-- the line with these bounds written out as its nogood
abbrev pub with_bounds : LogLine → List Bound → LogLine
with_bounds line bounds = record { nogood = Bounds bounds; fires = line.fires; end = line.end }

-- the others are the bounds but this one
pub record AreAllBut (bounds : List Bound) (bound : Bound) (others : List Bound) : Type 0 where
  pub among : Contains bounds bound
  pub each : (other : Bound) → Contains others other ↔ (Contains bounds other × (other ≢ bound))

-- line `k` is not good for the height once any one of its bounds is taken away
abbrev pub IsMinimalLine : ProblemModel → List CutAt → List LogLine → ℕ → ℕ → LogLine → Type 0
IsMinimalLine problem trace log height k line = (bound : Bound) (others : List Bound) →
    AreAllBut (nogood_bounds problem trace line.nogood) bound others →
    IsGoodLine problem trace log height k (with_bounds line others) → ⊥

-- ---- lines that close zones

-- the bounds of the lines' nogoods, line by line
abbrev pub nogoods_in : ProblemModel → List CutAt → List LogLine → List (List Bound)
nogoods_in problem trace log = map (λ line. nogood_bounds problem trace line.nogood) log

-- the widths of a zone imply all bounds of the nogood with this number
abbrev pub NogoodCloses : ProblemModel → List CutAt → List (List Bound) → ℕ → ℕ → Type 0
NogoodCloses problem cuts nogoods k z = All (Implied problem (InZone problem (zone_of problem cuts z))) (get_or nogoods k [])

-- the zone stands at the cut, and comes before the zone that is cut
pub record StandsBefore (cuts : List CutAt) (cut : CutAt) (z : ℕ) : Type 0 where
  pub stands : Stands cuts z
  pub before : ZoneComesBefore cuts z cut.zone

-- the first so many nogoods close each zone that stands at the cut and comes before the one that is cut
abbrev pub AreEnough : ProblemModel → List (List Bound) → List CutAt → CutAt → ℕ → Type 0
AreEnough problem nogoods cuts cut n = (z : ℕ) → StandsBefore cuts cut z →
    (k : ℕ) × (k < n) × NogoodCloses problem cuts nogoods k z

-- the nogood is known at the cut: it is one of the first, however few of them are enough
abbrev pub IsKnown : ProblemModel → List (List Bound) → List CutAt → CutAt → ℕ → Type 0
IsKnown problem nogoods cuts cut k = (n : ℕ) → AreEnough problem nogoods cuts cut n → k < n

-- ---- both

-- The trace and the log are learnt, where `opening` is the height of the opening. No zone that stands at a cut and comes
-- before the cut zone is cut later. The log has enough lines for those that are known at each cut, and none of these closes
-- the zone that is cut. From a line of at most `MAX_BOUNDS` bounds none of them can be taken away, even for the opening.
pub record IsLearnt (problem : ProblemModel) (opening : ℕ) (trace : List CutAt) (log : List LogLine) : Type 0 where
  pub stay : AtEachCut (λ cuts cut. (z : ℕ) → StandsBefore cuts cut z → Stands trace z) trace
  pub enough : AtEachCut (λ cuts cut. (n : ℕ) × (n ≤ length log)
      × AreEnough problem (nogoods_in problem trace log) cuts cut n) trace
  pub not_closed : AtEachCut (λ cuts cut. (k : ℕ) → IsKnown problem (nogoods_in problem trace log) cuts cut k →
      NogoodCloses problem cuts (nogoods_in problem trace log) k cut.zone → ⊥) trace
  pub shrunk : (k : ℕ) (d : LogLine) → k < length log →
      length (nogood_bounds problem trace (get_or log k d).nogood) ≤ MAX_BOUNDS →
      IsMinimalLine problem trace log opening k (get_or log k d)
