-- The lower bound that the zones of a trace prove, found zone by zone. No public clause cites this file.
use Rattle.std.specs.Prelude.{◌≡◌, ◌≢◌, IsTrue, ◌↔◌, Bool, false, ℕ, ◌+◌, ◌*◌, ◌<◌, ◌≤◌, max, ◌⊎◌, List, length, get_or}
use Rattle.tl_problem.specs.Problem.{ProblemModel}
use Rattle.tl_cert.specs.declared.trace.CutAt.{CutAt}
use Rattle.tl_cert.specs.Traces.{Stands, zone_of}
use Rattle.tl_cert.specs.Worked.{IsBoundOf}
use Rattle.tl_solve.specs.Logs.{Proves}
use Rattle.tl_astar.specs.Best.{IsAreaOf}

-- for each zone of a trace whether none of its first cuts is of it
pub record AreUncut (trace : List CutAt) (upto : ℕ) (marks : List Bool) : Type 0 where
  pub count : length marks ≡ 2 * length trace + 1
  pub each : (z : ℕ) → z < length marks →
      IsTrue (get_or marks z false) ↔ ((i : ℕ) (d : CutAt) → i < upto → (get_or trace i d).zone ≢ z)

-- the least of the height and of what the first zones prove, as far as they stand
pub record IsProvedUpto (problem : ProblemModel) (trace : List CutAt) (height upto least : ℕ) : Type 0 where
  pub at_most : least ≤ height
  pub proved : (z : ℕ) → z < upto → Stands trace z → Proves problem (zone_of problem trace z) least
  pub attained : (least ≡ height) ⊎ ((z bound area : ℕ) × Stands trace z × IsBoundOf problem trace z bound
      × IsAreaOf problem trace z area × (least ≡ max bound area))

-- `next` is `least`, or the greater of bound and area bound of this zone, which is then less; the zone proves it
pub record IsLessened (problem : ProblemModel) (trace : List CutAt) (z least next : ℕ) : Type 0 where
  pub at_most : next ≤ least
  pub proved : Proves problem (zone_of problem trace z) next
  pub attained : (next ≡ least) ⊎ ((bound area : ℕ) × IsBoundOf problem trace z bound × IsAreaOf problem trace z area ×
      (next ≡ max bound area))
