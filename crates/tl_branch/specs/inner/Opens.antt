-- No public clause cites this file. What the zones prove that a search leaves without a line.
use Rattle.std.specs.Prelude.{◌≡◌, ◌⊎◌, ℕ, ◌+◌, ◌*◌, ◌<◌, ◌≤◌, false, IsTrue, List, get_or, length, Option, None}
use Rattle.std.specs.Option.{option_or}
use Rattle.tl_problem.specs.Problem.{ProblemModel}
use Rattle.tl_cert.specs.declared.trace.CutAt.{CutAt}
use Rattle.tl_cert.specs.Traces.{Stands, zone_of}
use Rattle.tl_cert.specs.Worked.{IsBoundOf}
use Rattle.tl_branch.specs.declared.learning.Learning.{Learning}
use Rattle.tl_branch.specs.Learn.{IsAhead, IsNextCut}
use Rattle.tl_branch.specs.inner.Learnings.{HasLine, IsClosedByBound, IsHandled, log_nogoods}

-- each zone that stands without a line has no widths, or a bound of at least the height
abbrev pub OpenProve : ProblemModel → List CutAt → List (Option ℕ) → ℕ → Type 0
OpenProve problem trace lines height = (z bound : ℕ) → Stands trace z → get_or lines z None ≡ None → IsBoundOf problem trace z bound →
    height ≤ bound

-- `lower` is the least of the height and of the bounds of the zones that stand without a line
pub record IsLeastOpen (problem : ProblemModel) (trace : List CutAt) (lines : List (Option ℕ)) (height lower : ℕ) : Type 0 where
  pub at_most : lower ≤ height
  pub never_more : OpenProve problem trace lines lower
  pub attained : (lower ≡ height) ⊎ ((z bound : ℕ) × Stands trace z × (get_or lines z None ≡ None) ×
      IsBoundOf problem trace z bound × (bound ≤ lower))

-- what closes each of the first zones: its cut, or where it has none its line
pub record AreClosers (cuts lines : List (Option ℕ)) (upto : ℕ) (closers : List (Option ℕ)) : Type 0 where
  pub count : length closers ≡ upto
  pub each : (z : ℕ) → z < upto → get_or closers z None ≡ option_or (get_or cuts z None) (get_or lines z None)

-- each zone from this one on has a line
abbrev pub HaveLinesFrom : List CutAt → List (Option ℕ) → ℕ → Type 0
HaveLinesFrom trace lines above = (z : ℕ) → above ≤ z → z < 2 * length trace + 1 → HasLine lines z

-- All cuts of the budget are made, and the search stopped at a zone that it would cut next. The zones that are ahead of it have no
-- lines; where `low` is `high`, each other zone that stands has one, and elsewhere only if its bound closes it.
pub record IsStopped (problem : ProblemModel) (l : Learning) : Type 0 where
  pub spent : length l.arena.trace ≡ l.budget
  pub cut : CutAt
  pub next : IsTrue l.low_is_high → IsNextCut problem l.arena.trace (log_nogoods problem l) l.arena.best.height cut
  pub unlined : (z : ℕ) → IsAhead l.arena.trace cut z → HasLine l.lines.items z → ⊥
  pub ahead : IsTrue l.low_is_high → (z : ℕ) → Stands l.arena.trace z → (HasLine l.lines.items z → ⊥) → IsAhead l.arena.trace cut z
  pub founded : l.low_is_high ≡ false → (z : ℕ) → Stands l.arena.trace z → HasLine l.lines.items z →
      IsClosedByBound problem (zone_of problem l.arena.trace z) l.arena.best.height

-- the search may end: it stopped at the end of its budget, or each zone that stands was handled
abbrev pub MayFinish : ProblemModel → Learning → Type 0
MayFinish problem l = IsStopped problem l ⊎ ((z : ℕ) → Stands l.arena.trace z → IsHandled problem l z)
