-- How a search ends: the least of the bounds that stand, and when a search may end.
use Rattle.std.specs.Prelude.{◌≡◌, ℕ, ◌<◌, ◌≤◌, ◌⊎◌, List, length, get_or, Option, Some, None}
use Rattle.tl_problem.specs.Problem.{ProblemModel}
use Rattle.tl_cert.specs.declared.trace.CutAt.{CutAt}
use Rattle.tl_cert.specs.Traces.{Stands, zone_of}
use Rattle.tl_cert.specs.Worked.{IsClosedZone, IsBoundOf}

-- some zone that stands has a bound of at most `lower`
abbrev pub HasBoundUpTo : ProblemModel → List CutAt → ℕ → Type 0
HasBoundUpTo problem trace lower = (z bound : ℕ) × Stands trace z × IsBoundOf problem trace z bound × (bound ≤ lower)

-- `lower` is the least of the height and of the bounds of the zones that stand and have widths
pub record IsLeastStanding (problem : ProblemModel) (trace : List CutAt) (height lower : ℕ) : Type 0 where
  pub at_most : lower ≤ height
  pub never_more : (z bound : ℕ) → Stands trace z → IsBoundOf problem trace z bound → lower ≤ bound
  pub attained : (lower ≡ height) ⊎ HasBoundUpTo problem trace lower

-- the least of the height and of the bounds, among the first ones, of zones that nothing closes; the closer of each zone stands in
-- a list, as its cut does
pub record IsLeastUpto (closers bounds : List (Option ℕ)) (height upto least : ℕ) : Type 0 where
  pub at_most : least ≤ height
  pub never_more : (z bound : ℕ) → z < upto → get_or closers z None ≡ None → get_or bounds z None ≡ Some bound → least ≤ bound
  pub attained : (least ≡ height)
      ⊎ ((z bound : ℕ) × (z < upto) × (get_or closers z None ≡ None) × (get_or bounds z None ≡ Some bound) × (bound ≡ least))

-- a search may end: it made all cuts of its budget, or each zone that stands is closed for its height
abbrev pub MayEnd : ProblemModel → List CutAt → ℕ → ℕ → Type 0
MayEnd problem trace height budget =
    (length trace ≡ budget) ⊎ ((z : ℕ) → Stands trace z → IsClosedZone problem (zone_of problem trace z) height)
