-- No public clause cites this file. What a piece keeps on its way.
use Rattle.std.specs.Prelude.{◌≡◌, ◌≢◌, ◌⊎◌, ℕ, ◌+◌, ◌*◌, ◌<◌, ◌≤◌, List, [], ◌∷◌, ◌++◌, length, map, Option, Some, None, IfSome}
use Rattle.std.specs.List.{All, AllPairs, Contains}
use Rattle.tl_problem.specs.declared.placed.Placed.{Placed}
use Rattle.tl_problem.specs.declared.zone.Range.{Range}
use Rattle.tl_problem.specs.Problem.{ProblemModel}
use Rattle.tl_problem.specs.Zones.{IsZone, InZone, lower_part, upper_part}
use Rattle.tl_problem.specs.Bounds.{IsBound}
use Rattle.tl_problem.specs.Tight.{IsTight}
use Rattle.tl_cert.specs.declared.trace.CutAt.{CutAt}
use Rattle.tl_cert.specs.Traces.{zone_at, IsZoneOf, Stands, IsTrace}
use Rattle.tl_cert.specs.Worked.{IsClosedZone}
use Rattle.tl_solve.specs.Arenas.{IsBoundFound, IsLookedAt}
use Rattle.tl_solve.specs.Piece.{final_height, HasBoundIn, AreLeft}
use Rattle.tl_branch.specs.declared.lowest.Lowest.{Lowest}
use Rattle.tl_branch.specs.declared.under_way.Waiting.{Waiting}
use Rattle.tl_branch.specs.declared.under_way.UnderWay.{UnderWay}

-- ---- the lowest placement

-- a placement took the place of the old one: it is tight and lower than the old height, and its height is the new one
pub record IsReplaced (problem : ProblemModel) (old new : Lowest) : Type 0 where
  pub placed : Placed
  pub is : new.placed ≡ Some placed
  pub tight : IsTight problem placed
  pub height : new.height ≡ placed.height
  pub lower : placed.height < old.height

-- what was found stays, or is replaced by a lower placement
abbrev pub IsFoundLower : ProblemModel → Lowest → Lowest → Type 0
IsFoundLower problem old new = (new ≡ old) ⊎ IsReplaced problem old new

-- ---- the stack

-- the stack with the zone on it, where it has widths
abbrev pub with_waiting : List Waiting → ℕ → List Range → Option ℕ → List Waiting
with_waiting stack number zone None = stack
with_waiting stack number zone (Some bound) = stack ++ record { number = number; zone = zone; bound = bound } ∷ []

-- the numbers of the zones on the stack
abbrev pub numbers : List Waiting → List ℕ
numbers stack = map (λ (item : Waiting). item.number) stack

-- a zone on the stack stands, is the one of its number, and has its bound
pub record IsWaitingIn (problem : ProblemModel) (zone : List Range) (trace : List CutAt) (stack : Waiting) : Type 0 where
  pub stands : Stands trace stack.number
  pub same : stack.zone ≡ zone_at zone trace stack.number
  pub is : IsZone problem stack.zone
  pub bound : IsBound problem (InZone problem stack.zone) stack.bound

-- ---- steps

-- the piece before any cut: its one zone was looked at
pub record IsBegun (problem : ProblemModel) (zone : List Range) (given : ℕ) (way : UnderWay) : Type 0 where
  pub no_cut : way.trace ≡ []
  pub none_left : way.lefts ≡ []
  pub found : Option ℕ
  pub bound : IsBoundFound problem zone found
  pub stack : way.stack.items ≡ with_waiting [] 0 zone found
  pub lowered : IsFoundLower problem (record { height = given; placed = None }) way.lowest
  pub looked : IsLookedAt problem zone way.lowest.height

-- the zone was cut: both parts were looked at and those with widths are on the stack, the lower one last
pub record IsCutApart (problem : ProblemModel) (zone : List Range) (cut : CutAt) (old new : UnderWay) : Type 0 where
  pub trace : new.trace ≡ old.trace ++ cut ∷ []
  pub lefts : new.lefts ≡ old.lefts
  pub low_found : Option ℕ
  pub high_found : Option ℕ
  pub low_bound : IsBoundFound problem (lower_part zone cut.span cut.class) low_found
  pub high_bound : IsBoundFound problem (upper_part zone cut.span cut.class) high_found
  pub stack : new.stack.items ≡ with_waiting (with_waiting old.stack.items (2 * length old.trace + 2)
      (upper_part zone cut.span cut.class) high_found) (2 * length old.trace + 1) (lower_part zone cut.span cut.class) low_found
  pub middle : Lowest
  pub lowered : IsFoundLower problem old.lowest middle
  pub lowered_again : IsFoundLower problem middle new.lowest
  pub low_looked : IsLookedAt problem (lower_part zone cut.span cut.class) middle.height
  pub high_looked : IsLookedAt problem (upper_part zone cut.span cut.class) new.lowest.height

-- ---- what is kept

-- A piece on its way: what it promises at its end, but that a zone that stands may also be on the stack.
pub record IsUnderWay (problem : ProblemModel) (zone : List Range) (given quota : ℕ) (trace : List CutAt) (lowest : Lowest)
    (stack : List Waiting) (lefts : List ℕ) : Type 0 where
  pub trace_of : IsTrace zone trace
  pub few : length trace ≤ quota
  pub cut_zones : All (λ cut. HasBoundIn problem zone trace cut.zone given) trace
  pub found : IfSome lowest.placed (λ placed. IsTight problem placed × (placed.height < given))
  pub height : lowest.height ≡ final_height given lowest.placed
  pub looked : (z : ℕ) → IsZoneOf trace z → IsLookedAt problem (zone_at zone trace z) lowest.height
  pub on_stack : All (IsWaitingIn problem zone trace) stack
  pub different : AllPairs (λ one other. one ≢ other) (numbers stack)
  pub left : AreLeft trace lefts
  pub apart : All (λ z. All (λ other. other ≢ z) (numbers stack)) lefts
  pub closed : (z : ℕ) → Stands trace z →
      Contains lefts z ⊎ (Contains (numbers stack) z ⊎ IsClosedZone problem (zone_at zone trace z) lowest.height)
  pub spent : lefts ≢ [] → length trace ≡ quota
