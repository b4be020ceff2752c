-- A function that searches several zones of one problem, each as a piece of its own: what it may be called with, and what it
-- gives.
use Rattle.std.specs.Prelude.{ℕ, ◌^◌, ◌<◌, ◌≤◌, List, length, Result, Ok, Vec}
use Rattle.std.specs.Global.{Global}
use Rattle.std.specs.List.{All, AllZip}
use Rattle.std.specs.declared.alloc.AllocError.{AllocError}
use denote.Param.Members.{Shared}
use denote.Ref.{Bor}
use Rattle.tl_base.specs.declared.limits.TheConstants.{MAX_BUDGET}
use Rattle.tl_problem.specs.declared.zone.Range.{Range}
use Rattle.tl_problem.specs.Problem.{ProblemModel}
use Rattle.tl_problem.specs.Sound.{IsSound}
use Rattle.tl_problem.specs.Zones.{IsZone}
use Rattle.tl_solve.specs.declared.piece.Piece.{Piece}
use Rattle.tl_solve.specs.Piece.{IsPieceOf}

-- the pieces are of these zones, one of each, in their order, all for the given height and with this quota
abbrev pub ArePiecesOf : ProblemModel → List (List Range) → ℕ → ℕ → List Piece → Type 0
ArePiecesOf problem zones best quota pieces =
    AllZip (λ zone piece. IsPieceOf problem zone best quota piece.best piece.trace piece.lefts) zones pieces

-- `f` may be called with each sound problem, zones of it, each height and each quota, and gives pieces of these zones
module _ {F : Type 0}
    (g : Shared F (Bor ProblemModel × (Bor (List (List Range)) × (ℕ × (ℕ × Unit {0})))) (Result (Vec Piece Global) AllocError)) (f : F) where
  pub record IsFan : Type 0 where
    pub callable : (problem : Bor ProblemModel) (zones : Bor (List (List Range))) (best quota : ℕ) → IsSound problem.now →
        length zones.now < 2 ^ 32 →
        All (IsZone problem.now) zones.now → 1 ≤ quota → quota ≤ MAX_BUDGET → g.pre f (problem, (zones, (best, (quota, tt))))
    pub gives : (problem : Bor ProblemModel) (zones : Bor (List (List Range))) (best quota : ℕ) (pieces : Vec Piece Global) →
        g.post f (problem, (zones, (best, (quota, tt)))) (Ok pieces) →
        ArePiecesOf problem.now zones.now best quota pieces.items
