-- No public clause cites this file. What is left of a line's bounds as they are tried one after the other.
use Rattle.std.specs.Prelude.{◌≡◌, ℕ, ◌<◌, ◌≤◌, nat_lt, Bool, true, false, if◌then◌else◌, List, [], ◌∷◌, length}
use Rattle.std.specs.List.{AllPairs, Contains, remove}
use Rattle.tl_problem.specs.Problem.{ProblemModel}
use Rattle.tl_cert.specs.declared.limits.TheConstants.{MAX_BOUNDS}
use Rattle.tl_cert.specs.declared.log.Bound.{Bound}
use Rattle.tl_cert.specs.declared.log.LogLine.{LogLine}
use Rattle.tl_cert.specs.declared.log.Nogood.{Nogood}
use Rattle.tl_cert.specs.declared.log.Nogood.TheVariants.{Zone, Bounds}
use Rattle.tl_cert.specs.declared.trace.CutAt.{CutAt}
use Rattle.tl_cert.specs.Nogoods.{nogood_bounds}
use Rattle.tl_cert.specs.Lines.{IsGoodLine}
use Rattle.tl_cert.specs.Learnt.{with_bounds}
use Rattle.tl_store.specs.Stores.{BoundComesFirst}

-- the bounds are some of the line's, in order, and the line is good with them
pub record AreLessened (problem : ProblemModel) (trace : List CutAt) (log : List LogLine) (lower : ℕ) (line : LogLine)
    (bounds : List Bound) : Type 0 where
  pub sorted : AllPairs BoundComesFirst bounds
  pub among : (bound : Bound) → Contains bounds bound → Contains (nogood_bounds problem trace line.nogood) bound
  pub no_more : length bounds ≤ length (nogood_bounds problem trace line.nogood)
  pub good : IsGoodLine problem trace log lower (length log) (with_bounds line bounds)

-- without any one of the first bounds the line is not good
abbrev pub NoneIsTaken : ProblemModel → List CutAt → List LogLine → ℕ → LogLine → List Bound → ℕ → Type 0
NoneIsTaken problem trace log lower line bounds upto = (i : ℕ) → i < upto →
    IsGoodLine problem trace log lower (length log) (with_bounds line (remove bounds i)) → ⊥

-- what one pass over the bounds leaves: fewer, or the same where none can be taken
pub record IsPass (problem : ProblemModel) (trace : List CutAt) (log : List LogLine) (lower : ℕ) (line : LogLine)
    (bounds left : List Bound) (taken : Bool) : Type 0 where
  pub lessened : AreLessened problem trace log lower line left
  pub no_more : length left ≤ length bounds
  pub fewer : taken ≡ true → length left < length bounds
  pub none : taken ≡ false → NoneIsTaken problem trace log lower line left (length left)

-- a nogood of bounds: zone 0 where there are none
abbrev pub nogood_with : List Bound → Nogood
nogood_with [] = Zone 0
nogood_with (bound ∷ bounds) = Bounds (bound ∷ bounds)

-- the line with these bounds, or as it was where they are too many
abbrev pub line_with : LogLine → List Bound → LogLine
line_with line bounds = if nat_lt MAX_BOUNDS (length bounds) then line else
    record { nogood = nogood_with bounds; fires = line.fires; end = line.end }
