-- When a line of a log is good: its nogood is shown to be true by nogoods of earlier lines and by what is left at its end.
use Rattle.std.specs.Prelude.{◌≡◌, ℕ, ◌-◌, ◌<◌, ◌≤◌, ◌⊎◌, List, [], ◌∷◌, ◌++◌, length, get_or, map, None, IsSomeAnd}
use Rattle.std.specs.List.{All, last_or}
use Rattle.tl_problem.specs.Problem.{ProblemModel}
use Rattle.tl_problem.specs.Bounds.{HasNoWidths, IsBound}
use Rattle.tl_problem.specs.Areas.{IsAreaBound}
use Rattle.tl_cert.specs.declared.log.Bound.{Bound}
use Rattle.tl_cert.specs.declared.log.End.{End}
use Rattle.tl_cert.specs.declared.log.End.TheVariants.{Fired, Cycle, Chain, Area}
use Rattle.tl_cert.specs.declared.log.LogLine.{LogLine}
use Rattle.tl_cert.specs.declared.log.Nogood.{Nogood}
use Rattle.tl_cert.specs.declared.log.Nogood.TheVariants.{Zone}
use Rattle.tl_cert.specs.declared.trace.CutAt.{CutAt}
use Rattle.tl_cert.specs.Nogoods.{nogood_bounds, NamesAreThere}
use Rattle.tl_cert.specs.Implied.{IsLeft, Implied, OneLeft}

-- the nogood of the line with a number
abbrev pub nogood_at : List LogLine → ℕ → Nogood
nogood_at log k = (get_or log k (record { nogood = Zone 0; fires = []; end = Cycle })).nogood

-- firing nogoods one after the other joins the negations of bounds to those that joined before: of each nogood all bounds
-- are implied by then, or all but one, whose negation joins
abbrev pub Fires : ProblemModel → List Bound → List Bound → List (List Bound) → List Bound → Type 0
Fires problem given joined [] last = last ≡ joined
Fires problem given joined (nogood ∷ nogoods) last =
    (All (Implied problem (IsLeft problem given joined)) nogood × Fires problem given joined nogoods last)
    ⊎ ((bound : Bound) × OneLeft problem (IsLeft problem given joined) nogood bound
    × Fires problem given (joined ++ bound ∷ []) nogoods last)

-- the end of a line: no widths are left; their bound, or their area bound, is at least `lower`; or all bounds of the
-- nogood that was fired last are implied
abbrev pub LineEndsBy : ProblemModel → (List ℕ → Type 0) → List (List Bound) → ℕ → End → Type 0
LineEndsBy problem Among nogoods lower Cycle = HasNoWidths Among
LineEndsBy problem Among nogoods lower Chain = (bound : ℕ) × IsBound problem Among bound × (lower ≤ bound)
LineEndsBy problem Among nogoods lower Area = (bound : ℕ) × IsAreaBound problem Among bound × (lower ≤ bound)
LineEndsBy problem Among nogoods lower Fired = IsSomeAnd (last_or None nogoods) (All (Implied problem Among))

-- the bounds of the nogoods that a line fires
abbrev pub fired : ProblemModel → List CutAt → List LogLine → LogLine → List (List Bound)
fired problem trace log line = map (λ f. nogood_bounds problem trace (nogood_at log f)) line.fires

-- line `k`, which is `line`, is good for `lower`
pub record IsGoodLine (problem : ProblemModel) (trace : List CutAt) (log : List LogLine) (lower k : ℕ)
    (line : LogLine) : Type 0 where
  pub names : NamesAreThere problem trace line.nogood
  pub earlier : All (λ f. (f < k) × NamesAreThere problem trace (nogood_at log f)) line.fires
  pub joined : List Bound
  pub fires : Fires problem (nogood_bounds problem trace line.nogood) [] (fired problem trace log line) joined
  pub ends : LineEndsBy problem (IsLeft problem (nogood_bounds problem trace line.nogood) joined) (fired problem trace log line)
      lower line.end

-- a good log: it has a line, each line is good, and the nogood of the last has no bounds
pub record IsGoodLog (problem : ProblemModel) (trace : List CutAt) (log : List LogLine) (lower : ℕ) : Type 0 where
  pub some : 0 < length log
  pub lines : (k : ℕ) (d : LogLine) → k < length log → IsGoodLine problem trace log lower k (get_or log k d)
  pub last : nogood_bounds problem trace (nogood_at log (length log - 1)) ≡ []
