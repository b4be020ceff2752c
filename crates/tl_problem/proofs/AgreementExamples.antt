-- The definitions of agreement, run on a cell in a frame, whose steps differ where the frame is alone.
use Rattle.std.proofs.Common.{◌≡◌, ℕ, ◌≤◌, zero, suc, List, [], ◌∷◌, refl, subst, arith}
use Rattle.tl_base.specs.declared.steps.Config.{Config}
use Rattle.tl_base.specs.declared.style.Style.TheVariants.{Frame}
use Rattle.tl_base.specs.Steps.{height_at}
use Rattle.tl_base.specs.Style.{spacing_of}
use Rattle.tl_base.proofs.Members.{Contains-first, Contains-one}
use Rattle.tl_problem.specs.declared.cell.Cell.{Cell}
use Rattle.tl_problem.specs.Agreement.{AgreesOnPage, LowIsHigh}
use Rattle.tl_problem.specs.Problem.{ProblemModel}

abbrev step : ℕ → ℕ → Config
step width height = record { width = width; height = height }

-- on a framed page of six columns the cell's room has at most four. By `low` the cell has one line from five columns on, by `high`
-- from six
abbrev framed_cell : Cell
framed_cell = record {
  left = 0;
  right = 1;
  top = 0;
  bottom = 1;
  low = step 1 2 ∷ step 5 1 ∷ [];
  high = step 1 2 ∷ step 6 1 ∷ [];
}

abbrev framed : ProblemModel
framed = record { cols = 1; rows = 1; spacing = spacing_of Frame 2; width = 6; cells = framed_cell ∷ [] }

-- so it needs the same by both in any room
same_in_rooms : LowIsHigh framed
same_in_rooms cell has w within =
    subst (λ (one : Cell). height_at one.low w ≡ height_at one.high w) (Contains-one framed_cell cell has) (by_width w within) where
      by_width : (v : ℕ) → v ≤ 4 → height_at framed_cell.low v ≡ height_at framed_cell.high v
      by_width zero in_room = refl
      by_width (suc zero) in_room = refl
      by_width (suc (suc zero)) in_room = refl
      by_width (suc (suc (suc zero))) in_room = refl
      by_width (suc (suc (suc (suc zero)))) in_room = refl
      by_width (suc (suc (suc (suc (suc v))))) in_room = absurd (omega (arith, in_room))

-- but not at five columns, which its frame takes from it
unlike_on_page : AgreesOnPage framed → ⊥
unlike_on_page same = let at_five = same framed_cell (Contains-first framed_cell []) 5 (omega arith) in absurd cc
