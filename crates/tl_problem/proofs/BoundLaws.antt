-- No layout by `low` is lower than the bound of a set of widths that has its own, and no placement is.
use Rattle.std.proofs.Common.{◌≡◌, ℕ, ◌<◌, ◌≤◌, List, length, get_or, arith}
use Rattle.tl_problem.specs.declared.cell.Cell.{Cell}
use Rattle.tl_problem.specs.declared.placed.Placed.{Placed}
use Rattle.tl_problem.specs.Problem.{ProblemModel, total_height, cell_width, cell_height}
use Rattle.tl_problem.specs.Layouts.{GiveHeights, GiveHigh, IsLayoutByLow}
use Rattle.tl_problem.specs.Sound.{IsSound, IsSoundCell}
use Rattle.tl_problem.specs.Bounds.{GiveLow, IsBound}
use Rattle.tl_problem.specs.Placements.{IsPlacement}
use Rattle.tl_problem.proofs.Heights.{IsLowAt-wider}

-- the cell with a number is sound
pub sound-cell : (problem : ProblemModel) → IsSound problem → (k : ℕ) (d : Cell) → k < length problem.cells →
    IsSoundCell problem (get_or problem.cells k d)
sound-cell problem sound k d within = sound.cells k d within

-- a set of widths has no two bounds
pub bound-unique : (problem : ProblemModel) (Among : List ℕ → Type 0) (a b : ℕ) → IsBound problem Among a →
    IsBound problem Among b → a ≡ b
bound-unique problem Among a b first second =
    let one = first.least.attained in
    let other = second.least.attained in
    let below = first.least.never_less other.0 other.1 in
    let above = second.least.never_less one.0 one.1 in
    omega (arith, below, above, one.2, other.2)

module _ (problem : ProblemModel) (sound : IsSound problem) where
  -- heights that are enough at some widths are enough at the greatest room of a set that has them
  pub low-at_greatest : (Among : List ℕ → Type 0) (widths heights : List ℕ) → Among widths →
      GiveHeights problem (λ cell. cell.low) widths heights →
      GiveLow problem Among heights
  low-at_greatest Among widths heights among give = record {
    rows = give.rows;
    cells = λ k d within w greatest.
        let cell = get_or problem.cells k d in
        IsLowAt-wider cell.low (sound.cells k d within).steps.0 (cell_height problem heights cell)
        (cell_width problem widths cell) w
        (greatest.never_more widths among) (give.cells k d within);
  }

  pub bound-below_layout : (Among : List ℕ → Type 0) (bound : ℕ) (widths heights : List ℕ) → IsBound problem Among bound →
      Among widths →
      IsLayoutByLow problem widths heights → bound ≤ total_height problem heights
  bound-below_layout Among bound widths heights is among layout =
      is.least.never_less heights (low-at_greatest Among widths heights among layout.enough)

  -- what is enough by `high` is enough by `low`
  pub low-from_high : (widths heights : List ℕ) → GiveHigh problem widths heights →
      GiveHeights problem (λ cell. cell.low) widths heights
  low-from_high widths heights give = record {
    rows = give.rows;
    cells = λ k d within.
        let cell = get_or problem.cells k d in
        (sound.cells k d within).low_below (cell_height problem heights cell) (cell_width problem widths cell)
        (give.cells k d within);
  }

  pub placement-layout : (placed : Placed) → IsPlacement problem placed → IsLayoutByLow problem placed.widths placed.heights
  placement-layout placed is = record { page = is.page; enough = low-from_high placed.widths placed.heights is.rows.kind }

  pub bound-below_placement : (Among : List ℕ → Type 0) (bound : ℕ) (placed : Placed) → IsBound problem Among bound →
      Among placed.widths →
      IsPlacement problem placed → bound ≤ placed.height
  bound-below_placement Among bound placed is among placement =
      let below = bound-below_layout Among bound placed.widths placed.heights is among (placement-layout placed placement) in
      omega (arith, below, placement.height)
