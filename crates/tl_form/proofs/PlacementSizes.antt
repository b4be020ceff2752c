-- The height of a placement beside what its table holds.
use Rattle.std.proofs.Common.{◌≡◌, ℕ, zero, suc, ◌+◌, ◌*◌, ◌<◌, ◌≤◌, List, [], ◌∷◌, length, get_or, sum_by, refl, sym, ap, subst}
use Rattle.std.proofs.Common.{◌∙◌, arith}
use Rattle.std.specs.List.{All, AllZip, AllByRecursion, Any, range_with_len}
use Rattle.std.proofs.lemmas.List.Elements.{recursion_from_All, All-from_recursion}
use Rattle.std.proofs.lemmas.List.FromFn.{get_or-range_with_len, length-range_with_len}
use Rattle.std.proofs.lemmas.List.Sums.{sum_by-cons}
use Rattle.tl_base.specs.declared.style.Style.{Style}
use Rattle.tl_base.specs.Steps.{AreSteps, first_height, first_width}
use Rattle.tl_base.proofs.Zips.{AllZip-length}
use Rattle.tl_grid.specs.declared.shape.Place.{Place}
use Rattle.tl_grid.specs.Dropping.{IsPlaced}
use Rattle.tl_problem.specs.declared.cell.Cell.{Cell}
use Rattle.tl_problem.specs.declared.placed.Placed.{Placed}
use Rattle.tl_problem.specs.Problem.{ProblemModel, cell_height, cell_width, total_height}
use Rattle.tl_problem.specs.Layouts.{GiveHigh}
use Rattle.tl_problem.specs.Placements.{IsPlacement}
use Rattle.tl_problem.proofs.Heights.{IsLowAt-from, IsLowAt-higher, height-from_low}
use Rattle.tl_base.proofs.SizeLaws.{total-le}
use Rattle.tl_table.specs.declared.cell.Content.{out-Content}
use Rattle.tl_table.specs.declared.cell.Table.{Table, out-Table}
use Rattle.tl_table.specs.declared.cell.TableCell.{TableCell, out-TableCell}
use Rattle.tl_form.specs.declared.heights.InnerSteps.{InnerSteps}
use Rattle.tl_form.specs.Problems.{InnerNeeds, IsCellBy, IsProblemOf, inside_of}
use Rattle.tl_table.specs.Sound.{IsSoundBy, IsSoundWithin, IsSpeltBlock, place_of, table_size}
use Rattle.tl_form.specs.SoundProblems.{AreSoundPremises}
use Rattle.tl_form.proofs.LowPlacements.{IsLight, style-light, length-rows, row_heights, row_weight, rows-enough, rows-total, weight-le}
use Rattle.tl_form.proofs.NeedSteps.{first-least, height-falls, height-first}
use Rattle.tl_form.proofs.SafeProblems.{any-made, cells-small, have, placed-cells, places-same}
use Rattle.tl_table.proofs.SizesOpen.{table_size-out}

-- a cell of the problem has steps, and rows in the grid
abbrev IsInRows : ℕ → Cell → Type 0
IsInRows n one = AreSteps one.high × (one.top < one.bottom) × (one.bottom ≤ n)

in-rows : (lows highs : Table → ℕ → ℕ → Type 0) (page cols n : ℕ) (lines : TableCell → ℕ) (cells : List TableCell)
    (made : List Cell) → AllZip (λ cell one. IsCellBy lows highs page (lines cell) (out-TableCell cell) one) cells made →
    AllByRecursion (λ cell. IsPlaced cols n (place_of cell)) cells → AllByRecursion (IsInRows n) made
in-rows lows highs page cols n lines [] [] of placed = tt
in-rows lows highs page cols n lines [] (one ∷ made) of placed = absurd of
in-rows lows highs page cols n lines (cell ∷ cells) [] of placed = absurd of
in-rows lows highs page cols n lines (cell ∷ cells) (one ∷ made) of placed = (
  (of.0.high.decreasing, omega (arith, of.0.top, of.0.bottom, placed.0.2), omega (arith, of.0.bottom, placed.0.3)),
  in-rows lows highs page cols n lines cells made of.1 placed.1,
)

sum-heights : (made : List Cell) → sum_by (λ one. first_height one.high + 1) made ≡ sum_by (λ one. first_height one.high)
    made + length made
sum-heights [] = refl
sum-heights (one ∷ made) =
    omega (
      arith,
      sum_by-cons (λ (any : Cell). first_height any.high + 1) one made,
      sum_by-cons (λ (any : Cell). first_height any.high) one made,
      sum-heights made,
    )

-- where there is no cell, no row has one
no-weight : (row : ℕ) → row_weight [] row ≡ 0
no-weight row = refl

module _ (problem : ProblemModel) (placed : Placed) (placement : IsPlacement problem placed)
    (inside : All (IsInRows problem.rows) problem.cells) where
  -- rows so high are enough
  give : GiveHigh problem placed.widths (row_heights problem.cells problem.rows)
  give = record {
    rows = length-rows problem.cells problem.rows;
    cells = λ k d within.
        let one = get_or problem.cells k d in
        let at = inside k d within in
        let w = cell_width problem placed.widths one in
        let low = height-from_low one.high (cell_height problem placed.heights one) w (placement.rows.kind.cells k d within) in
        let least = first-least one.high at.0 w low.0 low.1 in
        let fall = height-falls one.high at.0 (first_width one.high) w (first_height one.high) low.0 least
        (height-first one.high at.0) low.1 in
        let enough = rows-enough problem.spacing.row_gap problem.cells problem.rows k d within at.1 at.2 in
        IsLowAt-higher one.high low.0 (cell_height problem (row_heights problem.cells problem.rows) one) w
        (omega (arith, fall, enough))
        (IsLowAt-from one.high low.0 w low.1);
  }

  total-low : total_height problem placed.heights ≤ total_height problem (row_heights problem.cells problem.rows)
  total-low =
      let long : length placed.heights ≡ problem.rows = placement.rows.kind.rows in
      total-le problem.spacing.row_gap problem.spacing.lines placed.heights (row_heights problem.cells problem.rows)
      (long ∙ sym (length-rows problem.cells problem.rows))
      (placement.rows.earliest (row_heights problem.cells problem.rows) give (length placed.heights) (omega arith))

  pub height-low : IsLight problem.spacing problem.rows → AllByRecursion (λ row. 1 ≤ row_weight problem.cells row) (range_with_len 0 problem.rows) →
      (some : ℕ) → sum_by (λ one. first_height one.high) problem.cells + 2 * length problem.cells ≤ some → placed.height ≤ some
  height-low light rows some small =
      by-rows problem.rows refl problem.cells refl
    where
      whole : placed.height ≤ total_height problem (row_heights problem.cells problem.rows)
      whole = omega (arith, total-low, placement.height)

      by-rows : (n : ℕ) → problem.rows ≡ n → (made : List Cell) → problem.cells ≡ made → placed.height ≤ some
      by-rows zero none made is =
          let empty : total_height problem (row_heights problem.cells problem.rows) ≡ 0 =
          ap (λ n. total_height problem (row_heights problem.cells n)) none in
          omega (arith, whole, empty)
      by-rows (suc n) more [] none =
          let first : AllByRecursion (λ row. 1 ≤ row_weight [] row) (range_with_len 0 (suc n)) =
          subst (λ cells. AllByRecursion (λ row. 1 ≤ row_weight cells row) (range_with_len 0 (suc n))) none
          (subst (λ k. AllByRecursion (λ row. 1 ≤ row_weight problem.cells row) (range_with_len 0 k)) more rows) in
          absurd (omega (arith, first.0, no-weight 0))
      by-rows (suc n) more (one ∷ made) is =
          let count = ap length is in
          omega (arith, whole, rows-total problem.spacing problem.cells problem.rows light rows, sum-heights problem.cells, small, count)

module _ (table : Table) (style : Style) (page : ℕ) (inner : List InnerSteps) (problem : ProblemModel) (placed : Placed)
    (given : AreSoundPremises table style page inner) (of : IsProblemOf table style page inner problem)
    (placement : IsPlacement problem placed) where
  by-sound : {sound : Table → Type 0} → IsSoundBy sound (out-Table table) → placed.height ≤ 2 * table_size table
  by-sound by =
      height-low problem placed placement
      (All-from_recursion (IsInRows problem.rows) problem.cells
      (subst (λ n. AllByRecursion (IsInRows n) problem.cells) (sym of.lines)
      (in-rows (InnerNeeds (λ one. one.low) inner) (InnerNeeds (λ one. one.high) inner) page (out-Table table).cols
      (out-Table table).rows (inside_of style (out-Table table)) (out-Table table).cells problem.cells of.made (placed-cells table style page inner given by))))
      (subst (λ n. IsLight problem.spacing n) (sym of.lines)
      (subst (λ s. IsLight s (out-Table table).rows) (sym of.spaced) (style-light style (out-Table table))))
      (recursion_from_All (λ row. 1 ≤ row_weight problem.cells row) (range_with_len 0 problem.rows) (λ k d within.
      let long : k < problem.rows = omega (arith, within, length-range_with_len 0 problem.rows) in
      let at : get_or (range_with_len 0 problem.rows) k d ≡ k = omega (arith, get_or-range_with_len 0 problem.rows k d long) in
      subst (λ row. 1 ≤ row_weight problem.cells row) (sym at) (has-weight k long)))
      (2 * table_size table)
      (omega (
        arith,
        cells-small inner style page (inside_of style (out-Table table)) (out-Table table).cells problem.cells of.made (have table style page inner given)
            (recursion_from_All (λ cell. AllByRecursion (λ block. IsSpeltBlock (out-Content block)) (out-TableCell cell).blocks)
            (out-Table table).cells by.spelt),
        table_size-out table,
        AllZip-length (λ cell one. IsCellBy (InnerNeeds (λ any. any.low) inner) (InnerNeeds (λ any. any.high) inner) page
            (inside_of style (out-Table table) cell) (out-TableCell cell) one) (out-Table table).cells problem.cells of.made,
      ))
    where
      has-weight : (row : ℕ) → row < problem.rows → 1 ≤ row_weight problem.cells row
      has-weight row within =
          let found = any-made inner style page (inside_of style (out-Table table)) (λ (place : Place). place.top ≡ row) problem.cells
          (subst (Any (λ (place : Place). place.top ≡ row))
          (sym (places-same inner style page (inside_of style (out-Table table)) (out-Table table).cells problem.cells of.made))
          (by.rows row (omega (arith, within, of.lines)))) in
          let weight = weight-le problem.cells found.0 found.1 found.2 in
          let top : (get_or problem.cells found.0 found.1).top ≡ row = ap (λ (one : Cell). one.top) found.3 ∙ found.4 in
          omega (arith, weight, ap (row_weight problem.cells) top)

  pub placement-low : placed.height ≤ 2 * table_size table
  placement-low = by-depth given.sound.depth given.sound.sound
    where
      by-depth : (depth : ℕ) → IsSoundWithin depth table → placed.height ≤ 2 * table_size table
      by-depth zero sound = absurd sound
      by-depth (suc depth) sound = by-sound sound
