-- What a sound problem of a table tells of its cells, and what its cells tell of it.
use Rattle.std.proofs.Common.{◌≡◌, ℕ, zero, suc, ◌+◌, ◌<◌, ◌≤◌, List, [], ◌∷◌, ◌++◌, length, take, get_or, Option, Some, None, sum_by, refl}
use Rattle.std.proofs.Common.{sym, ap, subst, ◌∙◌, arith}
use Rattle.std.specs.List.{AllZip, AllByRecursion}
use Rattle.std.specs.Option.{IsSome, IsSomeAnd}
use Rattle.std.proofs.lemmas.List.{get_or-map, length-map}
use Rattle.std.proofs.lemmas.List.Elements.{recursion_from_All}
use Rattle.std.proofs.lemmas.List.Sums.{sum_by-cons}
use Rattle.tl_base.specs.declared.limits.TheConstants.{MAX_HEIGHT}
use Rattle.tl_base.specs.declared.steps.Config.{Config}
use Rattle.tl_base.specs.declared.style.Style.{Style}
use Rattle.tl_base.specs.Steps.{first_height, first_width, height_at}
use Rattle.tl_base.proofs.Stacking.{first_width-within}
use Rattle.tl_base.proofs.Taken.{AllZip-taken}
use Rattle.tl_grid.specs.Dropping.{IsPlaced}
use Rattle.tl_problem.specs.declared.cell.Cell.{Cell}
use Rattle.tl_problem.specs.Problem.{ProblemModel}
use Rattle.tl_problem.specs.Sound.{IsSound, IsSoundCell}
use Rattle.tl_problem.proofs.Heights.{IsLowAt-from, height-from_first, height-from_low}
use Rattle.tl_table.specs.declared.cell.Content.{out-Content}
use Rattle.tl_table.specs.declared.cell.Table.{Table, out-Table}
use Rattle.tl_table.specs.declared.cell.TableCell.{TableCell, out-TableCell}
use Rattle.tl_form.specs.declared.heights.HeightBound.TheVariants.{Low, High}
use Rattle.tl_form.specs.declared.heights.InnerSteps.{InnerSteps}
use Rattle.tl_table.specs.Layouts.{spacing_in}
use Rattle.tl_table.specs.Sound.{IsSound as IsSoundTable, IsSoundWithin}
use Rattle.tl_table.specs.Tables.{OpenCell, inner_tables, place_of, tables_in, tables_of}
use Rattle.tl_form.specs.Problems.{AreStepsOf, CellNeeds, InnerNeeds, IsCellBy, IsProblemOf, HasSoundProblem, inside_of, steps_for}
use Rattle.tl_form.specs.inner.CellSteps.{AreLowCells, HaveSteps, IsLowCell, NeedsBy}
use Rattle.tl_form.proofs.CellNeedLemmas.{IsFunctional, cell-functional, inner-functional}
use Rattle.tl_form.proofs.LowPlacements.{inside-few}
use Rattle.tl_form.proofs.NeedSteps.{first-least, height-first}
use Rattle.tl_form.proofs.ProblemTruth.{cell-inside, same-problem}
use Rattle.tl_table.proofs.SoundParts.{each_joined, joined-each}

-- ---- the steps of a cell

module _ (needs : Table → ℕ → ℕ → Type 0) (functional : IsFunctional needs) (page lines : ℕ) (cell : OpenCell)
    (steps : List Config) (of : AreStepsOf (CellNeeds needs lines cell) page steps) where
  -- the cell has a height where they begin
  pub first-need : CellNeeds needs lines cell (first_width steps) (first_height steps)
  first-need = (of.each (first_width steps) (first_height steps) (first_width-within page steps of.decreasing of.within)).0
      (height-first steps of.decreasing)

  pub low-from_steps : first_height steps ≤ MAX_HEIGHT → IsLowCell needs page lines cell
  low-from_steps small = record {
    some = let some = height-from_first steps of.decreasing.has_step page
        (first_width-within page steps of.decreasing of.within) in
        (some.0, (of.each page some.0 (omega arith)).0 some.1);
    low = λ start h begins need.
        let inside = first_width-within page steps of.decreasing of.within in
        let before = begins.from (first_width steps) (first_height steps) first-need in
        let after = first-least steps of.decreasing start h ((of.each start h (omega (arith, before, inside))).1 need) in
        let same : first_width steps ≡ start = omega (arith, before, after) in
        let one = cell-functional needs functional lines cell start h (first_height steps) need
        (subst (λ w. CellNeeds needs lines cell w (first_height steps)) same first-need) in
        omega (arith, one, small);
  }

-- ---- a sound cell is low by both bounds

low-first : (problem : ProblemModel) (made : Cell) → IsSoundCell problem made → first_height made.low ≤ first_height made.high
low-first problem made sound =
    let below = sound.low_below (first_height made.high) (first_width made.high)
    (IsLowAt-from made.high (first_height made.high) (first_width made.high) (height-first made.high sound.steps.1)) in
    let low = height-from_low made.low (first_height made.high) (first_width made.high) below in
    let first : height_at made.low (first_width made.high) ≡ Some (first_height made.low) =
    ap (height_at made.low) (sym sound.same_least) ∙ height-first made.low sound.steps.0 in
    let same : Some low.0 ≡ Some (first_height made.low) = sym low.1 ∙ first in
    let equal : low.0 ≡ first_height made.low = cc in
    omega (arith, equal, low.2)

module _ (inner : List InnerSteps) (page : ℕ) (inside : TableCell → ℕ) where
  abbrev MadeBy : TableCell → Cell → Type 0
  MadeBy cell made = IsCellBy (NeedsBy Low inner) (NeedsBy High inner) page (inside cell) (out-TableCell cell) made

  low-cells : (problem : ProblemModel) (cells : List TableCell) (made : List Cell) → AllZip MadeBy cells made →
      AllByRecursion (IsSoundCell problem) made → sum_by (λ one. first_height one.high) made ≤ MAX_HEIGHT →
      AreLowCells inner page inside cells
  low-cells problem [] made of sound small = tt
  low-cells problem (cell ∷ cells) [] of sound small = absurd of
  low-cells problem (cell ∷ cells) (one ∷ made) of sound small =
      let all = sum_by-cons (λ (any : Cell). first_height any.high) one made in
      let low = low-first problem one sound.0 in (
        record {
          by_low = low-from_steps (NeedsBy Low inner) (inner-functional (λ any. any.low) inner) page (inside cell)
              (out-TableCell cell) one.low of.0.low
              (omega (arith, all, low, small));
          by_high = low-from_steps (NeedsBy High inner) (inner-functional (λ any. any.high) inner) page (inside cell)
              (out-TableCell cell) one.high of.0.high
              (omega (arith, all, small));
        },
        low-cells problem cells made of.1 sound.1 (omega (arith, all, small)),
      )

  some-steps : (tables : List Table) (w : ℕ) → AllByRecursion (λ nested. (m : ℕ) × NeedsBy Low inner nested w m) tables →
      HaveSteps inner tables
  some-steps [] w each = tt
  some-steps (nested ∷ tables) w each = (
    is-some w each.0.0 (steps_for inner (out-Table nested).number) each.0.1,
    some-steps tables w each.1,
  )
    where
      is-some : (w h : ℕ) (o : Option InnerSteps) → IsSomeAnd o (λ one. height_at one.low w ≡ Some h) → IsSome o
      is-some w h None is = absurd is
      is-some w h (Some one) is = refl

  have-cells : (cells : List TableCell) (made : List Cell) → AllZip MadeBy cells made →
      AllByRecursion (λ cell. HaveSteps inner (tables_in (out-TableCell cell))) cells
  have-cells [] made of = tt
  have-cells (cell ∷ cells) [] of = absurd of
  have-cells (cell ∷ cells) (one ∷ made) of = (
    some-steps (tables_in (out-TableCell cell)) (first_width one.low)
        (cell-inside (NeedsBy Low inner) (first_width one.low) (inside cell) (out-TableCell cell) (first_height one.low)
        (first-need (NeedsBy Low inner) (inner-functional (λ any. any.low) inner) page (inside cell) (out-TableCell cell)
        one.low of.0.low)),
    have-cells cells made of.1,
  )

-- a sound problem has steps for each nested table, and its cells are low
pub have-steps : (table : Table) (style : Style) (page : ℕ) (inner : List InnerSteps) → HasSoundProblem table style page inner →
    HaveSteps inner (inner_tables (out-Table table))
have-steps table style page inner (problem, of, sound) =
    joined-each (λ nested. IsSome (steps_for inner (out-Table nested).number)) (λ cell. tables_in (out-TableCell cell))
    (out-Table table).cells (have-cells inner page (inside_of style (out-Table table)) (out-Table table).cells problem.cells of.made)

pub are-low : (table : Table) (style : Style) (page : ℕ) (inner : List InnerSteps) → HasSoundProblem table style page inner →
    AreLowCells inner page (inside_of style (out-Table table)) (out-Table table).cells
are-low table style page inner (problem, of, sound) =
    low-cells inner page (inside_of style (out-Table table)) problem (out-Table table).cells problem.cells of.made
    (recursion_from_All (IsSoundCell problem) problem.cells sound.cells) sound.low_enough

-- ---- the cells that are made are those of the problem

pub made-problem : (table : Table) (style : Style) (page : ℕ) (inner : List InnerSteps) (made : List Cell) →
    AllZip (λ cell one. IsCellBy (NeedsBy Low inner) (NeedsBy High inner) page (inside_of style (out-Table table) cell)
    (out-TableCell cell) one) (out-Table table).cells made →
    IsProblemOf table style page inner
    (record { cols = (out-Table table).cols; rows = (out-Table table).rows; spacing = spacing_in style (out-Table table); width = page; cells = made })
made-problem table style page inner made of = record { columns = refl; lines = refl; spaced = refl; wide = refl; made = of }

pub made-sound : (table : Table) (style : Style) (page : ℕ) (inner : List InnerSteps) (made : List Cell) →
    AllZip (λ cell one. IsCellBy (NeedsBy Low inner) (NeedsBy High inner) page (inside_of style (out-Table table) cell)
    (out-TableCell cell) one) (out-Table table).cells made →
    HasSoundProblem table style page inner →
    IsSound (record { cols = (out-Table table).cols; rows = (out-Table table).rows; spacing = spacing_in style (out-Table table); width = page; cells = made })
made-sound table style page inner made of (problem, is, sound) =
    subst IsSound
    (same-problem (InnerNeeds (λ one. one.low) inner) (InnerNeeds (λ one. one.high) inner) style page (out-Table table) problem
    (record { cols = (out-Table table).cols; rows = (out-Table table).rows; spacing = spacing_in style (out-Table table); width = page; cells = made }) is
    (made-problem table style page inner made of)) sound

-- ---- loops over the blocks of a cell and the cells of a table

pub have-blocks : (inner : List InnerSteps) (cell : OpenCell) → HaveSteps inner (tables_in cell) →
    AllByRecursion (λ block. HaveSteps inner (tables_of (out-Content block))) cell.blocks
have-blocks inner cell have =
    each_joined (λ nested. IsSome (steps_for inner (out-Table nested).number)) (λ block. tables_of (out-Content block))
    cell.blocks have

pub have-each : (inner : List InnerSteps) (table : Table) → HaveSteps inner (inner_tables (out-Table table)) →
    AllByRecursion (λ cell. HaveSteps inner (tables_in (out-TableCell cell))) (out-Table table).cells
have-each inner table have =
    each_joined (λ nested. IsSome (steps_for inner (out-Table nested).number)) (λ cell. tables_in (out-TableCell cell))
    (out-Table table).cells have

pub cells-more : (inner : List InnerSteps) (page : ℕ) (inside : TableCell → ℕ) (cells : List TableCell) (k : ℕ) (cell : TableCell)
    (made : List Cell) (one : Cell) →
    k < length cells → cell ≡ get_or cells k cell → AllZip (MadeBy inner page inside) (take k cells) made →
    MadeBy inner page inside cell one →
    AllZip (MadeBy inner page inside) (take (k + 1) cells) (made ++ one ∷ [])
cells-more inner page inside cells k cell made one within is before here =
    AllZip-taken (MadeBy inner page inside) cells made k cell cell one within is before here

-- each cell of a sound table has a row, and no more lines inside than the limit
pub few-inside : (style : Style) (table : Table) → IsSoundTable table → AllByRecursion
    (λ cell. ((place_of cell).top < (place_of cell).bottom) × (inside_of style (out-Table table) cell ≤ MAX_HEIGHT))
    (out-Table table).cells
few-inside style table sound = by-depth sound.depth sound.sound
  where
    by-depth : (depth : ℕ) → IsSoundWithin depth table → AllByRecursion
        (λ cell. ((place_of cell).top < (place_of cell).bottom) × (inside_of style (out-Table table) cell ≤ MAX_HEIGHT))
        (out-Table table).cells
    by-depth zero is = absurd is
    by-depth (suc depth) is =
        recursion_from_All (λ cell. ((place_of cell).top < (place_of cell).bottom)
        × (inside_of style (out-Table table) cell ≤ MAX_HEIGHT)) (out-Table table).cells (λ k d within.
        let cell = get_or (out-Table table).cells k d in
        let placed = subst (IsPlaced (out-Table table).cols (out-Table table).rows)
        (get_or-map place_of (out-Table table).cells k d (place_of d) within)
        (is.placed k (place_of d) (omega (arith, within, length-map (out-Table table).cells place_of))) in
        (placed.2, omega (arith, inside-few style (out-Table table) (place_of cell), placed.3, is.few_rows)))

-- the same from each block, from each cell, and one more of them
pub blocks-have : (inner : List InnerSteps) (cell : OpenCell) →
    AllByRecursion (λ block. HaveSteps inner (tables_of (out-Content block))) cell.blocks →
    HaveSteps inner (tables_in cell)
blocks-have inner cell have =
    joined-each (λ nested. IsSome (steps_for inner (out-Table nested).number)) (λ block. tables_of (out-Content block))
    cell.blocks have

pub each-have : (inner : List InnerSteps) (table : Table) → AllByRecursion
    (λ cell. HaveSteps inner (tables_in (out-TableCell cell))) (out-Table table).cells →
    HaveSteps inner (inner_tables (out-Table table))
each-have inner table have =
    joined-each (λ nested. IsSome (steps_for inner (out-Table nested).number)) (λ cell. tables_in (out-TableCell cell))
    (out-Table table).cells have
