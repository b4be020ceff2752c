-- The problem of a sound table that fits the page is sound, where the steps of its nested tables are.
use Rattle.std.proofs.Common.{◌≡◌, ℕ, zero, suc, ◌+◌, ◌*◌, ◌<◌, ◌≤◌, max, List, [], ◌∷◌, length, get_or, map, sum_by, refl, sym}
use Rattle.std.proofs.Common.{ap, subst, ◌∙◌, arith}
use Rattle.std.specs.List.{All, AllPairs, AllZip, AllByRecursion, Any}
use Rattle.std.proofs.lemmas.List.{get_or-map, get_or_default, length-map}
use Rattle.std.proofs.lemmas.List.Elements.{recursion_from_All, All-from_recursion}
use Rattle.std.proofs.lemmas.List.Sums.{sum_by-cons}
use Rattle.tl_base.specs.declared.style.Style.{Style}
use Rattle.tl_base.specs.Style.{gap_of, row_gap_of, edges_of}
use Rattle.tl_base.specs.Steps.{first_height, first_width}
use Rattle.tl_base.proofs.Members.{AllByRecursion-weaker}
use Rattle.tl_grid.specs.declared.shape.Place.{Place}
use Rattle.tl_grid.specs.Dropping.{IsPlaced}
use Rattle.tl_grid.specs.Slots.{AreApart}
use Rattle.tl_problem.specs.declared.cell.Cell.{Cell}
use Rattle.tl_base.specs.Sizes.{room, total}
use Rattle.tl_problem.specs.Problem.{ProblemModel}
use Rattle.tl_problem.specs.Sound.{IsSoundCell, ShareSlot}
use Rattle.tl_base.proofs.SizeLaws.{spacing-sound, room-total}
use Rattle.tl_table.specs.declared.cell.Content.{out-Content}
use Rattle.tl_table.specs.declared.cell.Table.{Table, out-Table}
use Rattle.tl_table.specs.declared.cell.TableCell.{TableCell, out-TableCell}
use Rattle.tl_form.specs.declared.heights.InnerSteps.{InnerSteps}
use Rattle.tl_table.specs.declared.layout.Layout.{Layout, out-Layout}
use Rattle.tl_table.specs.Tables.{tables_in}
use Rattle.tl_table.specs.Layouts.{Fits, FitsBy, FitsRoom, FitsWithin, lines_of, spacing_in}
use Rattle.tl_form.specs.Problems.{CellNeeds, HasSoundProblem, InnerNeeds, IsCellBy, inside_of}
use Rattle.tl_table.specs.Sound.{IsSoundBy, IsSoundWithin, IsSpeltBlock, cell_size, place_of}
use Rattle.tl_form.specs.SoundProblems.{AreSoundPremises}
use Rattle.tl_form.proofs.CellNeedLemmas.{inner-functional}
use Rattle.tl_form.proofs.LowPlacements.{lines-least}
use Rattle.tl_form.proofs.NeedSteps.{first-least}
use Rattle.tl_form.proofs.ProblemCells.{first-need}
use Rattle.tl_table.proofs.SizesOpen.{table_size-out}
use Rattle.tl_form.proofs.SoundCells.{HasSound, below-all, cell-fits-low, cell-made, cell-wider, high-cell-small, same-first}
use Rattle.tl_table.proofs.SoundParts.{each_joined}
use Rattle.tl_form.proofs.Truth.{Fits-wider}

-- where a cell of a problem lies
abbrev pub made_place : Cell → Place
made_place made = record { left = made.left; right = made.right; top = made.top; bottom = made.bottom }

module _ (inner : List InnerSteps) (style : Style) (page : ℕ) (lines : TableCell → ℕ) where
  abbrev lows : Table → ℕ → ℕ → Type 0
  lows = InnerNeeds (λ one. one.low) inner

  abbrev highs : Table → ℕ → ℕ → Type 0
  highs = InnerNeeds (λ one. one.high) inner

  abbrev Made : TableCell → Cell → Type 0
  Made cell made = IsCellBy lows highs page (lines cell) (out-TableCell cell) made

  -- ---- the cells of a layout that fits have heights, and steps

  cells-made : (cells : List TableCell) →
      AllByRecursion (λ cell. AllByRecursion (HasSound inner style page) (tables_in (out-TableCell cell))) cells →
      AllByRecursion (λ cell. (h : ℕ) × CellNeeds lows (lines cell) (out-TableCell cell) page h) cells →
      (made : List Cell) × AllZip Made cells made
  cells-made [] have some = ([], tt)
  cells-made (cell ∷ cells) have some =
      let first = cell-made inner style page (lines cell) (out-TableCell cell) have.0 some.0.0 some.0.1 in
      let rest = cells-made cells have.1 some.1 in
      (first.0 ∷ rest.0, (first.1, rest.1))

  -- ---- they lie where the table's do

  pub places-same : (cells : List TableCell) (made : List Cell) → AllZip Made cells made →
      map made_place made ≡ map place_of cells
  places-same [] [] of = refl
  places-same [] (one ∷ made) of = absurd of
  places-same (cell ∷ cells) [] of = absurd of
  places-same (cell ∷ cells) (one ∷ made) of =
      let left = of.0.left in
      let right = of.0.right in
      let top = of.0.top in
      let bottom = of.0.bottom in
      let here : made_place one ≡ place_of cell = λ i. record {
        left = left i;
        right = right i;
        top = top i;
        bottom =
            bottom i;
      } in
      let rest = places-same cells made of.1 in
      λ i. here i ∷ rest i

  share-slot : (a b : Cell) → AreApart (made_place a) (made_place b) → ShareSlot a b → (a.left < a.right) × (a.top < a.bottom) →
      (b.left < b.right) × (b.top < b.bottom) → ⊥
  share-slot a b apart share first second =
      apart (max a.left b.left) (max a.top b.top)
      (omega arith, omega (arith, share.0.1, first.0), omega arith, omega (arith, share.1.1, first.1))
      (omega arith, omega (arith, share.0.0, second.0), omega arith, omega (arith, share.1.0, second.1))

  at-place : (made : List Cell) (i : ℕ) (d : Cell) → i < length made →
      get_or (map made_place made) i (made_place d) ≡ made_place (get_or made i d)
  at-place made i d within = get_or-map made_place made i d (made_place d) within

  apart-cells : (made : List Cell) → All (λ one. (one.left < one.right) × (one.top < one.bottom)) made →
      AllPairs AreApart (map made_place made) →
      AllPairs (λ a b. ShareSlot a b → ⊥) made
  apart-cells made placed apart i j d before within share =
      let long : length (map made_place made) ≡ length made = length-map made made_place in
      let one = apart i j (made_place d) before (omega (arith, within, long)) in
      let other = subst (λ (place : Place). AreApart place (get_or (map made_place made) j (made_place d)))
      (at-place made i d (omega (arith, before, within))) one in
      let both = subst (λ (place : Place). AreApart (made_place (get_or made i d)) place) (at-place made j d within) other in
      share-slot (get_or made i d) (get_or made j d) both share (placed i d (omega (arith, before, within))) (placed j d within)

  -- some cell stands where some place does
  pub any-made : (P : Place → Type 0) (made : List Cell) → Any P (map made_place made) → Any (λ one. P (made_place one)) made
  any-made P made (i, place, within, is, has) =
      let long : length (map made_place made) ≡ length made = length-map made made_place in
      let inside : i < length made = omega (arith, within, long) in
      let d : Cell = record {
        left = place.left;
        right = place.right;
        top = place.top;
        bottom = place.bottom;
        low = [];
        high =
            [];
      } in
      let one = get_or made i d in
      let same : made_place one ≡ place = sym (at-place made i d inside) ∙ is in
      (i, one, inside, get_or_default made i one d inside, subst P (sym same) has)

  -- ---- each is sound

  sound-cells : (problem : ProblemModel) (cells : List TableCell) (made : List Cell) → AllZip Made cells made →
      AllByRecursion (λ cell. AllByRecursion (HasSound inner style page) (tables_in (out-TableCell cell))) cells →
      AllByRecursion (λ cell. IsPlaced problem.cols problem.rows (place_of cell)) cells →
      AllByRecursion (IsSoundCell problem) made
  sound-cells problem [] [] of have placed = tt
  sound-cells problem [] (one ∷ made) of have placed = absurd of
  sound-cells problem (cell ∷ cells) [] of have placed = absurd of
  sound-cells problem (cell ∷ cells) (one ∷ made) of have placed = (
    record {
      columns = (omega (arith, of.0.left, of.0.right, placed.0.0), omega (arith, of.0.right, placed.0.1));
      rows = (omega (arith, of.0.top, of.0.bottom, placed.0.2), omega (arith, of.0.bottom, placed.0.3));
      steps = (of.0.low.decreasing, of.0.high.decreasing);
      same_least = same-first inner style page (lines cell) (out-TableCell cell) have.0 one of.0;
      low_below = below-all inner style page (lines cell) (out-TableCell cell) have.0 one of.0;
    },
    sound-cells problem cells made of.1 have.1 placed.1,
  )

  -- ---- they are low

  pub cells-small : (cells : List TableCell) (made : List Cell) → AllZip Made cells made →
      AllByRecursion (λ cell. AllByRecursion (HasSound inner style page) (tables_in (out-TableCell cell))) cells →
      AllByRecursion (λ cell. AllByRecursion (λ block. IsSpeltBlock (out-Content block)) (out-TableCell cell).blocks) cells →
      sum_by (λ one. first_height one.high) made + 2 * length cells ≤ 2 * sum_by cell_size cells
  cells-small [] [] of have spelt = omega arith
  cells-small [] (one ∷ made) of have spelt = absurd of
  cells-small (cell ∷ cells) [] of have spelt = absurd of
  cells-small (cell ∷ cells) (one ∷ made) of have spelt =
      let need = first-need highs (inner-functional (λ any. any.high) inner) page (lines cell) (out-TableCell cell) one.high of.0.high in
      omega (
        arith,
        sum_by-cons (λ (any : Cell). first_height any.high) one made,
        sum_by-cons cell_size cell cells,
        high-cell-small inner style page (lines cell) cell (first_width one.high) (first_height one.high) have.0 spelt.0 need,
        cells-small cells made of.1 have.1 spelt.1,
      )

  -- ---- a layout that fits is within the page

  cells-fit : (fits : Table → ℕ → ℕ → Layout → Type 0) →
      ((nested : Table) (v height : ℕ) (layout : Layout) → fits nested v height layout → Fits nested style v height layout) →
      (widths heights : List ℕ) (cells : List TableCell) (parts : List (List Layout)) →
      AllByRecursion (λ cell. AllByRecursion (HasSound inner style page) (tables_in (out-TableCell cell))) cells →
      AllByRecursion (λ cell. ((place_of cell).left < (place_of cell).right) × ((place_of cell).right ≤ length widths)) cells →
      total (gap_of style) (edges_of style) widths ≤ page →
      AllZip (λ cell part. FitsRoom fits (room (gap_of style) widths (place_of cell).left (place_of cell).right)
      (room (row_gap_of style) heights (place_of cell).top (place_of cell).bottom + lines cell) (out-TableCell cell) part) cells
      parts →
      AllByRecursion (λ cell. (w k : ℕ) × (w ≡ room (gap_of style) widths (place_of cell).left (place_of cell).right) × (w ≤ page)
      × CellNeeds lows (lines cell) (out-TableCell cell) w k) cells
  cells-fit fits any widths heights [] parts have placed narrow held = tt
  cells-fit fits any widths heights (cell ∷ cells) [] have placed narrow held = absurd held
  cells-fit fits any widths heights (cell ∷ cells) (part ∷ parts) have placed narrow held =
      let w = room (gap_of style) widths (place_of cell).left (place_of cell).right in
      let some = cell-fits-low inner style page (lines cell) (out-TableCell cell) have.0 fits any w
      (room (row_gap_of style) heights (place_of cell).top (place_of cell).bottom + lines cell) part held.0 in (
        (
          w,
          some.0,
          refl,
          omega (
            arith,
            room-total (gap_of style) (edges_of style) widths (place_of cell).left
                (place_of cell).right placed.0.0 placed.0.1,
            narrow,
          ),
          some.1,
        ),
        cells-fit fits any widths heights cells parts have.1 placed.1 narrow held.1,
      )

  -- then each has a height on the page
  cells-page : (widths : List ℕ) (cells : List TableCell) →
      AllByRecursion (λ cell. AllByRecursion (HasSound inner style page) (tables_in (out-TableCell cell))) cells →
      AllByRecursion (λ cell. (w k : ℕ) × (w ≡ room (gap_of style) widths (place_of cell).left (place_of cell).right) × (w ≤ page)
      × CellNeeds lows (lines cell) (out-TableCell cell) w k) cells → AllByRecursion
      (λ cell. (h : ℕ) × CellNeeds lows (lines cell) (out-TableCell cell) page h) cells
  cells-page widths [] have fit = tt
  cells-page widths (cell ∷ cells) have fit = (
    cell-wider inner style page (lines cell) (out-TableCell cell) have.0 fit.0.0 fit.0.1 fit.0.3 fit.0.4,
    cells-page widths cells have.1 fit.1,
  )

  -- and its least width
  cells-within : (widths : List ℕ) (cells : List TableCell) (made : List Cell) → AllZip Made cells made →
      AllByRecursion (λ cell. (w k : ℕ) × (w ≡ room (gap_of style) widths (place_of cell).left (place_of cell).right) × (w ≤ page)
      × CellNeeds lows (lines cell) (out-TableCell cell) w k) cells →
      AllByRecursion (λ one. first_width one.low ≤ room (gap_of style) widths one.left one.right) made
  cells-within widths [] [] of fit = tt
  cells-within widths [] (one ∷ made) of fit = absurd of
  cells-within widths (cell ∷ cells) [] of fit = absurd of
  cells-within widths (cell ∷ cells) (one ∷ made) of fit =
      let same : room (gap_of style) widths one.left one.right ≡ room (gap_of style) widths (place_of cell).left
      (place_of cell).right =
      ap (λ left. room (gap_of style) widths left one.right) of.0.left ∙ ap
      (λ right. room (gap_of style) widths (place_of cell).left right) of.0.right in
      let least = first-least one.low of.0.low.decreasing fit.0.0 fit.0.1 ((of.0.low.each fit.0.0 fit.0.1 fit.0.3).1 fit.0.4) in
      (omega (arith, least, fit.0.2, same), cells-within widths cells made of.1 fit.1)

-- ---- the problem

module _ (table : Table) (style : Style) (page : ℕ) (inner : List InnerSteps)
    (given : AreSoundPremises table style page inner) where
  pub have : AllByRecursion (λ cell. AllByRecursion (HasSound inner style page) (tables_in (out-TableCell cell)))
      (out-Table table).cells
  have = each_joined (HasSound inner style page) (λ cell. tables_in (out-TableCell cell)) (out-Table table).cells given.each

  pub placed-cells : {sound : Table → Type 0} (by : IsSoundBy sound (out-Table table)) →
      AllByRecursion (λ cell. IsPlaced (out-Table table).cols (out-Table table).rows (place_of cell)) (out-Table table).cells
  placed-cells by =
      recursion_from_All (λ cell. IsPlaced (out-Table table).cols (out-Table table).rows (place_of cell)) (out-Table table).cells
      (λ k d within. subst (IsPlaced (out-Table table).cols (out-Table table).rows)
      (get_or-map place_of (out-Table table).cells k d (place_of d) within)
      (by.placed k (place_of d) (omega (arith, within, length-map (out-Table table).cells place_of))))

  -- by a layout that fits
  by-layout : {sound : Table → Type 0} (by : IsSoundBy sound (out-Table table)) (height depth : ℕ) (layout : Layout) →
      FitsBy (FitsWithin depth style) style (out-Table table) page height (out-Layout layout) →
      HasSoundProblem table style page inner
  by-layout {sound} by height depth layout held = (
    problem,
    record { columns = refl; lines = refl; spaced = refl; wide = refl; made = made.1 },
    record {
      spaced = spacing-sound style (lines_of style (out-Table table)) (omega (arith, lines-least style (out-Table table), by.few_rows));
      few_columns = by.few_columns;
      few_rows = by.few_rows;
      narrow = given.narrow;
      cells = All-from_recursion (IsSoundCell problem) made.0 sound-made;
      apart = apart-cells inner style page lines made.0
          (All-from_recursion (λ one. (one.left < one.right) × (one.top < one.bottom)) made.0
          (AllByRecursion-weaker (IsSoundCell problem) (λ one. (one.left < one.right) × (one.top < one.bottom)) made.0
          (λ one is. (is.columns.0, is.rows.0)) sound-made))
          (subst (AllPairs AreApart) (sym places) by.apart);
      columns = λ column within. any-made inner style page lines (λ place. place.left ≡ column) made.0
          (subst (Any (λ (place : Place). place.left ≡ column)) (sym places) (by.columns column within));
      rows = λ row within. any-made inner style page lines (λ place. place.top ≡ row) made.0
          (subst (Any (λ (place : Place). place.top ≡ row)) (sym places) (by.rows row within));
      low_enough = omega (arith, small, table_size-out table, given.sound.size);
      fits = (
        (out-Layout layout).widths,
        record {
          columns = held.columns;
          page = held.within;
          cells = All-from_recursion (λ one. first_width one.low ≤ room (gap_of style)
              (out-Layout layout).widths one.left one.right) made.0
              (cells-within inner style page lines (out-Layout layout).widths (out-Table table).cells made.0 made.1 fit);
        },
      );
    },
  ) where
    widths : List ℕ
    widths = (out-Layout layout).widths

    -- the lines inside each cell
    lines : TableCell → ℕ
    lines = inside_of style (out-Table table)

    fit : AllByRecursion (λ cell. (w k : ℕ) × (w ≡ room (gap_of style) widths (place_of cell).left (place_of cell).right) ×
        (w ≤ page)
        × CellNeeds (lows inner style page lines) (lines cell) (out-TableCell cell) w k) (out-Table table).cells
    fit = cells-fit inner style page lines (FitsWithin depth style) (λ nested v h one fits. (depth, fits)) widths
        (out-Layout layout).heights
        (out-Table table).cells held.parts have
        (AllByRecursion-weaker (λ cell. IsPlaced (out-Table table).cols (out-Table table).rows (place_of cell))
        (λ cell. ((place_of cell).left < (place_of cell).right) × ((place_of cell).right ≤ length widths)) (out-Table table).cells
        (λ cell at. (at.0, omega (arith, at.1, held.columns))) (placed-cells by)) held.within held.cells

    made : (made : List Cell) × AllZip (Made inner style page lines) (out-Table table).cells made
    made = cells-made inner style page lines (out-Table table).cells have
        (cells-page inner style page lines widths (out-Table table).cells have fit)

    problem : ProblemModel
    problem = record {
      cols = (out-Table table).cols;
      rows = (out-Table table).rows;
      spacing = spacing_in style (out-Table table);
      width = page;
      cells = made.0;
    }

    sound-made : AllByRecursion (IsSoundCell problem) made.0
    sound-made = sound-cells inner style page lines problem (out-Table table).cells made.0 made.1 have (placed-cells by)

    places : map made_place made.0 ≡ map place_of (out-Table table).cells
    places = places-same inner style page lines (out-Table table).cells made.0 made.1

    small : sum_by (λ one. first_height one.high) made.0 + 2 * length (out-Table table).cells ≤ 2 * sum_by cell_size
        (out-Table table).cells
    small = cells-small inner style page lines (out-Table table).cells made.0 made.1 have
        (recursion_from_All (λ cell. AllByRecursion (λ block. IsSpeltBlock (out-Content block)) (out-TableCell cell).blocks)
        (out-Table table).cells by.spelt)

  pub sound-problem : HasSoundProblem table style page inner
  sound-problem =
      let fits = given.is_least.attained in
      by-depths given.sound.depth given.sound.sound fits.0 fits.1
      (Fits-wider style table given.least page fits.0 fits.1 given.wide fits.2)
    where
      by-depths : (depth : ℕ) → IsSoundWithin depth table → (height : ℕ) (layout : Layout) → Fits table style page height layout →
          HasSoundProblem table style page inner
      by-depths zero sound height layout fits = absurd sound
      by-depths (suc depth) sound height layout (zero, held) = absurd held
      by-depths (suc depth) sound height layout (suc within, held) = by-layout sound height within layout held
