-- The problem of a table is determined, its steps lie round the true ones, and it is the true problem where the bounds
-- of nested tables meet.
use Rattle.std.proofs.Common.{◌≡◌, ℕ, zero, suc, ◌+◌, ◌≤◌, List, [], ◌∷◌, refl, sym, ap, subst, ◌∙◌, arith}
use Rattle.std.specs.List.{AllZip, AllByRecursion}
use Rattle.std.proofs.lemmas.List.Elements.{recursion_from_All, All-from_recursion}
use Rattle.tl_base.specs.declared.style.Style.{Style}
use Rattle.tl_base.specs.Steps.{IsLowAt}
use Rattle.tl_base.proofs.Members.{AllByRecursion-weaker}
use Rattle.tl_problem.specs.declared.cell.Cell.{Cell}
use Rattle.tl_problem.specs.Problem.{ProblemModel, cell_height, cell_width, total_height, total_width}
use Rattle.tl_problem.specs.Layouts.{IsLayoutByLow, IsLayoutByHigh}
use Rattle.tl_problem.specs.Sound.{IsSound}
use Rattle.tl_problem.proofs.Heights.{IsLowAt-from, IsLowAt-higher}
use Rattle.tl_table.specs.declared.cell.Content.{Content, out-Content}
use Rattle.tl_table.specs.declared.cell.Content.TheOpen as open_content
use Rattle.tl_table.specs.declared.cell.Table.{Table, out-Table}
use Rattle.tl_table.specs.declared.cell.TableCell.{TableCell, out-TableCell}
use Rattle.tl_form.specs.declared.heights.InnerSteps.{InnerSteps}
use Rattle.tl_table.specs.declared.layout.Layout.{Layout, out-Layout, roll-Layout, out-roll-Layout}
use Rattle.tl_table.specs.Tables.{OpenTable, OpenCell, OpenContent, inner_tables, tables_in, tables_of}
use Rattle.tl_table.specs.Layouts.{OpenLayout, Fits, FitsWithin}
use Rattle.tl_table.specs.Least.{IsLeastHeight}
use Rattle.tl_form.specs.Problems.{BlockNeeds, CellNeeds, InnerNeeds, IsCellBy, IsProblemBy, IsProblemOf, IsTrueProblem}
use Rattle.tl_form.specs.Problems.{inside_of}
use Rattle.tl_form.specs.ProblemLaws.{IsBelowLayouts, IsAboveLayouts, LowIsBelow, HighIsAbove, BoundsMeet, CellIsBetween}
use Rattle.tl_form.specs.ProblemLaws.{IsLeastByHigh}
use Rattle.tl_form.proofs.CellNeedLemmas.{IsFunctional, cell-functional, inner-functional}
use Rattle.tl_form.proofs.NeedSteps.{AreStepsOf-same, AreStepsOf-unique}
use Rattle.tl_form.proofs.ProblemLayouts.{IsBelowAt, IsAboveAt, cell-below, cell-above, layout-low, layout-high, sound-in_grid}
use Rattle.tl_table.proofs.AnyDepth.{fits-rolled}
use Rattle.tl_table.proofs.SoundParts.{both_each, each_joined, joined-each}
use Rattle.tl_form.proofs.Truth.{Fits-wider}

-- ---- the problem is determined

module _ (lows highs : Table → ℕ → ℕ → Type 0) (style : Style) (page : ℕ) where
  same-cell : (inside : ℕ) (cell : OpenCell) (one other : Cell) → IsCellBy lows highs page inside cell one →
      IsCellBy lows highs page inside cell other → one ≡ other
  same-cell inside cell one other first second =
      let left : one.left ≡ other.left = first.left ∙ sym second.left in
      let right : one.right ≡ other.right = first.right ∙ sym second.right in
      let top : one.top ≡ other.top = first.top ∙ sym second.top in
      let bottom : one.bottom ≡ other.bottom = first.bottom ∙ sym second.bottom in
      let low : one.low ≡ other.low = AreStepsOf-unique (CellNeeds lows inside cell) page one.low other.low first.low second.low in
      let high : one.high ≡ other.high = AreStepsOf-unique (CellNeeds highs inside cell)
      page one.high other.high first.high second.high in
      λ i. record { left = left i; right = right i; top = top i; bottom = bottom i; low = low i; high = high i }

  pub same-cells : (inside : TableCell → ℕ) (cells : List TableCell) (one other : List Cell) →
      AllZip (λ cell made. IsCellBy lows highs page (inside cell) (out-TableCell cell) made) cells one →
      AllZip (λ cell made. IsCellBy lows highs page (inside cell) (out-TableCell cell) made) cells other → one ≡ other
  same-cells inside [] [] [] first second = refl
  same-cells inside [] [] (b ∷ other) first second = absurd second
  same-cells inside [] (a ∷ one) other first second = absurd first
  same-cells inside (cell ∷ cells) [] other first second = absurd first
  same-cells inside (cell ∷ cells) (a ∷ one) [] first second = absurd second
  same-cells inside (cell ∷ cells) (a ∷ one) (b ∷ other) first second =
      let head = same-cell (inside cell) (out-TableCell cell) a b first.0 second.0 in
      let rest = same-cells inside cells one other first.1 second.1 in
      λ i. head i ∷ rest i

  pub same-problem : (table : OpenTable) (one other : ProblemModel) → IsProblemBy lows highs style page table one →
      IsProblemBy lows highs style page table other → one ≡ other
  same-problem table one other first second =
      let cols : one.cols ≡ other.cols = first.columns ∙ sym second.columns in
      let rows : one.rows ≡ other.rows = first.lines ∙ sym second.lines in
      let spacing : one.spacing ≡ other.spacing = first.spaced ∙ sym second.spaced in
      let width : one.width ≡ other.width = first.wide ∙ sym second.wide in
      let cells : one.cells ≡ other.cells = same-cells (inside_of style table) table.cells one.cells other.cells first.made second.made in
      λ i. record { cols = cols i; rows = rows i; spacing = spacing i; width = width i; cells = cells i }

-- ---- a layout of the table by bounds below, and one of the problem by bounds above

module _ (lows highs : Table → ℕ → ℕ → Type 0) (table : Table) (style : Style) (page : ℕ) (problem : ProblemModel)
    (of : IsProblemBy lows highs style page (out-Table table) problem) (sound : IsSound problem) where
  pub fits-low : AllByRecursion (IsBelowLayouts lows style page) (inner_tables (out-Table table)) →
      (height : ℕ) (layout : Layout) →
      Fits table style page height layout →
      IsLayoutByLow problem (out-Layout layout).widths (out-Layout layout).heights ×
      (total_height problem (out-Layout layout).heights ≡ height)
  fits-low below height layout (zero, held) = absurd held
  fits-low below height layout (suc depth, held) =
      layout-low lows highs style page (out-Table table) problem of
      (sound-in_grid lows highs style page (out-Table table) problem sound)
      (FitsWithin depth style)
      (AllByRecursion-weaker (IsBelowLayouts lows style page) (λ nested. (w : ℕ) → w ≤ page →
      IsBelowAt (FitsWithin depth style) lows w nested)
      (inner_tables (out-Table table)) (λ nested is w within k inner one. is w k inner within (depth, one)) below) height
      (out-Layout layout) held

  pub high-fits : AllByRecursion (IsAboveLayouts highs style page) (inner_tables (out-Table table)) → (widths heights : List ℕ) →
      IsLayoutByHigh problem widths heights →
      (layout : Layout) × Fits table style (total_width problem widths) (total_height problem heights) layout
      × ((out-Layout layout).widths ≡ widths) × ((out-Layout layout).heights ≡ heights)
  high-fits above widths heights laid =
      let made = layout-high lows highs style page (out-Table table) problem of
      (sound-in_grid lows highs style page (out-Table table) problem sound)
      (λ nested w h inner. Fits nested style w h inner)
      (AllByRecursion-weaker (IsAboveLayouts highs style page)
      (λ nested. (w : ℕ) → w ≤ page → IsAboveAt (λ one v h inner. Fits one style v h inner) highs w nested)
      (inner_tables (out-Table table))
      (λ nested is w within h need. is w h within need) above) widths heights laid in
      let layout : OpenLayout = record { widths = widths; heights = heights; inner = made.0 } in (
        roll-Layout layout,
        fits-rolled style table (total_width problem widths) (total_height problem heights) layout made.1,
        ap (λ (one : OpenLayout). one.widths) (out-roll-Layout layout),
        ap (λ (one : OpenLayout). one.heights) (out-roll-Layout layout),
      )

-- ---- what a cell needs in other words

module _ (needs others : Table → ℕ → ℕ → Type 0) (w : ℕ) where
  -- what nested tables need the one way they need the other way
  abbrev pub SoOfEach : Table → Type 0
  SoOfEach nested = (h : ℕ) → needs nested w h → others nested w h

  block-so : (block : OpenContent) (h : ℕ) → AllByRecursion SoOfEach (tables_of block) → BlockNeeds needs block w h →
      BlockNeeds others block w h
  block-so (open_content.Para paragraph) h so need = need
  block-so (open_content.Table box) h so need = so.0 h need

  blocks-so : (blocks : List Content) (heights : List ℕ) → AllByRecursion
      (λ block. AllByRecursion SoOfEach (tables_of (out-Content block))) blocks →
      AllZip (λ block height. BlockNeeds needs (out-Content block) w height) blocks heights →
      AllZip (λ block height. BlockNeeds others (out-Content block) w height) blocks heights
  blocks-so [] [] so need = tt
  blocks-so [] (h ∷ heights) so need = absurd need
  blocks-so (block ∷ blocks) [] so need = absurd need
  blocks-so (block ∷ blocks) (h ∷ heights) so need = (
    block-so (out-Content block) h so.0 need.0,
    blocks-so blocks heights so.1 need.1,
  )

  pub cell-so : (inside : ℕ) (cell : OpenCell) (h : ℕ) → AllByRecursion SoOfEach (tables_in cell) →
      CellNeeds needs inside cell w h → CellNeeds others inside cell w h
  cell-so inside cell h so need = record {
    floor = need.floor;
    heights = need.heights;
    blocks = blocks-so cell.blocks need.heights (each_joined SoOfEach (λ block. tables_of (out-Content block)) cell.blocks so)
        need.blocks;
    all = need.all;
  }

module _ (needs : Table → ℕ → ℕ → Type 0) (w : ℕ) where
  block-inside : (block : OpenContent) (h : ℕ) → BlockNeeds needs block w h →
      AllByRecursion (λ nested. (m : ℕ) × needs nested w m) (tables_of block)
  block-inside (open_content.Para paragraph) h need = tt
  block-inside (open_content.Table box) h need = ((h, need), tt)

  blocks-inside : (blocks : List Content) (heights : List ℕ) →
      AllZip (λ block height. BlockNeeds needs (out-Content block) w height) blocks heights →
      AllByRecursion (λ block. AllByRecursion (λ nested. (m : ℕ) × needs nested w m) (tables_of (out-Content block))) blocks
  blocks-inside [] [] need = tt
  blocks-inside [] (h ∷ heights) need = absurd need
  blocks-inside (block ∷ blocks) [] need = absurd need
  blocks-inside (block ∷ blocks) (h ∷ heights) need = (
    block-inside (out-Content block) h need.0,
    blocks-inside blocks heights need.1,
  )

  pub cell-inside : (inside : ℕ) (cell : OpenCell) (h : ℕ) → CellNeeds needs inside cell w h →
      AllByRecursion (λ nested. (m : ℕ) × needs nested w m) (tables_in cell)
  cell-inside inside cell h need =
      joined-each (λ nested. (m : ℕ) × needs nested w m) (λ block. tables_of (out-Content block)) cell.blocks
      (blocks-inside cell.blocks need.heights need.blocks)

-- ---- round the true steps

-- a table has one least height
pub least-functional : (style : Style) → IsFunctional (λ nested. IsLeastHeight nested style)
least-functional style nested w m n first second =
    omega (arith, first.least n second.attained.0 second.attained.1, second.least m first.attained.0 first.attained.1)

module _ (lows highs : Table → ℕ → ℕ → Type 0) (style : Style) (page : ℕ) where
  abbrev Real : Table → ℕ → ℕ → Type 0
  Real nested = IsLeastHeight nested style

  between-cell : (inside : ℕ) (cell : OpenCell) (made real : Cell) → IsCellBy lows highs page inside cell made →
      IsCellBy Real Real page inside cell real → AllByRecursion (IsBelowLayouts lows style page) (tables_in cell) →
      AllByRecursion (IsAboveLayouts highs style page) (tables_in cell) →
      CellIsBetween page made real
  between-cell inside cell made real of true below above = record {
    low = λ w h within is.
        let need = (true.low.each w h within).0 is in
        let room = cell-above (λ nested v k layout. Fits nested style v k layout) Real w inside cell h (h + inside)
        (AllByRecursion-weaker (IsBelowLayouts lows style page)
        (IsAboveAt (λ nested v k layout. Fits nested style v k layout) Real w) (tables_in cell)
        (λ nested unused k least. (k, least.attained.0, least.attained.1, omega arith)) below) need (omega arith) in
        let low = cell-below (λ nested v k layout. Fits nested style v k layout) lows w inside cell (h + inside) room.0
        (AllByRecursion-weaker (IsBelowLayouts lows style page)
        (IsBelowAt (λ nested v k layout. Fits nested style v k layout) lows w) (tables_in cell)
        (λ nested is_below k layout fits. is_below w k layout within fits) below) room.1 in
        IsLowAt-higher made.low low.0 h w (omega (arith, low.2)) (IsLowAt-from made.low low.0 w ((of.low.each w low.0 within).1 low.1));
    high = λ w h k within is more.
        let need = (true.high.each w h within).0 is in
        let room = cell-above (λ nested v m layout. Fits nested style v m layout) highs w inside cell k (k + inside)
        (AllByRecursion-weaker (IsAboveLayouts highs style page)
        (IsAboveAt (λ nested v m layout. Fits nested style v m layout) highs w) (tables_in cell)
        (λ nested is_above m bound. is_above w m within bound) above) ((of.high.each w k within).0 more) (omega arith) in
        let low = cell-below (λ nested v m layout. Fits nested style v m layout) Real w inside cell (k + inside) room.0
        (AllByRecursion-weaker (λ nested. (m : ℕ) × Real nested w m)
        (IsBelowAt (λ nested v m layout. Fits nested style v m layout) Real w) (tables_in cell)
        (λ nested some m layout fits. (some.0, some.1, some.1.least m layout fits)) (cell-inside Real w inside cell h need)) room.1 in
        let same = cell-functional Real (least-functional style) inside cell w h low.0 need low.1 in
        omega (arith, same, low.2);
  }

  pub between-cells : (inside : TableCell → ℕ) (cells : List TableCell) (made real : List Cell) →
      AllZip (λ cell one. IsCellBy lows highs page (inside cell) (out-TableCell cell) one) cells made →
      AllZip (λ cell one. IsCellBy Real Real page (inside cell) (out-TableCell cell) one) cells real →
      AllByRecursion (λ cell. AllByRecursion (IsBelowLayouts lows style page) (tables_in (out-TableCell cell))) cells →
      AllByRecursion (λ cell. AllByRecursion (IsAboveLayouts highs style page) (tables_in (out-TableCell cell))) cells →
      AllZip (CellIsBetween page) made real
  between-cells inside [] [] [] of true below above = tt
  between-cells inside [] [] (b ∷ real) of true below above = absurd true
  between-cells inside [] (a ∷ made) real of true below above = absurd of
  between-cells inside (cell ∷ cells) [] real of true below above = absurd of
  between-cells inside (cell ∷ cells) (a ∷ made) [] of true below above = absurd true
  between-cells inside (cell ∷ cells) (a ∷ made) (b ∷ real) of true below above = (
    between-cell (inside cell) (out-TableCell cell) a b of.0 true.0 below.0 above.0,
    between-cells inside cells made real of.1 true.1 below.1 above.1,
  )

pub steps-between : (table : Table) (style : Style) (page : ℕ) (inner : List InnerSteps) (problem real : ProblemModel) →
    IsProblemOf table style page inner problem → IsTrueProblem table style page real → LowIsBelow table style page inner →
    HighIsAbove table style page inner → AllZip (CellIsBetween page) problem.cells real.cells
steps-between table style page inner problem real of true below above =
    between-cells (InnerNeeds (λ one. one.low) inner) (InnerNeeds (λ one. one.high) inner) style page
    (inside_of style (out-Table table)) (out-Table table).cells problem.cells real.cells
    of.made true.made
    (each_joined (IsBelowLayouts (InnerNeeds (λ one. one.low) inner) style page) (λ cell. tables_in (out-TableCell cell))
    (out-Table table).cells below)
    (each_joined (IsAboveLayouts (InnerNeeds (λ one. one.high) inner) style page) (λ cell. tables_in (out-TableCell cell))
    (out-Table table).cells above)

-- ---- where the bounds meet

module _ (lows highs : Table → ℕ → ℕ → Type 0) (one_low : IsFunctional lows) (one_high : IsFunctional highs) (style : Style)
    (page : ℕ) where
  -- bounds round the layouts of a nested table that meet
  pub record Meet (nested : Table) : Type 0 where
    pub below : IsBelowLayouts lows style page nested
    pub above : IsAboveLayouts highs style page nested
    pub same : (w h : ℕ) → w ≤ page → lows nested w h → highs nested w h

  low-real : (nested : Table) (w h : ℕ) → w ≤ page → Meet nested → lows nested w h → IsLeastHeight nested style w h
  low-real nested w h within meet low =
      let fits = meet.above w h within (meet.same w h within low) in
      let less = meet.below w fits.0 fits.1 within fits.2 in
      let one = one_low nested w h less.0 low less.1 in
      let same : fits.0 ≡ h = omega (arith, one, less.2, fits.3) in record {
        attained = (fits.1, subst (λ k. Fits nested style w k fits.1) same fits.2);
        least = λ other layout held.
            let bound = meet.below w other layout within held in
            omega (arith, one_low nested w h bound.0 low bound.1, bound.2);
      }

  real-low : (nested : Table) (w h : ℕ) → w ≤ page → Meet nested → IsLeastHeight nested style w h → lows nested w h
  real-low nested w h within meet least =
      let less = meet.below w h least.attained.0 within least.attained.1 in
      let same = least-functional style nested w less.0 h (low-real nested w less.0 within meet less.1) least in
      subst (λ k. lows nested w k) same less.1

  high-real : (nested : Table) (w h : ℕ) → w ≤ page → Meet nested → highs nested w h → IsLeastHeight nested style w h
  high-real nested w h within meet high =
      let fits = meet.above w h within high in
      let less = meet.below w fits.0 fits.1 within fits.2 in
      let same = one_high nested w less.0 h (meet.same w less.0 within less.1) high in
      low-real nested w h within meet (subst (λ k. lows nested w k) same less.1)

  real-high : (nested : Table) (w h : ℕ) → w ≤ page → Meet nested → IsLeastHeight nested style w h → highs nested w h
  real-high nested w h within meet least = meet.same w h within (real-low nested w h within meet least)

  real-cell : (inside : ℕ) (cell : OpenCell) (made : Cell) → IsCellBy lows highs page inside cell made →
      AllByRecursion Meet (tables_in cell) →
      IsCellBy (λ nested. IsLeastHeight nested style) (λ nested. IsLeastHeight nested style) page inside cell made
  real-cell inside cell made of meet = record {
    left = of.left;
    right = of.right;
    top = of.top;
    bottom = of.bottom;
    low = AreStepsOf-same (CellNeeds lows inside cell) (CellNeeds (λ nested. IsLeastHeight nested style) inside cell) page made.low
        (λ w h within need. cell-so lows (λ nested. IsLeastHeight nested style) w inside cell h
        (AllByRecursion-weaker Meet (SoOfEach lows (λ nested. IsLeastHeight nested style) w) (tables_in cell)
        (λ nested one k low. low-real nested w k within one low) meet) need)
        (λ w h within need. cell-so (λ nested. IsLeastHeight nested style) lows w inside cell h
        (AllByRecursion-weaker Meet (SoOfEach (λ nested. IsLeastHeight nested style) lows w) (tables_in cell)
        (λ nested one k least. real-low nested w k within one least) meet) need) of.low;
    high = AreStepsOf-same (CellNeeds highs inside cell) (CellNeeds (λ nested. IsLeastHeight nested style) inside cell) page made.high
        (λ w h within need. cell-so highs (λ nested. IsLeastHeight nested style) w inside cell h
        (AllByRecursion-weaker Meet (SoOfEach highs (λ nested. IsLeastHeight nested style) w) (tables_in cell)
        (λ nested one k high. high-real nested w k within one high) meet) need)
        (λ w h within need. cell-so (λ nested. IsLeastHeight nested style) highs w inside cell h
        (AllByRecursion-weaker Meet (SoOfEach (λ nested. IsLeastHeight nested style) highs w) (tables_in cell)
        (λ nested one k least. real-high nested w k within one least) meet) need) of.high;
  }

  real-cells : (inside : TableCell → ℕ) (cells : List TableCell) (made : List Cell) →
      AllZip (λ cell one. IsCellBy lows highs page (inside cell) (out-TableCell cell) one) cells made →
      AllByRecursion (λ cell. AllByRecursion Meet (tables_in (out-TableCell cell))) cells →
      AllZip (λ cell one. IsCellBy (λ nested. IsLeastHeight nested style) (λ nested. IsLeastHeight nested style) page
      (inside cell) (out-TableCell cell) one) cells made
  real-cells inside [] [] of meet = tt
  real-cells inside [] (one ∷ made) of meet = absurd of
  real-cells inside (cell ∷ cells) [] of meet = absurd of
  real-cells inside (cell ∷ cells) (one ∷ made) of meet = (
    real-cell (inside cell) (out-TableCell cell) one of.0 meet.0,
    real-cells inside cells made of.1 meet.1,
  )

  pub real-problem : (table : Table) (problem : ProblemModel) → IsProblemBy lows highs style page (out-Table table) problem →
      AllByRecursion Meet (inner_tables (out-Table table)) → IsTrueProblem table style page problem
  real-problem table problem of meet = record {
    columns = of.columns;
    lines = of.lines;
    spaced = of.spaced;
    wide = of.wide;
    made = real-cells (inside_of style (out-Table table)) (out-Table table).cells problem.cells of.made
        (each_joined Meet (λ cell. tables_in (out-TableCell cell)) (out-Table table).cells meet);
  }

-- the true problem has one list of steps for each cell
pub true-low-is-high : (table : Table) (style : Style) (page : ℕ) (problem : ProblemModel) →
    IsTrueProblem table style page problem →
    AllByRecursion (λ cell. cell.low ≡ cell.high) problem.cells
true-low-is-high table style page problem of = by_cells (out-Table table).cells problem.cells of.made
  where
    by_cells : (cells : List TableCell) (made : List Cell) →
        AllZip (λ cell one. IsCellBy (λ nested. IsLeastHeight nested style) (λ nested. IsLeastHeight nested style) page
        (inside_of style (out-Table table) cell) (out-TableCell cell) one) cells made →
        AllByRecursion (λ one. one.low ≡ one.high) made
    by_cells [] [] each = tt
    by_cells [] (one ∷ made) each = absurd each
    by_cells (cell ∷ cells) [] each = absurd each
    by_cells (cell ∷ cells) (one ∷ made) each = (
      AreStepsOf-unique (CellNeeds (λ nested. IsLeastHeight nested style) (inside_of style (out-Table table) cell) (out-TableCell cell))
          page one.low one.high each.0.low each.0.high,
      by_cells cells made each.1,
    )

-- then a layout by `low` is one by `high`
low-is-high : (problem : ProblemModel) (widths heights : List ℕ) → AllByRecursion (λ cell. cell.low ≡ cell.high) problem.cells →
    IsLayoutByLow problem widths heights → IsLayoutByHigh problem widths heights
low-is-high problem widths heights same laid = record {
  page = laid.page;
  enough = record {
    rows = laid.enough.rows;
    cells = All-from_recursion (λ cell. IsLowAt cell.high (cell_height problem heights cell) (cell_width problem widths cell))
        problem.cells
        (AllByRecursion-weaker (λ cell. (cell.low ≡ cell.high) ×
        IsLowAt cell.low (cell_height problem heights cell) (cell_width problem widths cell))
        (λ cell. IsLowAt cell.high (cell_height problem heights cell) (cell_width problem widths cell)) problem.cells
        (λ cell both. subst (λ steps. IsLowAt steps (cell_height problem heights cell) (cell_width problem widths cell))
        both.0 both.1)
        (both_each (λ cell. cell.low ≡ cell.high) (λ cell. IsLowAt cell.low (cell_height problem heights cell)
        (cell_width problem widths cell))
        problem.cells same
        (recursion_from_All (λ cell. IsLowAt cell.low (cell_height problem heights cell) (cell_width problem widths cell))
        problem.cells
        laid.enough.cells)));
  };
}

module _ (table : Table) (style : Style) (page : ℕ) (inner : List InnerSteps) (problem : ProblemModel)
    (of : IsProblemOf table style page inner problem) (sound : IsSound problem) (below : LowIsBelow table style page inner)
    (above : HighIsAbove table style page inner) (meet : BoundsMeet table page inner) where
  abbrev low_needs : Table → ℕ → ℕ → Type 0
  low_needs = InnerNeeds (λ one. one.low) inner

  abbrev high_needs : Table → ℕ → ℕ → Type 0
  high_needs = InnerNeeds (λ one. one.high) inner

  pub is-true : IsTrueProblem table style page problem
  is-true =
      real-problem low_needs high_needs (inner-functional (λ one. one.low) inner) (inner-functional (λ one. one.high) inner)
      style page table problem of
      (AllByRecursion-weaker (λ nested. IsBelowLayouts low_needs style page nested × (IsAboveLayouts high_needs style page nested
      × ((w h : ℕ) → w ≤ page → low_needs nested w h → high_needs nested w h)))
      (Meet low_needs high_needs (inner-functional (λ one. one.low) inner) (inner-functional (λ one. one.high) inner) style page)
      (inner_tables (out-Table table)) (λ nested all. record { below = all.0; above = all.1.0; same = all.1.1 })
      (both_each (IsBelowLayouts low_needs style page) (λ nested. IsAboveLayouts high_needs style page nested
      × ((w h : ℕ) → w ≤ page → low_needs nested w h → high_needs nested w h)) (inner_tables (out-Table table)) below
      (both_each (IsAboveLayouts high_needs style page) (λ nested. (w h : ℕ) → w ≤ page → low_needs nested w h →
      high_needs nested w h)
      (inner_tables (out-Table table)) above meet)))

  as-high : (height : ℕ) (layout : Layout) → Fits table style page height layout →
      (widths heights : List ℕ) × IsLayoutByHigh problem widths heights × (total_height problem heights ≡ height)
  as-high height layout held =
      let low = fits-low low_needs high_needs table style page problem of sound below height layout held in (
        (out-Layout layout).widths,
        (out-Layout layout).heights,
        low-is-high problem (out-Layout layout).widths (out-Layout layout).heights
            (true-low-is-high table style page problem is-true) low.0,
        low.1,
      )

  as-layout : (widths heights : List ℕ) → IsLayoutByHigh problem widths heights →
      (layout : Layout) × Fits table style page (total_height problem heights) layout
  as-layout widths heights laid =
      let made = high-fits low_needs high_needs table style page problem of sound above widths heights laid in (
        made.0,
        Fits-wider style table (total_width problem widths) page (total_height problem heights) made.0
            (omega (arith, laid.page.page, of.wide)) made.1,
      )

  pub least-there : (height : ℕ) → IsLeastByHigh problem height → IsLeastHeight table style page height
  least-there height least =
      let made = as-layout least.attained.0 least.attained.1 least.attained.2 in record {
        attained = (made.0, subst (λ h. Fits table style page h made.0) least.attained.3 made.1);
        least = λ other layout held.
            let high = as-high other layout held in
            omega (arith, least.least high.0 high.1 high.2, high.3);
      }

  pub least-back : (height : ℕ) → IsLeastHeight table style page height → IsLeastByHigh problem height
  least-back height least = record {
    attained = as-high height least.attained.0 least.attained.1;
    least = λ widths heights laid. let made = as-layout widths heights laid in
        least.least (total_height problem heights) made.0 made.1;
  }
