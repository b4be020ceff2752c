-- Layouts of a table and of its problem: a layout that fits is one by bounds below, and one by bounds above is one that
-- fits.
use Rattle.tl_base.specs.declared.spacing.Spacing.{Spacing}
use Rattle.std.proofs.Common.{◌≡◌, ℕ, ◌+◌, ◌-◌, ◌<◌, ◌≤◌, List, [], ◌∷◌, length, Some, sum, sum_by, refl, sym, ap, subst, ◌∙◌, arith}
use Rattle.std.specs.List.{All, AllZip, AllByRecursion, flat_map}
use Rattle.std.proofs.lemmas.List.Elements.{recursion_from_All, All-from_recursion}
use Rattle.std.proofs.lemmas.List.Sums.{sum_by-cons}
use Rattle.tl_base.specs.declared.style.Style.{Style}
use Rattle.tl_base.specs.Style.{gap_of, row_gap_of, edges_of}
use Rattle.tl_base.specs.Steps.{AreSteps, IsLowAt, first_width, height_at}
use Rattle.tl_base.proofs.Sums.{sum-cons}
use Rattle.tl_base.proofs.Members.{AllByRecursion-weaker}
use Rattle.tl_problem.specs.declared.cell.Cell.{Cell}
use Rattle.tl_base.specs.Sizes.{room, total}
use Rattle.tl_problem.specs.Problem.{ProblemModel, total_height, total_width}
use Rattle.tl_problem.specs.Layouts.{IsLayoutByLow, IsLayoutByHigh}
use Rattle.tl_problem.specs.Sound.{IsSound, IsSoundCell}
use Rattle.tl_problem.proofs.Heights.{IsLowAt-from, IsLowAt-higher, height-from_low}
use Rattle.tl_base.proofs.SizeLaws.{room-total}
use Rattle.tl_text.proofs.Minimals.{AllFit-from_cutting}
use Rattle.tl_table.specs.declared.cell.Content.{Content, out-Content}
use Rattle.tl_table.specs.declared.cell.Content.TheOpen as open_content
use Rattle.tl_table.specs.declared.cell.Table.{Table}
use Rattle.tl_table.specs.declared.cell.TableCell.{TableCell, out-TableCell}
use Rattle.tl_table.specs.declared.layout.Layout.{Layout}
use Rattle.tl_table.specs.Tables.{OpenTable, OpenCell, OpenContent, inner_tables, tables_in, tables_of}
use Rattle.tl_table.specs.Layouts.{OpenLayout, Share, FitsBy, FitsCell, FitsRoom, FitsShare, lines_of}
use Rattle.tl_form.specs.Problems.{BlockNeeds, CellNeeds, IsCellBy, IsProblemBy, inside_of}
use Rattle.tl_form.proofs.NeedSteps.{first-least}
use Rattle.tl_form.proofs.ParagraphSteps.{lines-from_fit}
use Rattle.tl_table.proofs.SoundParts.{both_each, each_joined}

-- ---- a cell that fits a room needs no more than the room has, by bounds below

-- a nested table that fits has a bound there, no higher
abbrev pub IsBelowAt : (Table → ℕ → ℕ → Layout → Type 0) → (Table → ℕ → ℕ → Type 0) → ℕ → Table → Type 0
IsBelowAt fits needs w nested = (height : ℕ) (layout : Layout) → fits nested w height layout →
    (h : ℕ) × needs nested w h × (h ≤ height)

-- a nested table with a bound fits, and is no higher
abbrev pub IsAboveAt : (Table → ℕ → ℕ → Layout → Type 0) → (Table → ℕ → ℕ → Type 0) → ℕ → Table → Type 0
IsAboveAt fits needs w nested = (h : ℕ) → needs nested w h →
    (height : ℕ) × (layout : Layout) × fits nested w height layout × (height ≤ h)

module _ (fits : Table → ℕ → ℕ → Layout → Type 0) (needs : Table → ℕ → ℕ → Type 0) (w : ℕ) where
  block-below : (block : OpenContent) (share : Share) → AllByRecursion (IsBelowAt fits needs w) (tables_of block) →
      FitsShare fits w block share →
      (h : ℕ) × BlockNeeds needs block w h × (h ≤ share.height)
  block-below (open_content.Para paragraph) share below held =
      let cut = held.0 in
      let lines = lines-from_fit w paragraph (AllFit-from_cutting w paragraph (cut.0, cut.1, cut.2)) in
      (lines.0, lines.1, omega (arith, cut.3, lines.1.least cut.0 cut.1 cut.2))
  block-below (open_content.Table box) share below held =
      let bound = below.0 held.height held.layout held.laid in
      (bound.0, bound.1, omega (arith, bound.2, held.within))

  blocks-below : (blocks : List Content) (shares : List Share) →
      AllByRecursion (λ block. AllByRecursion (IsBelowAt fits needs w) (tables_of (out-Content block))) blocks →
      AllZip (λ block share. FitsShare fits w (out-Content block) share) blocks shares →
      (heights : List ℕ) × AllZip (λ block height. BlockNeeds needs (out-Content block) w height) blocks heights
      × (sum heights ≤ sum_by (λ share. share.height) shares)
  blocks-below [] [] below held = ([], tt, omega arith)
  blocks-below [] (share ∷ shares) below held = absurd held
  blocks-below (block ∷ blocks) [] below held = absurd held
  blocks-below (block ∷ blocks) (share ∷ shares) below held =
      let first = block-below (out-Content block) share below.0 held.0 in
      let rest = blocks-below blocks shares below.1 held.1 in (
        first.0 ∷ rest.0,
        (first.1, rest.1),
        omega (arith, sum-cons first.0 rest.0, sum_by-cons (λ (one : Share). one.height) share shares, first.2, rest.2),
      )

  pub cell-below : (inside : ℕ) (cell : OpenCell) (h : ℕ) (inner : List Layout) →
      AllByRecursion (IsBelowAt fits needs w) (tables_in cell) → FitsRoom fits w h cell inner →
      (n : ℕ) × CellNeeds needs inside cell w n × (n ≤ h - inside)
  cell-below inside cell h inner below held =
      let all = blocks-below cell.blocks held.shares
      (each_joined (IsBelowAt fits needs w) (λ block. tables_of (out-Content block)) cell.blocks below) held.blocks in (
        sum all.0 - inside,
        record { floor = held.floor; heights = all.0; blocks = all.1; all = refl },
        omega (arith, all.2, held.within),
      )

  -- ---- a cell fits a room in which it has a bound above

  block-above : (block : OpenContent) (h : ℕ) → AllByRecursion (IsAboveAt fits needs w) (tables_of block) →
      BlockNeeds needs block w h →
      (share : Share) × FitsShare fits w block share × (share.height ≡ h)
  block-above (open_content.Para paragraph) h above need =
      let cut = need.attained in (
        record { height = h; inner = [] },
        ((cut.0, cut.1, cut.2, omega (arith, cut.3)), refl),
        refl,
      )
  block-above (open_content.Table box) h above need =
      let one = above.0 h need in (
        record { height = h; inner = one.1 ∷ [] },
        record { layout = one.1; height = one.0; laid = one.2; within = one.3; given = refl },
        refl,
      )

  blocks-above : (blocks : List Content) (heights : List ℕ) →
      AllByRecursion (λ block. AllByRecursion (IsAboveAt fits needs w) (tables_of (out-Content block))) blocks →
      AllZip (λ block height. BlockNeeds needs (out-Content block) w height) blocks heights →
      (shares : List Share) × AllZip (λ block share. FitsShare fits w (out-Content block) share) blocks shares
      × (sum_by (λ share. share.height) shares ≡ sum heights)
  blocks-above [] [] above need = ([], tt, refl)
  blocks-above [] (h ∷ heights) above need = absurd need
  blocks-above (block ∷ blocks) [] above need = absurd need
  blocks-above (block ∷ blocks) (h ∷ heights) above need =
      let first = block-above (out-Content block) h above.0 need.0 in
      let rest = blocks-above blocks heights above.1 need.1 in (
        first.0 ∷ rest.0,
        (first.1, rest.1),
        omega (arith, sum-cons h heights, sum_by-cons (λ (one : Share). one.height) first.0 rest.0, first.2, rest.2),
      )

  pub cell-above : (inside : ℕ) (cell : OpenCell) (n h : ℕ) → AllByRecursion (IsAboveAt fits needs w) (tables_in cell) →
      CellNeeds needs inside cell w n → n + inside ≤ h →
      (inner : List Layout) × FitsRoom fits w h cell inner
  cell-above inside cell n h above need enough =
      let all = blocks-above cell.blocks need.heights
      (each_joined (IsAboveAt fits needs w) (λ block. tables_of (out-Content block)) cell.blocks above) need.blocks in (
        flat_map (λ share. share.inner) all.0,
        record {
          floor = need.floor;
          shares = all.0;
          blocks = all.1;
          within = omega (arith, all.2, need.all, enough);
          given =
              refl;
        },
      )

-- ---- layouts of the table are layouts of its problem by bounds below

module _ (lows highs : Table → ℕ → ℕ → Type 0) (style : Style) (page : ℕ) (table : OpenTable) where
  abbrev CellOf : TableCell → Cell → Type 0
  CellOf cell made = IsCellBy lows highs page (inside_of style table cell) (out-TableCell cell) made

  -- at these widths and heights a cell has a height by its steps, within its room
  abbrev HasRoom : (List ℕ) → (List ℕ) → Cell → Type 0
  HasRoom widths heights made = (n : ℕ) × (height_at made.low (room (gap_of style) widths made.left made.right) ≡ Some n)
      × (n ≤ room (row_gap_of style) heights made.top made.bottom)

  cells-low : (fits : Table → ℕ → ℕ → Layout → Type 0) (layout : OpenLayout) (cells : List TableCell) (made : List Cell)
      (parts : List (List Layout)) →
      AllZip CellOf cells made → AllByRecursion (λ one. (one.left < one.right) × (one.right ≤ length layout.widths)) made →
      total (gap_of style) (edges_of style) layout.widths ≤ page →
      AllByRecursion (λ cell. AllByRecursion (λ nested. (w : ℕ) → w ≤ page →
      IsBelowAt fits lows w nested) (tables_in (out-TableCell cell))) cells →
      AllZip (λ cell inner. FitsCell fits style table layout (out-TableCell cell) inner) cells parts →
      AllByRecursion (HasRoom layout.widths layout.heights) made
  cells-low fits layout [] [] parts of placed narrow below held = tt
  cells-low fits layout [] (one ∷ made) parts of placed narrow below held = absurd of
  cells-low fits layout (cell ∷ cells) [] parts of placed narrow below held = absurd of
  cells-low fits layout (cell ∷ cells) (one ∷ made) [] of placed narrow below held = absurd held
  cells-low fits layout (cell ∷ cells) (one ∷ made) (inner ∷ parts) of placed narrow below held =
      let open_cell = out-TableCell cell in
      let w = room (gap_of style) layout.widths open_cell.place.left open_cell.place.right in
      let h = room (row_gap_of style) layout.heights open_cell.place.top open_cell.place.bottom in
      let same : room (gap_of style) layout.widths one.left one.right ≡ w =
      ap (λ left. room (gap_of style) layout.widths left one.right) of.0.left
      ∙ ap (λ right. room (gap_of style) layout.widths open_cell.place.left right) of.0.right in
      let high : room (row_gap_of style) layout.heights one.top one.bottom ≡ h =
      ap (λ top. room (row_gap_of style) layout.heights top one.bottom) of.0.top
      ∙ ap (λ bottom. room (row_gap_of style) layout.heights open_cell.place.top bottom) of.0.bottom in
      let within : w ≤ page =
      omega (
        arith,
        same,
        room-total (gap_of style) (edges_of style) layout.widths one.left one.right placed.0.0 placed.0.1,
        narrow,
      ) in
      let lines = inside_of style table cell in
      let need = cell-below fits lows w lines open_cell (h + lines) inner
      (at-width (tables_in open_cell) w within below.0) held.0 in (
        (
          need.0,
          ap (height_at one.low) same ∙ (of.0.low.each w need.0 within).1 need.1,
          omega (arith, high, need.2),
        ),
        cells-low fits layout cells made parts of.1 placed.1 narrow below.1 held.1,
      )
    where
      at-width : (tables : List Table) (w : ℕ) → w ≤ page → AllByRecursion (λ nested. (v : ℕ) → v ≤ page →
          IsBelowAt fits lows v nested) tables →
          AllByRecursion (IsBelowAt fits lows w) tables
      at-width [] w within all = tt
      at-width (table ∷ tables) w within all = (all.0 w within, at-width tables w within all.1)

  -- each cell lies in the grid
  abbrev pub AreInGrid : ProblemModel → Type 0
  AreInGrid problem = AllByRecursion (λ one. (one.left < one.right) × (one.right ≤ problem.cols)) problem.cells

  pub sound-in_grid : (problem : ProblemModel) → IsSound problem → AreInGrid problem
  sound-in_grid problem sound =
      AllByRecursion-weaker (IsSoundCell problem) (λ one. (one.left < one.right) × (one.right ≤ problem.cols)) problem.cells
      (λ one is. is.columns)
      (recursion_from_All (IsSoundCell problem) problem.cells sound.cells)

  placed-in : (problem : ProblemModel) (widths : List ℕ) → AreInGrid problem → length widths ≡ problem.cols →
      AllByRecursion (λ one. (one.left < one.right) × (one.right ≤ length widths)) problem.cells
  placed-in problem widths placed columns =
      AllByRecursion-weaker (λ one. (one.left < one.right) × (one.right ≤ problem.cols))
      (λ one. (one.left < one.right) × (one.right ≤ length widths)) problem.cells
      (λ one is. (is.0, omega (arith, is.1, columns))) placed

  -- each cell's `low` is steps
  low-steps : (cells : List TableCell) (made : List Cell) → AllZip CellOf cells made →
      AllByRecursion (λ one. AreSteps one.low) made
  low-steps [] [] of = tt
  low-steps [] (one ∷ made) of = absurd of
  low-steps (cell ∷ cells) [] of = absurd of
  low-steps (cell ∷ cells) (one ∷ made) of = (of.0.low.decreasing, low-steps cells made of.1)

  -- a layout of the table is one of the problem by `low`
  pub layout-low : (problem : ProblemModel) → IsProblemBy lows highs style page table problem →
      AreInGrid problem →
      (fits : Table → ℕ → ℕ → Layout → Type 0) →
      AllByRecursion (λ nested. (w : ℕ) → w ≤ page → IsBelowAt fits lows w nested) (inner_tables table) →
      (height : ℕ) (layout : OpenLayout) → FitsBy fits style table page height layout →
      IsLayoutByLow problem layout.widths layout.heights × (total_height problem layout.heights ≡ height)
  layout-low problem of placed fits below height layout held = (
    record {
      page = record {
        columns = held.columns ∙ sym of.columns;
        page = subst (λ (s : Spacing). total s.gap s.edges layout.widths ≤ problem.width) (sym of.spaced)
            (subst (λ w. total (gap_of style) (edges_of style) layout.widths ≤ w) (sym of.wide) held.within);
        cells = subst (λ (s : Spacing). All (λ one. first_width one.low ≤ room s.gap layout.widths one.left one.right) problem.cells)
            (sym of.spaced)
            (All-from_recursion (λ one. first_width one.low ≤ room (gap_of style) layout.widths one.left one.right) problem.cells
            (AllByRecursion-weaker (λ one. AreSteps one.low × HasRoom layout.widths layout.heights one)
            (λ one. first_width one.low ≤ room (gap_of style) layout.widths one.left one.right) problem.cells
            (λ one both. first-least one.low both.0 (room (gap_of style) layout.widths one.left one.right) both.1.0 both.1.1)
            both));
      };
      enough = record {
        rows = held.rows ∙ sym of.lines;
        cells = subst (λ (s : Spacing). All (λ one. IsLowAt one.low (room s.row_gap layout.heights one.top one.bottom)
            (room s.gap layout.widths one.left one.right)) problem.cells) (sym of.spaced)
            (All-from_recursion (λ one. IsLowAt one.low (room (row_gap_of style) layout.heights one.top one.bottom)
            (room (gap_of style) layout.widths one.left one.right)) problem.cells
            (AllByRecursion-weaker (HasRoom layout.widths layout.heights)
            (λ one. IsLowAt one.low (room (row_gap_of style) layout.heights one.top one.bottom)
            (room (gap_of style) layout.widths one.left one.right))
            problem.cells
            (λ one has. IsLowAt-higher one.low has.0 (room (row_gap_of style) layout.heights one.top one.bottom)
            (room (gap_of style) layout.widths one.left one.right) has.2
            (IsLowAt-from one.low has.0 (room (gap_of style) layout.widths one.left one.right) has.1)) rooms));
      };
    },
    subst (λ (s : Spacing). total s.row_gap s.lines layout.heights ≡ height) (sym of.spaced) held.high,
  ) where
    rooms : AllByRecursion (HasRoom layout.widths layout.heights) problem.cells
    rooms = cells-low fits layout table.cells problem.cells held.parts of.made
        (placed-in problem layout.widths placed (held.columns ∙ sym of.columns)) held.within
        (each_joined (λ nested. (w : ℕ) → w ≤ page → IsBelowAt fits lows w nested) (λ cell. tables_in (out-TableCell cell))
        table.cells below)
        held.cells

    both : AllByRecursion (λ one. AreSteps one.low × HasRoom layout.widths layout.heights one) problem.cells
    both = both_each (λ one. AreSteps one.low) (HasRoom layout.widths layout.heights) problem.cells
        (low-steps table.cells problem.cells of.made) rooms

  -- ---- layouts of the problem by bounds above are those of layouts of the table

  -- at these widths and heights a cell's `high` is within its room, which is no wider than the page
  abbrev IsEnough : (List ℕ) → (List ℕ) → Cell → Type 0
  IsEnough widths heights made = (room (gap_of style) widths made.left made.right ≤ page)
      × IsLowAt made.high (room (row_gap_of style) heights made.top made.bottom) (room (gap_of style) widths made.left made.right)

  cells-high : (fits : Table → ℕ → ℕ → Layout → Type 0) (widths heights : List ℕ) (cells : List TableCell) (made : List Cell) →
      AllZip CellOf cells made →
      AllByRecursion (IsEnough widths heights) made →
      AllByRecursion (λ cell. AllByRecursion (λ nested. (w : ℕ) → w ≤ page →
      IsAboveAt fits highs w nested) (tables_in (out-TableCell cell))) cells →
      (parts : List (List Layout)) × AllZip (λ cell inner. FitsRoom fits
      (room (gap_of style) widths (out-TableCell cell).place.left (out-TableCell cell).place.right)
      (room (row_gap_of style) heights (out-TableCell cell).place.top (out-TableCell cell).place.bottom + inside_of style table cell)
      (out-TableCell cell) inner) cells parts
  cells-high fits widths heights [] [] of enough above = ([], tt)
  cells-high fits widths heights [] (one ∷ made) of enough above = absurd of
  cells-high fits widths heights (cell ∷ cells) [] of enough above = absurd of
  cells-high fits widths heights (cell ∷ cells) (one ∷ made) of enough above =
      let open_cell = out-TableCell cell in
      let w = room (gap_of style) widths open_cell.place.left open_cell.place.right in
      let h = room (row_gap_of style) heights open_cell.place.top open_cell.place.bottom in
      let same : room (gap_of style) widths one.left one.right ≡ w =
      ap (λ left. room (gap_of style) widths left one.right) of.0.left ∙ ap
      (λ right. room (gap_of style) widths open_cell.place.left right) of.0.right in
      let high : room (row_gap_of style) heights one.top one.bottom ≡ h =
      ap (λ top. room (row_gap_of style) heights top one.bottom) of.0.top
      ∙ ap (λ bottom. room (row_gap_of style) heights open_cell.place.top bottom) of.0.bottom in
      let within : w ≤ page = omega (arith, same, enough.0.0) in
      let low = height-from_low one.high (room (row_gap_of style) heights one.top one.bottom)
      (room (gap_of style) widths one.left one.right) enough.0.1 in
      let need = (of.0.high.each w low.0 within).0 (ap (height_at one.high) (sym same) ∙ low.1) in
      let lines = inside_of style table cell in
      let first = cell-above fits highs w lines open_cell low.0 (h + lines) (at-width (tables_in open_cell) w within above.0) need
      (omega (arith, high, low.2)) in
      let rest = cells-high fits widths heights cells made of.1 enough.1 above.1 in
      (first.0 ∷ rest.0, (first.1, rest.1))
    where
      at-width : (tables : List Table) (w : ℕ) → w ≤ page → AllByRecursion (λ nested. (v : ℕ) → v ≤ page →
          IsAboveAt fits highs v nested) tables →
          AllByRecursion (IsAboveAt fits highs w) tables
      at-width [] w within all = tt
      at-width (table ∷ tables) w within all = (all.0 w within, at-width tables w within all.1)

  -- the widths and heights of a layout of the problem by `high` are those of a layout of the table
  pub layout-high : (problem : ProblemModel) → IsProblemBy lows highs style page table problem →
      AreInGrid problem →
      (fits : Table → ℕ → ℕ → Layout → Type 0) →
      AllByRecursion (λ nested. (w : ℕ) → w ≤ page → IsAboveAt fits highs w nested) (inner_tables table) →
      (widths heights : List ℕ) → IsLayoutByHigh problem widths heights →
      (inner : List Layout) × FitsBy fits style table (total_width problem widths) (total_height problem heights)
      (record { widths = widths; heights = heights; inner = inner })
  layout-high problem of placed fits above widths heights laid = (
    flat_map (λ inner. inner) found.0,
    record {
      columns = laid.page.columns ∙ of.columns;
      rows = laid.enough.rows ∙ of.lines;
      within = subst (λ (s : Spacing). total (gap_of style) (edges_of style) widths ≤ total s.gap s.edges widths) (sym of.spaced)
          (omega arith);
      high = subst (λ (s : Spacing). total (row_gap_of style) (lines_of style table) heights ≡ total s.row_gap s.lines heights)
          (sym of.spaced) refl;
      parts = found.0;
      cells = found.1;
      given = refl;
    },
  ) where
    narrow : total (gap_of style) (edges_of style) widths ≤ page
    narrow = subst (λ w. total (gap_of style) (edges_of style) widths ≤ w) of.wide
        (subst (λ (s : Spacing). total s.gap s.edges widths ≤ problem.width) of.spaced laid.page.page)

    low : AllByRecursion (λ one. IsLowAt one.high (room (row_gap_of style) heights one.top one.bottom)
        (room (gap_of style) widths one.left one.right))
        problem.cells
    low = recursion_from_All (λ one. IsLowAt one.high (room (row_gap_of style) heights one.top one.bottom)
        (room (gap_of style) widths one.left one.right)) problem.cells
        (subst (λ (s : Spacing). All (λ one. IsLowAt one.high (room s.row_gap heights one.top one.bottom)
        (room s.gap widths one.left one.right))
        problem.cells) of.spaced laid.enough.cells)

    enough : AllByRecursion (IsEnough widths heights) problem.cells
    enough =
        AllByRecursion-weaker (λ one. ((one.left < one.right) × (one.right ≤ length widths))
        × IsLowAt one.high (room (row_gap_of style) heights one.top one.bottom) (room (gap_of style) widths one.left one.right))
        (IsEnough widths heights) problem.cells
        (λ one both. (
          omega (
            arith,
            room-total (gap_of style) (edges_of style) widths one.left one.right both.0.0 both.0.1,
            narrow,
          ),
          both.1,
        ))
        (both_each (λ one. (one.left < one.right) × (one.right ≤ length widths))
        (λ one. IsLowAt one.high (room (row_gap_of style) heights one.top one.bottom)
        (room (gap_of style) widths one.left one.right)) problem.cells
        (placed-in problem widths placed laid.page.columns) low)

    found : (parts : List (List Layout)) × AllZip (λ cell inner. FitsRoom fits
        (room (gap_of style) widths (out-TableCell cell).place.left (out-TableCell cell).place.right)
        (room (row_gap_of style) heights (out-TableCell cell).place.top (out-TableCell cell).place.bottom
        + inside_of style table cell) (out-TableCell cell) inner) table.cells parts
    found = cells-high fits widths heights table.cells problem.cells of.made enough
        (each_joined (λ nested. (w : ℕ) → w ≤ page → IsAboveAt fits highs w nested) (λ cell. tables_in (out-TableCell cell))
        table.cells above)
