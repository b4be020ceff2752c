-- Rows of cells over at most six columns, each cell one row high, form a grid: no two cells share a slot, and it is no
-- wider than six columns.
use Rattle.std.proofs.Common.{◌≡◌, ℕ, zero, suc, ◌+◌, ◌-◌, ◌*◌, ◌<◌, ◌≤◌, max, Bool, true, false, ◌&&◌, ◌||◌, cond, ltb, leb, eqb}
use Rattle.std.proofs.Common.{◌⊎◌, List, [], ◌∷◌, ◌++◌}
use Rattle.std.proofs.Common.{map, length, refl, sym, ap, ◌∙◌, subst, inl, inr, arith}
use Rattle.std.specs.List.{AllByRecursion}
use Rattle.std.proofs.lemmas.Bool.{cases_Bool, and_parts, and_right, leb-true, ltb-true, false_from_ne_true}
use Rattle.std.proofs.lemmas.List.{length-append}
use Rattle.std.proofs.lemmas.List.Sums.{sum_by-cons}
use Rattle.tl_base.specs.declared.limits.TheConstants.{MAX_ROWS}
use Rattle.tl_base.proofs.Members.{AllByRecursion-append}
use Rattle.tl_grid.specs.declared.error.GridError.{GridError}
use Rattle.tl_grid.specs.declared.error.GridError.TheVariants.{Memory, TooManyCells, Overlap, TooManyColumns, TooManyRows}
use Rattle.tl_grid.specs.declared.shape.Grid.{Grid}
use Rattle.tl_grid.specs.declared.shape.Shape.{Shape}
use Rattle.tl_grid.specs.declared.shape.ShapeGroup.{ShapeGroup}
use Rattle.tl_grid.specs.declared.shape.SpanOf.{SpanOf}
use Rattle.tl_grid.specs.Dropping.{count_below, keeps_column, keeps_row}
use Rattle.tl_grid.specs.Form.{HasGrid, LacksGrid}
use Rattle.tl_grid.specs.Forming.{Forming, covers, has_cell, first_free, anchored_cell, with_cell, form_cells, grown_into}
use Rattle.tl_grid.specs.Forming.{begin_row}
use Rattle.tl_grid.specs.Forming.{form_row, form_rows}
use Rattle.tl_grid.specs.Forming.{at_group_end, no_cells, formed, cells_in}
use Rattle.tl_grid.specs.Forming as forming
use Rattle.tl_grid.specs.Overlap.{HasNoOverlap, numbers_over, cells_over}
use Rattle.tl_grid.specs.Shapes.{IsSpan}
use Rattle.tl_grid.proofs.Cells.{IsQuiet, AllQuiet, quiet_none, numbers-append, number_of, or_false, first_free_is, some_map}
use Rattle.tl_grid.proofs.Chains.{filter_yes, filter_no}
use Rattle.tl_grid.proofs.Groups.{quiet_on}
use Rattle.tl_grid.proofs.Passing.{some, any_is_some}
use Rattle.tl_grid.proofs.Results.{decided}
use Rattle.tl_demo.specs.Demo.{DemoCell}
use Rattle.tl_demo.proofs.DrawnRows.{IsDrawnCell, IsDrawnRow, columns_of, some_columns, few_columns}

-- the spans of a cell
abbrev pub span_in : DemoCell → SpanOf
span_in c = record { colspan = c.colspan; rowspan = 1 }

-- the rows in one group, with no columns of their own
abbrev pub shape_in : List (List DemoCell) → Shape
shape_in rows = record { columns = 0; groups = record { foot = false; rows = map (map span_in) rows } ∷ [] }

-- ---- a cell one row high

-- which slots a cell of one row covers
covers_only : (number x y colspan x' y' : ℕ) →
    covers x' y' (anchored_cell number x y (record { colspan = colspan; rowspan = 1 })) ≡ true →
    (x ≤ x') × (x' < x + colspan) × (y' ≡ y)
covers_only number x y colspan x' y' is =
    let both = and_parts (leb x x' && ltb x' (x + colspan)) (leb y y' && ltb y' (y + 1)) is in
    let across = and_parts (leb x x') (ltb x' (x + colspan)) both.0 in
    let down = and_parts (leb y y') (ltb y' (y + 1)) both.1 in
    let from = leb-true y y' down.0 in
    let to = ltb-true y' (y + 1) down.1 in
    (leb-true x x' across.0, ltb-true x' (x + colspan) across.1, omega (arith, from, to))

-- a cell of one row covers no slot beside its columns or outside its row
covers_none : (number x y colspan x' y' : ℕ) → ((x ≤ x') × (x' < x + colspan) × (y' ≡ y) → ⊥) →
    covers x' y' (anchored_cell number x y (record { colspan = colspan; rowspan = 1 })) ≡ false
covers_none number x y colspan x' y' not =
    false_from_ne_true (covers x' y' (anchored_cell number x y (record { colspan = colspan; rowspan = 1 })))
    (λ is. not (covers_only number x y colspan x' y' is))

-- a cell of one row covers no row below its own
one_row_quiet : (number x y colspan : ℕ) → IsQuiet (y + 1) (anchored_cell number x y (record { colspan = colspan; rowspan = 1 }))
one_row_quiet number x y colspan = record {
  still = refl;
  above = λ row below. and_right (leb y row) (ltb row (y + 1)) (false_from_ne_true (ltb row (y + 1))
      (λ is. let under = ltb-true row (y + 1) is in omega (arith, below, under)));
}

-- ---- a row

-- the state within row y, where the columns from x on are free there
record RowAt (y x : ℕ) (s : Forming) : Type 0 where
  row : s.row ≡ y
  width : s.width ≤ 6
  height : s.height ≤ y + 1
  low : AllQuiet (y + 1) s.cells
  one : HasNoOverlap s.cells
  free : (x' : ℕ) → x ≤ x' → numbers_over x' y s.cells ≡ []

-- a cell of that colspan, one row high
abbrev cell_with : ℕ → ℕ → ℕ → ℕ → forming.FormedCell
cell_with number x y colspan = anchored_cell number x y (record { colspan = colspan; rowspan = 1 })

-- a slot has one cell more where the new cell covers it
over_pushed : (x' y' : ℕ) (cells : List forming.FormedCell) (c : forming.FormedCell) →
    length (numbers_over x' y' (cells ++ c ∷ [])) ≡ length (numbers_over x' y' cells) + length (numbers_over x' y' (c ∷ []))
over_pushed x' y' cells c = ap length (numbers-append x' y' cells (c ∷ [])) ∙ length-append (numbers_over x' y' cells)
    (numbers_over x' y' (c ∷ []))

-- a cell that does not cover the slot adds none to it
over_none : (x' y' : ℕ) (c : forming.FormedCell) → covers x' y' c ≡ false → numbers_over x' y' (c ∷ []) ≡ []
over_none x' y' c not = ap (map number_of) (filter_no (covers x' y') c [] not)

-- a cell adds at most one
over_one : (x' y' : ℕ) (c : forming.FormedCell) → length (numbers_over x' y' (c ∷ [])) ≤ 1
over_one x' y' c = by_test (cases_Bool (covers x' y' c))
  where
    by_test : (covers x' y' c ≡ true) ⊎ (covers x' y' c ≡ false) → length (numbers_over x' y' (c ∷ [])) ≤ 1
    by_test (inl is) =
        let same : length (numbers_over x' y' (c ∷ [])) ≡ 1 =
        ap (λ cs. length (map number_of cs)) (filter_yes (covers x' y') c [] is) in
        omega (arith, same)
    by_test (inr not) = let none : length (numbers_over x' y' (c ∷ [])) ≡ 0 = ap length (over_none x' y' c not) in
        omega (arith, none)

-- a cell in free columns shares no slot
pushed_one : (number y x colspan : ℕ) (cells : List forming.FormedCell) → HasNoOverlap cells →
    ((x' : ℕ) → x ≤ x' → numbers_over x' y cells ≡ []) → HasNoOverlap (cells ++ cell_with number x y colspan ∷ [])
pushed_one number y x colspan cells one free x' y' = by_test (cases_Bool (covers x' y' c))
  where
    c : forming.FormedCell
    c = cell_with number x y colspan

    by_test : (covers x' y' c ≡ true) ⊎ (covers x' y' c ≡ false) → length (numbers_over x' y' (cells ++ c ∷ [])) ≤ 1
    by_test (inl is) =
        let at = covers_only number x y colspan x' y' is in
        let none : length (numbers_over x' y' cells) ≡ 0 = ap (λ row. length (numbers_over x' row cells)) at.2 ∙ ap length
        (free x' at.0) in
        omega (arith, over_pushed x' y' cells c, none, over_one x' y' c)
    by_test (inr not) =
        let none : length (numbers_over x' y' (c ∷ [])) ≡ 0 = ap length (over_none x' y' c not) in
        omega (arith, over_pushed x' y' cells c, none, one x' y')

-- the first column from x on is free
begins_at : (y x : ℕ) (s : Forming) → RowAt y x s → first_free (λ column. has_cell column s.row s.cells) x (s.width - x) ≡ x
begins_at y x s state =
    first_free_is (λ column. has_cell column s.row s.cells) (s.width - x) x x (omega arith) (omega arith)
    (λ x' from lt. absurd (omega (arith, from, lt)))
    (ap (λ row. has_cell x row s.cells) state.row
    ∙ any_is_some (covers x y) s.cells ∙ sym (some_map number_of (cells_over x y s.cells)) ∙ ap some (state.free x (omega arith)))

-- after a cell the columns from its end on are free
with_one : (number y x colspan : ℕ) (s : Forming) → x + colspan ≤ 6 → RowAt y x s →
    RowAt y (x + colspan) (with_cell number x (record { colspan = colspan; rowspan = 1 }) s)
with_one number y x colspan s narrow state =
    let cells : List forming.FormedCell = s.cells ++ cell_with number x y colspan ∷ [] in
    let same : s.cells ++ cell_with number x s.row colspan ∷ [] ≡ cells =
    ap (λ row. s.cells ++ cell_with number x row colspan ∷ []) state.row in
    record {
      row = state.row;
      width = let w : max s.width (x + colspan) ≤ 6 = omega (arith, narrow, state.width) in w;
      height = let h : max s.height (s.row + 1) ≤ y + 1 = omega (arith, state.row, state.height) in h;
      low = subst (AllQuiet (y + 1)) (sym same)
          (AllByRecursion-append (IsQuiet (y + 1)) s.cells (cell_with number x y colspan ∷ []) state.low
          (one_row_quiet number x y colspan, tt));
      one = subst HasNoOverlap (sym same) (pushed_one number y x colspan s.cells state.one state.free);
      free = λ x' from.
          ap (numbers_over x' y) same ∙ numbers-append x' y s.cells (cell_with number x y colspan ∷ [])
          ∙ ap (λ (ns : List ℕ). ns ++ numbers_over x' y (cell_with number x y colspan ∷ []))
          (state.free x' (omega (arith, from)))
          ∙ over_none x' y (cell_with number x y colspan) (covers_none number x y colspan x' y (λ at. omega (arith, at.1, from)));
    }

-- all cells of the row are formed
cells_form : (cells : List DemoCell) (number y x : ℕ) (s : Forming) → x + columns_of cells ≤ 6 → RowAt y x s →
    (end : ℕ) × RowAt y end (form_cells number x (map span_in cells) s)
cells_form [] number y x s narrow state = (x, state)
cells_form (c ∷ cells) number y x s narrow state =
    let next = with_one number y x c.colspan s (omega (arith, narrow)) state in
    let rest = cells_form cells (number + 1) y (x + c.colspan) (with_cell number x (span_in c) s) (omega (arith, narrow)) next in
    subst (λ at. (end : ℕ) × RowAt y end (form_cells (number + 1) (at + c.colspan) (map span_in cells)
    (with_cell number at (span_in c) s)))
    (sym (begins_at y x s state)) rest

-- ---- rows

-- the state before row y
record RowsAt (y : ℕ) (s : Forming) : Type 0 where
  row : s.row ≡ y
  width : s.width ≤ 6
  height : s.height ≤ y
  low : AllQuiet y s.cells
  one : HasNoOverlap s.cells

-- a cell that does not grow stays as it is
grown_same : (y z : ℕ) (cells : List forming.FormedCell) → AllQuiet z cells → map (grown_into y) cells ≡ cells
grown_same y z [] quiet = refl
grown_same y z (c ∷ cells) quiet =
    ap (λ (d : forming.FormedCell). d ∷ map (grown_into y) cells) (one c (quiet.0).still)
    ∙ ap (λ (ds : List forming.FormedCell). c ∷ ds)
    (grown_same y z cells quiet.1)
  where
    one : (d : forming.FormedCell) → d.grows ≡ false → grown_into y d ≡ d
    one d still = λ i. record {
      number = d.number;
      left = d.left;
      right = d.right;
      top = d.top;
      rows = λ row. (ap (λ b. d.rows row || (b && eqb row y)) still ∙ or_false (d.rows row)) i;
      grows = d.grows;
    }

-- nor does the end of the group change it
ended_same : (y h z : ℕ) (cells : List forming.FormedCell) → AllQuiet z cells → map (at_group_end y h) cells ≡ cells
ended_same y h z [] quiet = refl
ended_same y h z (c ∷ cells) quiet =
    ap (λ (d : forming.FormedCell). d ∷ map (at_group_end y h) cells) (one c (quiet.0).still)
    ∙ ap (λ (ds : List forming.FormedCell). c ∷ ds) (ended_same y h z cells quiet.1)
  where
    one : (d : forming.FormedCell) → d.grows ≡ false → at_group_end y h d ≡ d
    one d still = λ i. record {
      number = d.number;
      left = d.left;
      right = d.right;
      top = d.top;
      rows = λ row. (ap (λ b. d.rows row || (b && (ltb y row && ltb row h))) still ∙ or_false (d.rows row)) i;
      grows = sym still i;
    }

-- a row begins with all its columns free
row_begins : (y : ℕ) (s : Forming) → RowsAt y s → RowAt y 0 (begin_row s)
row_begins y s state =
    let same : map (grown_into s.row) s.cells ≡ s.cells = grown_same s.row y s.cells state.low in
    record {
      row = state.row;
      width = state.width;
      height = let h : max s.height (s.row + 1) ≤ y + 1 = omega (arith, state.row, state.height) in h;
      low = subst (AllQuiet (y + 1)) (sym same) (quiet_on y (y + 1) (omega arith) s.cells state.low);
      one = subst HasNoOverlap (sym same) state.one;
      free = λ x' from. ap (numbers_over x' y) same ∙ quiet_none x' y y (omega arith) s.cells state.low;
    }

-- a row is formed
row_forms : (cells : List DemoCell) (number y : ℕ) (s : Forming) → columns_of cells ≤ 6 → RowsAt y s →
    RowsAt (y + 1) (form_row number (map span_in cells) s)
row_forms cells number y s narrow state =
    let made = cells_form cells number y 0 (begin_row s) (omega (arith, narrow)) (row_begins y s state) in
    record {
      row = ap (λ n. n + 1) made.1.row;
      width = made.1.width;
      height = made.1.height;
      low = made.1.low;
      one = made.1.one;
    }

-- all rows are formed
rows_form : (rows : List (List DemoCell)) (number y : ℕ) (s : Forming) → AllByRecursion IsDrawnRow rows → RowsAt y s →
    RowsAt (y + length rows) (form_rows number (map (map span_in) rows) s)
rows_form [] number y s all state = subst (λ n. RowsAt n s) (let e : y ≡ y + 0 = omega arith in e) state
rows_form (cells ∷ rows) number y s all state =
    subst (λ n. RowsAt n (form_rows number (map (map span_in) (cells ∷ rows)) s))
    (let e : y + 1 + length rows ≡ y + suc (length rows) = omega arith in e)
    (rows_form rows _ (y + 1) (form_row number (map span_in cells) s) all.1 (row_forms cells number y s (all.0).narrow state))

-- ---- the grid

-- what is formed is narrow and low, and no two cells share a slot
record IsFormed (rows : ℕ) (s : Forming) : Type 0 where
  width : s.width ≤ 6
  height : s.height ≤ rows
  one : HasNoOverlap s.cells

-- the rows are formed
shape_formed : (rows : List (List DemoCell)) → AllByRecursion IsDrawnRow rows → IsFormed (length rows) (formed (shape_in rows))
shape_formed rows all =
    let start : RowsAt 0 (no_cells 0) = record {
      row = refl;
      width = omega arith;
      height = omega arith;
      low = tt;
      one =
          λ x y. omega arith;
    } in
    let made = rows_form rows 0 0 (no_cells 0) all start in
    let last : Forming = form_rows 0 (map (map span_in) rows) (no_cells 0) in
    record {
      width = made.width;
      height = omega (arith, made.height);
      one = subst HasNoOverlap (sym (ended_same last.row last.height (0 + length rows) last.cells made.low)) made.one;
    }

-- no more numbers are kept than there are
pub count_below-le : (keeps : ℕ → Bool) (n : ℕ) → count_below keeps n ≤ n
count_below-le keeps zero = omega arith
count_below-le keeps (suc n) = by_test (keeps n) (count_below-le keeps n)
  where
    by_test : (b : Bool) → count_below keeps n ≤ n → count_below keeps n + cond b 1 0 ≤ suc n
    by_test true le = omega (arith, le)
    by_test false le = omega (arith, le)

-- a row has no more cells than columns
few_in_row : (cells : List DemoCell) → AllByRecursion IsDrawnCell cells → length (map span_in cells) ≤ columns_of cells
few_in_row [] all = omega arith
few_in_row (c ∷ cells) all = omega (arith, some_columns c all.0, few_in_row cells all.1)

-- six cells at most in each row
few_cells : (rows : List (List DemoCell)) → AllByRecursion IsDrawnRow rows → cells_in (map (map span_in) rows) ≤ 6 * length rows
few_cells [] all = omega arith
few_cells (cells ∷ rows) all =
    omega (
      arith,
      sum_by-cons length (map span_in cells) (map (map span_in) rows),
      few_in_row cells (all.0).each,
      (all.0).narrow,
      few_cells rows all.1,
    )

-- the spans are in their ranges
row_spans : (cells : List DemoCell) → AllByRecursion IsDrawnCell cells → AllByRecursion IsSpan (map span_in cells)
row_spans [] all = tt
row_spans (c ∷ cells) all = ((some_columns c all.0, few_columns c all.0, omega arith), row_spans cells all.1)

all_spans : (rows : List (List DemoCell)) → AllByRecursion IsDrawnRow rows →
    AllByRecursion (AllByRecursion IsSpan) (map (map span_in) rows)
all_spans [] all = tt
all_spans (cells ∷ rows) all = (row_spans cells (all.0).each, all_spans rows all.1)

-- no grid of drawn rows is refused
not_refused : (rows : List (List DemoCell)) → AllByRecursion IsDrawnRow rows → length rows ≤ MAX_ROWS → (error : GridError) →
    LacksGrid (shape_in rows) error → ⊥
not_refused rows all few (Memory error) refused = refused
not_refused rows all few (TooManyCells count) refused =
    let one = sum_by-cons (λ (group : ShapeGroup). cells_in group.rows) (record { foot = false; rows = map (map span_in) rows })
    [] in
    omega (arith, refused.counted, refused.many, few_cells rows all, few, one)
not_refused rows all few (Overlap first second x y) refused =
    let made = shape_formed rows all in
    let two = refused.overlap.two in
    let long : length (numbers_over x y (formed (shape_in rows)).cells) ≡ suc (suc (length two.0)) = ap length two.1 in
    omega (arith, long, made.one x y)
not_refused rows all few (TooManyColumns count) refused =
    let made = shape_formed rows all in
    omega (
      arith,
      refused.counted,
      refused.many,
      made.width,
      count_below-le (keeps_column (formed (shape_in rows)).cells) (formed (shape_in rows)).width,
    )
not_refused rows all few (TooManyRows count) refused =
    let made = shape_formed rows all in
    omega (
      arith,
      refused.counted,
      refused.many,
      made.height,
      few,
      count_below-le (keeps_row (formed (shape_in rows)).cells) (formed (shape_in rows)).height,
    )

-- the rows have a grid, of at most six columns
pub has_grid : (rows : List (List DemoCell)) → AllByRecursion IsDrawnRow rows → length rows ≤ MAX_ROWS →
    (grid : Grid) × (HasGrid (shape_in rows) grid × (grid.cols ≤ 6))
has_grid rows all few = from (decided (shape_in rows) (all_spans rows all, tt))
  where
    from : ((grid : Grid) × HasGrid (shape_in rows) grid) ⊎ ((error : GridError) × LacksGrid (shape_in rows) error) →
        (grid : Grid) × (HasGrid (shape_in rows) grid × (grid.cols ≤ 6))
    from (inl found) = (
      found.0,
      (
        found.1,
        (let made = shape_formed rows all in
            omega (
              arith,
              found.1.columns,
              made.width,
              count_below-le (keeps_column (formed (shape_in rows)).cells)
                  (formed (shape_in rows)).width,
            )),
      ),
    )
    from (inr refused) = absurd (not_refused rows all few refused.0 refused.1)
