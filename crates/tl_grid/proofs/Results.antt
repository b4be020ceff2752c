-- The results of `form`: which walk gives which, that they exclude one another, and that each table
-- has one (`decided`).
use Rattle.std.proofs.Common.{◌≡◌, ℕ, ◌<◌, ◌≤◌, suc, Bool, List, [], ◌∷◌, fold, replicate, length, Result, Ok, Err, Some, refl}
use Rattle.std.proofs.Common.{sym, ap, ◌∙◌, subst, inl, inr, ◌⊎◌, arith}
use Rattle.std.specs.Prelude.{alloc_error, slice_get, slice_set, IfOk, IfErr}
use Rattle.std.specs.List.{AllByRecursion}
use Rattle.std.specs.List.Sorted.{IsStrictlyIncreasing}
use Rattle.std.proofs.lemmas.Bool.{cases_lt, cases_order}
use Rattle.std.proofs.lemmas.List.{length-replicate}
use Rattle.tl_base.specs.Returned.{ReturnsOk, ReturnsError, IsMemoryOr}
use Rattle.tl_base.specs.declared.limits.TheConstants.{MAX_CELLS, MAX_COLUMNS, MAX_ROWS}
use Rattle.tl_grid.specs.declared.shape.Shape.{Shape}
use Rattle.tl_grid.specs.declared.shape.Place.{Place}
use Rattle.tl_grid.specs.declared.shape.Grid.{Grid}
use Rattle.tl_grid.specs.declared.block.Block.{Block}
use Rattle.tl_grid.specs.declared.table.Table.{Table}
use Rattle.tl_grid.specs.declared.error.GridError.{GridError}
use Rattle.tl_grid.specs.declared.error.GridError.TheVariants.{Memory, TooManyCells, Overlap, TooManyColumns, TooManyRows}
use Rattle.tl_grid.specs.Forming.{FormedCell, formed, cell_count}
use Rattle.tl_grid.specs.Overlap.{numbers_over, IsBefore, HasNoOverlap, IsFirstOverlap}
use Rattle.tl_grid.specs.Dropping.{keeps_column, keeps_row, kept_place, ArePlaces, StandsAtNumber, kept_column_count}
use Rattle.tl_grid.specs.Dropping.{kept_row_count}
use Rattle.tl_base.specs.Lists.{is_among}
use Rattle.tl_grid.specs.Form.{HasGrid, HasTooManyColumns, HasTooManyRows, LacksGrid}
use Rattle.tl_grid.specs.inner.Walk.{place_all}
use Rattle.tl_grid.specs.Shapes.{AllSpans}
use Rattle.tl_grid.specs.inner.Places.{begins_in_column, begins_in_row, place_by, place_of_block, put_places, nowhere}
use Rattle.tl_grid.proofs.Cells.{number_of, block_number}
use Rattle.tl_grid.proofs.Counts.{count_same}
use Rattle.tl_grid.proofs.Members.{all_at}
use Rattle.tl_grid.proofs.Numbers.{tally, numbered_once, numbered_below, cell_numbered}
use Rattle.tl_grid.proofs.Put.{put_all, length_put}
use Rattle.tl_grid.proofs.Tables.{TableMatches, TableGives, IsFound, all_give}
use Rattle.tl_grid.proofs.Grids.{column_count, row_count, same_columns, same_rows, same_numbers, all_placed}
use Rattle.tl_grid.proofs.Wide.{wide_groups}

-- The list has the numbers of the columns in which blocks begin, in order.
pub record AreColumns (blocks : List Block) (columns : List ℕ) : Type 0 where
  pub rises : IsStrictlyIncreasing columns
  pub same : (x : ℕ) → is_among columns x ≡ begins_in_column blocks x

-- The list has the numbers of the rows in which blocks begin, in order.
pub record AreRows (blocks : List Block) (rows : List ℕ) : Type 0 where
  pub rises : IsStrictlyIncreasing rows
  pub same : (y : ℕ) → is_among rows y ≡ begins_in_row blocks y

-- a walk that ends gives the standard's table
table_matches : (shape : Shape) (t : Table) → AllSpans shape.groups → place_all shape.groups ≡ Ok t →
    TableMatches (formed shape) t
table_matches shape t spans e =
    let P : Result Table GridError → Type 0 = λ r. TableGives (formed shape) r in
    subst P e (all_give shape (wide_groups shape.groups spans))

-- an overlap that the walk found is refused
found_refused : (shape : Shape) (error : GridError) → cell_count shape ≤ MAX_CELLS → IsFound (formed shape) error →
    LacksGrid shape error
found_refused shape (Memory e) few found = found
found_refused shape (TooManyCells count) few found = absurd found
found_refused shape (Overlap first second x y) few found = record {
  few_cells = few;
  overlap = record { two = ([], found.0.two); before = found.0.before };
}
found_refused shape (TooManyColumns count) few found = absurd found
found_refused shape (TooManyRows count) few found = absurd found

-- an error of the walk, or out of memory
pub walk_refused : (shape : Shape) (error : GridError) → AllSpans shape.groups →
    cell_count shape ≤ MAX_CELLS → (error ≡ Memory alloc_error) ⊎ (place_all shape.groups ≡ Err error) →
    IsMemoryOr (Memory alloc_error) (LacksGrid shape) error
walk_refused shape error spans few (inl memory) = inl memory
walk_refused shape error spans few (inr walked) =
    let P : Result Table GridError → Type 0 = λ r. TableGives (formed shape) r in
    inr (found_refused shape error few (subst P walked (all_give shape (wide_groups shape.groups spans))))

-- too many kept columns
pub columns_refused : (shape : Shape) (t : Table) (columns : List ℕ) (count : ℕ) → AllSpans shape.groups →
    cell_count shape ≤ MAX_CELLS → place_all shape.groups ≡ Ok t → AreColumns t.blocks columns →
    count ≡ length columns → MAX_COLUMNS < count → HasTooManyColumns shape count
columns_refused shape t columns count spans few walked are counted many =
    let m : TableMatches (formed shape) t = table_matches shape t spans walked in
    record {
      few_cells = few;
      no_overlap = m.one;
      counted = counted ∙ sym (column_count (formed shape) t columns m are.rises are.same);
      many = many;
    }

-- too many kept rows
pub rows_refused : (shape : Shape) (t : Table) (columns rows : List ℕ) (count : ℕ) → AllSpans shape.groups →
    cell_count shape ≤ MAX_CELLS → place_all shape.groups ≡ Ok t → AreColumns t.blocks columns →
    length columns ≤ MAX_COLUMNS → AreRows t.blocks rows → count ≡ length rows → MAX_ROWS < count →
    HasTooManyRows shape count
rows_refused shape t columns rows count spans few walked are narrow are' counted many =
    let m : TableMatches (formed shape) t = table_matches shape t spans walked in
    let columns_are : kept_column_count shape ≡ length columns = column_count (formed shape) t columns m are.rises are.same in
    record {
      few_cells = few;
      no_overlap = m.one;
      few_columns = omega arith;
      counted = counted ∙ sym (row_count (formed shape) t rows m are'.rises are'.same);
      many = many;
    }

-- a place, by tests that agree
place_same : (p q p' q' : ℕ → Bool) (b : Block) → ((x : ℕ) → p x ≡ p' x) → ((y : ℕ) → q y ≡ q' y) →
    place_by p q b ≡ place_by p' q' b
place_same p q p' q' b across down = λ i. record {
  left = count_same p p' across b.left i;
  right = count_same p p' across b.right i;
  top = count_same q q' down b.top i;
  bottom = count_same q q' down b.bottom i;
}

-- what is put for the blocks are the places of the cells
are_places : (shape : Shape) (t : Table) (columns rows : List ℕ) (count : ℕ) (places : List Place) →
    TableMatches (formed shape) t → AreColumns t.blocks columns → AreRows t.blocks rows →
    count ≡ cell_count shape → length places ≡ count →
    places ≡ put_places columns rows (replicate count nowhere) t.blocks → ArePlaces shape places
are_places shape t columns rows count places m are are' counted many put = record {
  as_many = many ∙ counted;
  each = all_placed (formed shape) t (λ n place. slice_get places n ≡ Some place) m (each t.blocks
      (put_all block_number (place_of_block columns rows) t.blocks (replicate count nowhere)
      (λ n. let P : List ℕ → Type 0 = λ ks. tally n ks ≤ 1 in
      subst P (same_numbers (formed shape) t m) (numbered_once n shape))
      (λ n le. sym (ap (tally n) (same_numbers (formed shape) t m))
      ∙ numbered_below n shape (omega (arith, length-replicate count nowhere, counted)))));
}
  where
    each : (bs : List Block) →
        AllByRecursion (λ (b : Block).
        slice_get (put_places columns rows (replicate count nowhere) t.blocks) b.number
        ≡ Some (place_of_block columns rows b)) bs →
        AllByRecursion (λ (b : Block). slice_get places b.number
        ≡ Some (place_by (keeps_column (formed shape).cells) (keeps_row (formed shape).cells) b)) bs
    each [] all = tt
    each (b ∷ bs) all = (
      ap (λ ps. slice_get ps b.number) put ∙ all.0
          ∙ ap Some (place_same (is_among columns) (is_among rows) (keeps_column (formed shape).cells)
          (keeps_row (formed shape).cells) b
          (λ x. are.same x ∙ sym (same_columns (formed shape) t m x))
          (λ y. are'.same y ∙ sym (same_rows (formed shape) t m y))),
      each bs all.1,
    )

-- the dropped grid
pub has_grid : (shape : Shape) (t : Table) (columns rows : List ℕ) (cols lines count : ℕ)
    (places : List Place) → AllSpans shape.groups → cell_count shape ≤ MAX_CELLS →
    place_all shape.groups ≡ Ok t → AreColumns t.blocks columns → length columns ≤ MAX_COLUMNS →
    AreRows t.blocks rows → length rows ≤ MAX_ROWS → cols ≡ length columns → lines ≡ length rows →
    count ≡ cell_count shape → length places ≡ count →
    places ≡ put_places columns rows (replicate count nowhere) t.blocks →
    HasGrid shape record { cols = cols; rows = lines; places = places }
has_grid shape t columns rows cols lines count places spans few walked are narrow are' low wide high counted many put =
    let m : TableMatches (formed shape) t = table_matches shape t spans walked in
    let columns_are : kept_column_count shape ≡ length columns = column_count (formed shape) t columns m are.rises are.same in
    let rows_are : kept_row_count shape ≡ length rows = row_count (formed shape) t rows m are'.rises are'.same in
    record {
      few_cells = few;
      no_overlap = m.one;
      few_columns = omega arith;
      few_rows = omega arith;
      columns = wide ∙ sym columns_are;
      rows = high ∙ sym rows_are;
      places = are_places shape t columns rows count places m are are' counted many put;
    }

-- lists are the same where they are at each place
lists_same : (ps qs : List Place) → length ps ≡ length qs → ((k : ℕ) → k < length ps → slice_get ps k ≡ slice_get qs k) → ps ≡ qs
lists_same [] [] many each = refl
lists_same [] (q ∷ qs) many each = absurd (omega arith)
lists_same (p ∷ ps) [] many each = absurd (omega arith)
lists_same (p ∷ ps) (q ∷ qs) many each =
    let some : slice_get (p ∷ ps) 0 ≡ slice_get (q ∷ qs) 0 = each 0 (omega arith) in
    let first : p ≡ q = cc in
    ap (λ r. r ∷ ps) first ∙ ap (λ rs. q ∷ rs) (lists_same ps qs (omega arith) (λ k lt. each (suc k) (omega arith)))

-- the places of a table are determined
same_places : (shape : Shape) (ps qs : List Place) → ArePlaces shape ps → ArePlaces shape qs → ps ≡ qs
same_places shape ps qs are are' = lists_same ps qs (are.as_many ∙ sym are'.as_many)
    (λ k lt. let count : length ps ≡ cell_count shape = are.as_many in
    let (c, is) = cell_numbered shape k (omega arith) in
    let p : slice_get ps c.number ≡ Some (kept_place (formed shape) c) =
    all_at (StandsAtNumber (formed shape) ps) (formed shape).cells c are.each is.0 in
    let q : slice_get qs c.number ≡ Some (kept_place (formed shape) c) =
    all_at (StandsAtNumber (formed shape) qs) (formed shape).cells c are'.each is.0 in
    ap (slice_get ps) (sym is.1) ∙ p ∙ sym (ap (slice_get qs) (sym is.1) ∙ q))

-- a table has one grid
pub one_grid : (shape : Shape) (first second : Grid) → HasGrid shape first → HasGrid shape second → first ≡ second
one_grid shape first second has has' =
    let columns = has.columns ∙ sym has'.columns in
    let rows = has.rows ∙ sym has'.rows in
    let places = same_places shape first.places second.places has.places has'.places in
    λ i. record { cols = columns i; rows = rows i; places = places i }

-- two slots, or one before the other
order : (x y x' y' : ℕ) → ((x ≡ x') × (y ≡ y')) ⊎ IsBefore x y x' y' ⊎ IsBefore x' y' x y
order x y x' y' =
    elim (cases_order y y') [
      | inl e ↦
          elim (cases_order x x') [
            | inl same ↦ inl (same, e)
            | inr (inl left) ↦ inr (inl (inr (e, left)))
            | inr (inr right) ↦ inr (inr (inr (sym e, right)))
          ]
      | inr (inl above) ↦ inr (inl (inl above))
      | inr (inr below) ↦ inr (inr (inl below))
    ]

-- a slot with two cells has more than one
many_over : (cells : List FormedCell) (first second x y : ℕ) → IsFirstOverlap cells first second x y →
    length (numbers_over x y cells) ≤ 1 → ⊥
many_over cells first second x y is one =
    let (more, over) = is.two in
    let two : length (numbers_over x y cells) ≡ suc (suc (length more)) = ap length over in
    omega arith

-- there is one first overlap
one_overlap : (cells : List FormedCell) (a b x y a' b' x' y' : ℕ) → IsFirstOverlap cells a b x y →
    IsFirstOverlap cells a' b' x' y' → Overlap a b x y ≡ Overlap a' b' x' y'
one_overlap cells a b x y a' b' x' y' is is' =
    elim (order x y x' y') [
      | inl same ↦
          let (more, over) = is.two in
          let (more', over') = is'.two in
          let here : numbers_over x y cells ≡ numbers_over x' y' cells =
          ap (λ i. numbers_over i y cells) same.0 ∙ ap (λ j. numbers_over x' j cells) same.1 in
          let lists : a ∷ b ∷ more ≡ a' ∷ b' ∷ more' = sym over ∙ here ∙ over' in
          let first : a ≡ a' = cc in
          let second : b ≡ b' = cc in
          λ i. Overlap (first i) (second i) (same.0 i) (same.1 i)
      | inr (inl before) ↦ absurd (many_over cells a b x y is (is'.before x y before))
      | inr (inr after) ↦ absurd (many_over cells a' b' x' y' is' (is.before x' y' after))
    ]

-- a table with a grid has no cause
pub no_cause : (shape : Shape) (grid : Grid) (error : GridError) → HasGrid shape grid → LacksGrid shape error → ⊥
no_cause shape grid (Memory e) has is = is
no_cause shape grid (TooManyCells count) has is = omega (arith, has.few_cells, is.counted, is.many)
no_cause shape grid (Overlap a b x y) has is = many_over (formed shape).cells a b x y is.overlap (has.no_overlap x y)
no_cause shape grid (TooManyColumns count) has is = omega (arith, has.few_columns, is.counted, is.many)
no_cause shape grid (TooManyRows count) has is = omega (arith, has.few_rows, is.counted, is.many)

-- a table has one cause
pub one_cause : (shape : Shape) (first second : GridError) → LacksGrid shape first → LacksGrid shape second → first ≡ second
one_cause shape (Memory e) second is is' = absurd is
one_cause shape (TooManyCells n) (Memory e) is is' = absurd is'
one_cause shape (TooManyCells n) (TooManyCells m) is is' = ap TooManyCells (is.counted ∙ sym is'.counted)
one_cause shape (TooManyCells n) (Overlap a b x y) is is' = absurd (omega (arith, is.counted, is.many, is'.few_cells))
one_cause shape (TooManyCells n) (TooManyColumns m) is is' = absurd (omega (arith, is.counted, is.many, is'.few_cells))
one_cause shape (TooManyCells n) (TooManyRows m) is is' = absurd (omega (arith, is.counted, is.many, is'.few_cells))
one_cause shape (Overlap a b x y) (Memory e) is is' = absurd is'
one_cause shape (Overlap a b x y) (TooManyCells m) is is' = absurd (omega (arith, is'.counted, is'.many, is.few_cells))
one_cause shape (Overlap a b x y) (Overlap a' b' x' y') is is' =
    one_overlap (formed shape).cells a b x y a' b' x' y' is.overlap is'.overlap
one_cause shape (Overlap a b x y) (TooManyColumns m) is is' =
    absurd (many_over (formed shape).cells a b x y is.overlap (is'.no_overlap x y))
one_cause shape (Overlap a b x y) (TooManyRows m) is is' = absurd
    (many_over (formed shape).cells a b x y is.overlap (is'.no_overlap x y))
one_cause shape (TooManyColumns n) (Memory e) is is' = absurd is'
one_cause shape (TooManyColumns n) (TooManyCells m) is is' = absurd (omega (arith, is'.counted, is'.many, is.few_cells))
one_cause shape (TooManyColumns n) (Overlap a b x y) is is' =
    absurd (many_over (formed shape).cells a b x y is'.overlap (is.no_overlap x y))
one_cause shape (TooManyColumns n) (TooManyColumns m) is is' = ap TooManyColumns (is.counted ∙ sym is'.counted)
one_cause shape (TooManyColumns n) (TooManyRows m) is is' = absurd (omega (arith, is.counted, is.many, is'.few_columns))
one_cause shape (TooManyRows n) (Memory e) is is' = absurd is'
one_cause shape (TooManyRows n) (TooManyCells m) is is' = absurd (omega (arith, is'.counted, is'.many, is.few_cells))
one_cause shape (TooManyRows n) (Overlap a b x y) is is' = absurd
    (many_over (formed shape).cells a b x y is'.overlap (is.no_overlap x y))
one_cause shape (TooManyRows n) (TooManyColumns m) is is' = absurd (omega (arith, is'.counted, is'.many, is.few_columns))
one_cause shape (TooManyRows n) (TooManyRows m) is is' = ap TooManyRows (is.counted ∙ sym is'.counted)

-- what holds of each grid of the table holds of the one that is returned
pub ok_law : (shape : Shape) (P : Grid → Type 0) (result : Result Grid GridError) →
    ((grid : Grid) → HasGrid shape grid → P grid) → IfOk result (λ grid. HasGrid shape grid) → IfOk result P
ok_law shape P (Ok grid) law has = law grid has
ok_law shape P (Err error) law has = tt

-- a grid of the table is returned, or out of memory
pub each_ok : (shape : Shape) (result : Result Grid GridError) → IfOk result (λ grid. HasGrid shape grid) →
    IfErr result (λ error. IsMemoryOr (Memory alloc_error) (LacksGrid shape) error) → (grid : Grid) →
    HasGrid shape grid → ReturnsOk (Memory alloc_error) grid result
each_ok shape (Ok found) has refused grid has' = one_grid shape found grid has has'
each_ok shape (Err error) has (inl memory) grid has' = memory
each_ok shape (Err error) has (inr is) grid has' = absurd (no_cause shape grid error has' is)

-- a cause of the table is returned, or out of memory
pub each_err : (shape : Shape) (result : Result Grid GridError) → IfOk result (λ grid. HasGrid shape grid) →
    IfErr result (λ error. IsMemoryOr (Memory alloc_error) (LacksGrid shape) error) → (error : GridError) →
    LacksGrid shape error → ReturnsError (Memory alloc_error) error result
each_err shape (Ok found) has refused error is = no_cause shape found error has is
each_err shape (Err error) has (inl memory) expected is = inl memory
each_err shape (Err error) has (inr is') expected is = inr (one_cause shape error expected is' is)

-- the places of a table, as the list of them
abbrev formed_places : Shape → List Place
formed_places shape = fold (λ found (c : FormedCell). slice_set found c.number (kept_place (formed shape) c))
    (replicate (cell_count shape) nowhere) (formed shape).cells

-- there are such places
have_places : (shape : Shape) → ArePlaces shape (formed_places shape)
have_places shape = record {
  as_many = length_put number_of (kept_place (formed shape)) (formed shape).cells (replicate (cell_count shape) nowhere)
      ∙ length-replicate (cell_count shape) nowhere;
  each = put_all number_of (kept_place (formed shape)) (formed shape).cells (replicate (cell_count shape) nowhere)
      (λ n. numbered_once n shape)
      (λ n le. numbered_below n shape (omega (arith, length-replicate (cell_count shape) nowhere)));
}

-- a table within the limits has a grid, or too many columns or rows
within_limits : (shape : Shape) → cell_count shape ≤ MAX_CELLS → HasNoOverlap (formed shape).cells →
    ((grid : Grid) × HasGrid shape grid) ⊎ ((error : GridError) × LacksGrid shape error)
within_limits shape few one =
    elim (cases_lt MAX_COLUMNS (kept_column_count shape)) [
      | inl wide ↦ inr (
        TooManyColumns (kept_column_count shape),
        record { few_cells = few; no_overlap = one; counted = refl; many = wide },
      )
      | inr narrow ↦
          elim (cases_lt MAX_ROWS (kept_row_count shape)) [
            | inl high ↦ inr (
              TooManyRows (kept_row_count shape),
              record { few_cells = few; no_overlap = one; few_columns = narrow; counted = refl; many = high },
            )
            | inr low ↦ inl (
              record { cols = kept_column_count shape; rows = kept_row_count shape; places = formed_places shape },
              record {
                few_cells = few;
                no_overlap = one;
                few_columns = narrow;
                few_rows = low;
                columns = refl;
                rows =
                    refl;
                places = have_places shape;
              },
            )
          ]
    ]

-- what the walk gives is the first overlap, or there is none
walk_decides : (shape : Shape) (result : Result Table GridError) → cell_count shape ≤ MAX_CELLS →
    TableGives (formed shape) result →
    ((grid : Grid) × HasGrid shape grid) ⊎ ((error : GridError) × LacksGrid shape error)
walk_decides shape (Ok t) few gives = within_limits shape few gives.one
walk_decides shape (Err error) few found = inr (error, found_refused shape error few found)

-- Each table has a grid, or one of the causes holds.
pub decided : (shape : Shape) → AllSpans shape.groups → ((grid : Grid) × HasGrid shape grid) ⊎
    ((error : GridError) × LacksGrid shape error)
decided shape spans =
    elim (cases_lt MAX_CELLS (cell_count shape)) [
      | inl many ↦ inr (TooManyCells (cell_count shape), record { counted = refl; many = many })
      | inr few ↦ walk_decides shape (place_all shape.groups) few (all_give shape (wide_groups shape.groups spans))
    ]
