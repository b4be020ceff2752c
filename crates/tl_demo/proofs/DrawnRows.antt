-- What is drawn is in its range: words of one to eight letters, one to six of them in a cell, and rows of at most six
-- columns.
use Rattle.std.proofs.Common.{◌≡◌, ℕ, zero, suc, ◌+◌, ◌<◌, ◌≤◌, ◌==◌, Bool, true, false, ◌⊎◌, List, [], ◌∷◌, length, refl, inl}
use Rattle.std.proofs.Common.{inr, arith}
use Rattle.std.specs.Prelude.{if◌then◌else◌}
use Rattle.std.specs.List.{AllByRecursion}
use Rattle.tl_base.specs.declared.limits.TheConstants.{MAX_COLSPAN}
use Rattle.tl_demo.specs.Demo.{DemoCell, Drawn, drawn_number, next_state, words_from, cell_from, cell_before, cells_from}
use Rattle.tl_demo.specs.Demo.{rows_from}
use Rattle.tl_demo.specs.Demo.{demo_rows}

-- a word is of one to eight letters
abbrev pub IsWordLength : ℕ → Type 0
IsWordLength letters = (1 ≤ letters) × (letters ≤ 8)

-- a cell is over one column or two, and has one to six words
pub record IsDrawnCell (cell : DemoCell) : Type 0 where
  pub colspan : (cell.colspan ≡ 1) ⊎ (cell.colspan ≡ 2)
  pub some : 1 ≤ length cell.words
  pub few : length cell.words ≤ 6
  pub words : AllByRecursion IsWordLength cell.words

-- a cell is over a column at least
pub some_columns : (cell : DemoCell) → IsDrawnCell cell → 1 ≤ cell.colspan
some_columns cell is = by_colspan is.colspan
  where
    by_colspan : (cell.colspan ≡ 1) ⊎ (cell.colspan ≡ 2) → 1 ≤ cell.colspan
    by_colspan (inl one) = omega (arith, one)
    by_colspan (inr two) = omega (arith, two)

pub few_columns : (cell : DemoCell) → IsDrawnCell cell → cell.colspan ≤ MAX_COLSPAN
few_columns cell is = by_colspan is.colspan
  where
    by_colspan : (cell.colspan ≡ 1) ⊎ (cell.colspan ≡ 2) → cell.colspan ≤ MAX_COLSPAN
    by_colspan (inl one) = omega (arith, one)
    by_colspan (inr two) = omega (arith, two)

-- how many columns the cells are over
abbrev pub columns_of : List DemoCell → ℕ
columns_of [] = 0
columns_of (cell ∷ cells) = cell.colspan + columns_of cells

-- the cells of a row are over six columns at most
pub record IsDrawnRow (cells : List DemoCell) : Type 0 where
  pub each : AllByRecursion IsDrawnCell cells
  pub narrow : columns_of cells ≤ 6

-- what is drawn is below its bound
drawn_below : (below state : ℕ) → 0 < below → drawn_number below state < below
unfolding drawn_number
drawn_below below state some = omega (arith, some)

-- so many words are drawn, each of one to eight letters
words_drawn : (count state : ℕ) → AllByRecursion IsWordLength (words_from count state).value ×
    (length (words_from count state).value ≡ count)
words_drawn zero state = (tt, refl)
words_drawn (suc count) state =
    let others = words_drawn count (next_state state) in
    let letters = drawn_below 8 state (omega arith) in
    (((omega arith, omega (arith, letters)), others.0), omega (arith, others.1))

-- a cell over one column or two
cell_drawn : (colspan state : ℕ) → (colspan ≡ 1) ⊎ (colspan ≡ 2) → IsDrawnCell (cell_from colspan state).value
cell_drawn colspan state is =
    let words = words_drawn (1 + drawn_number 6 state) (next_state state) in
    let count = drawn_below 6 state (omega arith) in
    record { colspan = is; some = omega (arith, words.1); few = omega (arith, words.1, count); words = words.0 }

-- cells over so many columns at most
abbrev AreOver : ℕ → List DemoCell → Type 0
AreOver columns cells = AllByRecursion IsDrawnCell cells × (columns_of cells ≤ columns)

-- a cell and those after it are over the columns of both
before_over : (others_from : ℕ → Drawn (List DemoCell)) (colspan columns state : ℕ) → (colspan ≡ 1) ⊎ (colspan ≡ 2) →
    ((s : ℕ) → AreOver columns (others_from s).value) → AreOver (colspan + columns) (cell_before others_from colspan state).value
before_over others_from colspan columns state is others =
    let rest = others (cell_from colspan state).state in
    ((cell_drawn colspan state is, rest.0), omega (arith, rest.1))

-- one cell over two columns and others, or one over one column and others
either_over : (columns state : ℕ) (wide : Bool) → ((s : ℕ) → AreOver columns (cells_from columns s).value) →
    ((s : ℕ) → AreOver (suc columns) (cells_from (suc columns) s).value) →
    AreOver (suc (suc columns)) ((if wide then cell_before (cells_from columns) 2 state else cell_before
    (cells_from (suc columns)) 1 state).value)
either_over columns state true two one =
    let over = before_over (cells_from columns) 2 columns state (inr refl) two in
    (over.0, omega (arith, over.1))
either_over columns state false two one =
    let over = before_over (cells_from (suc columns)) 1 (suc columns) state (inl refl) one in
    (over.0, omega (arith, over.1))

-- the cells of a row are over no more columns than it has
cells_over : (columns state : ℕ) → AreOver columns (cells_from columns state).value
unfolding cells_from
cells_over zero state = (tt, omega arith)
cells_over (suc zero) state = before_over (cells_from zero) 1 0 (next_state state) (inl refl) (λ s. cells_over zero s)
cells_over (suc (suc columns)) state =
    either_over columns (next_state state) (drawn_number 5 state == 0) (λ s. cells_over columns s)
    (λ s. cells_over (suc columns) s)

-- so many rows are drawn
rows_drawn : (count state : ℕ) → AllByRecursion IsDrawnRow (rows_from count state).value ×
    (length (rows_from count state).value ≡ count)
unfolding rows_from
rows_drawn zero state = (tt, refl)
rows_drawn (suc count) state =
    let row = cells_over 6 state in
    let others = rows_drawn count (cells_from 6 state).state in
    ((record { each = row.0; narrow = row.1 }, others.0), omega (arith, others.1))

-- the rows of a number's table
pub demo_rows_drawn : (number : ℕ) → AllByRecursion IsDrawnRow (demo_rows number) × (length (demo_rows number) ≡ 30)
unfolding demo_rows
demo_rows_drawn number = rows_drawn 30 _
