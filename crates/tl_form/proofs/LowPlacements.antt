-- No placement needs more than two lines for all that the table holds: rows that are as high as all cells that begin in
-- them, one under the other, are enough.
use Rattle.tl_base.specs.declared.spacing.Spacing.{Spacing}
use Rattle.std.proofs.Common.{◌≡◌, ℕ, zero, suc, ◌+◌, ◌-◌, ◌*◌, ◌<◌, ◌≤◌, ◌==◌, cond, inl, inr, List, [], ◌∷◌, length}
use Rattle.std.proofs.Common.{get_or, is_some, map, max, nat_lt, sum_by, refl, ap, ◌∙◌, arith}
use Rattle.std.specs.List.{AllByRecursion, range_with_len}
use Rattle.std.proofs.lemmas.Bool.{eq-eqb, ne_eqb, cases_eq, cond_both}
use Rattle.std.proofs.lemmas.List.{length-map}
use Rattle.std.proofs.lemmas.List.FromFn.{length-range_with_len, get_or-map-range_with_len}
use Rattle.std.proofs.lemmas.List.Sums.{sum_by-cons}
use Rattle.tl_base.specs.declared.style.Style.{Style}
use Rattle.tl_base.specs.declared.style.Style.TheVariants.{Plain, Compact, Frame, Grid, Box, Rule, Apart}
use Rattle.tl_base.specs.Steps.{first_height}
use Rattle.tl_problem.specs.declared.cell.Cell.{Cell}
use Rattle.tl_base.specs.Sizes.{room, total}
use Rattle.tl_base.proofs.SizeLaws.{position-mono, room-position, position-next}
use Rattle.tl_grid.specs.declared.shape.Place.{Place}
use Rattle.tl_table.specs.Heads.{end_of_head, head_row}
use Rattle.tl_table.specs.Layouts.{lines_inside, lines_of, spacing_in}
use Rattle.tl_table.specs.Tables.{OpenTable}
use Rattle.tl_table.proofs.Rooms.{total-ahead}

-- ---- how much the cells that begin in a row are

-- what a cell adds to the row: its height and 1, where it begins there
abbrev weight_in : ℕ → Cell → ℕ
weight_in row one = cond (one.top == row) (first_height one.high + 1) 0

abbrev pub row_weight : List Cell → ℕ → ℕ
row_weight made row = sum_by (weight_in row) made

-- a cell is no more than its row
pub weight-le : (made : List Cell) (k : ℕ) (d : Cell) → k < length made →
    first_height (get_or made k d).high + 1 ≤ row_weight made (get_or made k d).top
weight-le [] k d within = absurd (omega (arith, within))
weight-le (one ∷ made) zero d within =
    let same = eq-eqb one.top one.top refl in
    omega (arith, sum_by-cons (weight_in one.top) one made, ap (λ b. cond b (first_height one.high + 1) 0) same)
weight-le (one ∷ made) (suc k) d within =
    let row = (get_or made k d).top in
    omega (arith, sum_by-cons (weight_in row) one made, weight-le made k d (omega arith))

-- over all rows a cell counts once
weight-rows : (one : Cell) (from n : ℕ) → sum_by (λ row. weight_in row one) (range_with_len from n) ≤ first_height one.high + 1
weight-rows one from zero = omega arith
weight-rows one from (suc n) =
    elim (cases_eq one.top from) [
      | inl same ↦
          let here = ap (λ b. cond b (first_height one.high + 1) 0) (eq-eqb one.top from same) in
          let rest = weight-past one (from + 1) n (omega (arith, same)) in
          omega (arith, sum_by-cons (λ row. weight_in row one) from (range_with_len (from + 1) n), here, rest)
      | inr other ↦
          let here = ap (λ b. cond b (first_height one.high + 1) 0) (ne_eqb one.top from other) in
          omega (
            arith,
            sum_by-cons (λ row. weight_in row one) from (range_with_len (from + 1) n),
            here,
            weight-rows one (from + 1) n,
          )
    ]
  where
    -- in rows past its first it counts nothing
    weight-past : (one : Cell) (from n : ℕ) → one.top < from → sum_by (λ row. weight_in row one) (range_with_len from n) ≡ 0
    weight-past one from zero before = refl
    weight-past one from (suc n) before =
        let here = ap (λ b. cond b (first_height one.high + 1) 0) (ne_eqb one.top from (λ same. omega (arith, same, before))) in
        omega (
          arith,
          sum_by-cons (λ row. weight_in row one) from (range_with_len (from + 1) n),
          here,
          weight-past one (from + 1) n (omega (arith, before)),
        )

-- a sum of sums, the other way round
sum-none : (rows : List ℕ) → sum_by (λ (row : ℕ). 0) rows ≡ 0
sum-none [] = refl
sum-none (row ∷ rows) = omega (arith, sum_by-cons (λ (one : ℕ). 0) row rows, sum-none rows)

sum-both : (f g : ℕ → ℕ) (rows : List ℕ) → sum_by (λ row. f row + g row) rows ≡ sum_by f rows + sum_by g rows
sum-both f g [] = refl
sum-both f g (row ∷ rows) =
    omega (arith, sum_by-cons (λ one. f one + g one) row rows, sum_by-cons f row rows, sum_by-cons g row rows, sum-both f g rows)

sum-same : (f g : ℕ → ℕ) (rows : List ℕ) → ((row : ℕ) → f row ≡ g row) → sum_by f rows ≡ sum_by g rows
sum-same f g [] same = refl
sum-same f g (row ∷ rows) same = omega (arith, sum_by-cons f row rows, sum_by-cons g row rows, same row, sum-same f g rows same)

rows-weight : (made : List Cell) (n : ℕ) → sum_by (row_weight made) (range_with_len 0 n) ≤ sum_by
    (λ one. first_height one.high + 1) made
rows-weight [] n = omega (arith, sum-none (range_with_len 0 n))
rows-weight (one ∷ made) n =
    let split = sum-same (row_weight (one ∷ made)) (λ row. weight_in row one + row_weight made row) (range_with_len 0 n)
    (λ row. sum_by-cons (weight_in row) one made) in
    omega (
      arith,
      split,
      sum-both (λ row. weight_in row one) (row_weight made) (range_with_len 0 n),
      weight-rows one 0 n,
      rows-weight made n,
      sum_by-cons (λ (any : Cell). first_height any.high + 1) one made,
    )

-- ---- rows so high

abbrev pub row_heights : List Cell → ℕ → List ℕ
row_heights made n = map (λ row. row_weight made row - 1) (range_with_len 0 n)

pub length-rows : (made : List Cell) (n : ℕ) → length (row_heights made n) ≡ n
length-rows made n = length-map (range_with_len 0 n) (λ row. row_weight made row - 1) ∙ length-range_with_len 0 n

-- where each row has a cell, they are with their number no more than the cells with theirs
heights-sum : (made : List Cell) (rows : List ℕ) → AllByRecursion (λ row. 1 ≤ row_weight made row) rows →
    sum_by (λ size. size) (map (λ row. row_weight made row - 1) rows) + length rows ≡ sum_by (row_weight made) rows
heights-sum made [] some = refl
heights-sum made (row ∷ rows) some =
    omega (
      arith,
      sum_by-cons (λ (size : ℕ). size) (row_weight made row - 1) (map (λ one. row_weight made one - 1) rows),
      sum_by-cons (row_weight made) row rows,
      heights-sum made rows some.1,
      some.0,
    )

-- a span of rows has the room of its first
first-room : (gap : ℕ) (sizes : List ℕ) (top bottom : ℕ) → top < bottom → bottom ≤ length sizes →
    get_or sizes top 0 ≤ room gap sizes top bottom
first-room gap sizes top bottom ahead within =
    omega (
      arith,
      room-position gap sizes top bottom ahead,
      position-mono gap sizes (top + 1) bottom (omega (arith, ahead)),
      position-next gap sizes top (omega (arith, ahead, within)),
    )

-- each cell has its first height
pub rows-enough : (gap : ℕ) (made : List Cell) (n k : ℕ) (d : Cell) → k < length made →
    (get_or made k d).top < (get_or made k d).bottom →
    (get_or made k d).bottom ≤ n → first_height (get_or made k d).high ≤ room gap (row_heights made n) (get_or made k d).top
    (get_or made k d).bottom
rows-enough gap made n k d inside ahead within =
    let one = get_or made k d in
    let at = get_or-map-range_with_len (λ row. row_weight made row - 1) 0 n one.top one.top 0 (omega (arith, ahead, within))
    (omega arith) in
    omega (
      arith,
      first-room gap (row_heights made n) one.top one.bottom ahead (omega (arith, within, length-rows made n)),
      at,
      weight-le made k d inside,
    )

-- the gaps between so many rows and the lines beside them are no more than the rows and one line
abbrev pub IsLight : Spacing → ℕ → Type 0
IsLight spacing rows = 0 < rows → spacing.row_gap * (rows - 1) + spacing.lines ≤ rows + 1

pub style-light : (style : Style) (table : OpenTable) → IsLight (spacing_in style table) table.rows
style-light Plain table some = omega arith
style-light Compact table some = omega arith
style-light Frame table some = omega (arith, some)
style-light Grid table some = omega (arith, some)
style-light Box table some = omega (arith, some)
style-light Rule table some =
    cond_both (is_some (head_row table)) 1 0 (λ n. 0 * (table.rows - 1) + n ≤ table.rows + 1) (λ yes. omega arith)
    (λ no. omega arith)
style-light Apart table some =
    cond_both (is_some (head_row table)) 1 0
    (λ n. 0 * (table.rows - 1) + (n + (table.rows - end_of_head table - 1)) ≤ table.rows + 1) (λ yes. omega (arith, some))
    (λ no. omega (arith, some))

-- no more lines stand beside the rows than there are rows, or two
pub lines-least : (style : Style) (table : OpenTable) → lines_of style table ≤ max 2 table.rows
lines-least Plain table = omega arith
lines-least Compact table = omega arith
lines-least Frame table = omega arith
lines-least Grid table = omega arith
lines-least Box table = omega arith
lines-least Rule table =
    cond_both (is_some (head_row table)) 1 0 (λ n. n ≤ max 2 table.rows) (λ yes. omega arith) (λ no. omega arith)
lines-least Apart table =
    cond_both (is_some (head_row table)) 1 0 (λ n. n + (table.rows - end_of_head table - 1) ≤ max 2 table.rows) (λ yes. omega arith)
    (λ no. omega arith)

-- the lines inside a place are fewer than its rows, so no more than where it ends
pub inside-few : (style : Style) (table : OpenTable) (place : Place) → lines_inside style table place ≤ place.bottom
inside-few Plain table place = omega arith
inside-few Compact table place = omega arith
inside-few Frame table place = omega arith
inside-few Grid table place = omega arith
inside-few Box table place = omega arith
inside-few Rule table place = omega arith
inside-few Apart table place =
    cond_both (nat_lt place.top (end_of_head table)) 0 (place.bottom - place.top - 1) (λ n. n ≤ place.bottom) (λ yes. omega arith)
    (λ no. omega arith)

pub rows-total : (spacing : Spacing) (made : List Cell) (n : ℕ) → IsLight spacing n →
    AllByRecursion (λ row. 1 ≤ row_weight made row) (range_with_len 0 n) →
    total spacing.row_gap spacing.lines (row_heights made n) ≤ sum_by (λ one. first_height one.high + 1) made + 1
rows-total spacing made zero light some = omega arith
rows-total spacing made (suc n) light some =
    let long = length-rows made (suc n) in
    let whole = total-ahead spacing.row_gap spacing.lines (row_heights made (suc n)) (omega (arith, long)) in
    let count = ap (λ k. spacing.row_gap * (k - 1)) long in
    omega (
      arith,
      whole,
      count,
      light (omega arith),
      heights-sum made (range_with_len 0 (suc n)) some,
      length-range_with_len 0 (suc n),
      rows-weight made (suc n),
    )
