-- The slots of the fields of records with as many fields each: they fill a grid, row by row.
use Rattle.std.proofs.Common.{◌≡◌, ◌∙◌, ◌⊎◌, ℕ, zero, suc, ◌+◌, ◌<◌, ◌≤◌, List, [], ◌∷◌, ◌++◌, length, map, inl, inr, get_or}
use Rattle.std.proofs.Common.{refl, ap, subst, arith}
use Rattle.std.specs.List.{All, AllPairs, Any, enumerate_from, flat_map}
use Rattle.std.proofs.lemmas.Bool.{cases_eq}
use Rattle.std.proofs.lemmas.List.{map-append}
use Rattle.std.proofs.lemmas.List.Elements.{All-append, All-cons, All-head, All-nil, All-tail}
use Rattle.std.proofs.lemmas.List.Kept.{AllPairs-cons}
use Rattle.tl_grid.specs.declared.shape.Place.{Place}
use Rattle.tl_grid.specs.Dropping.{IsPlaced}
use Rattle.tl_grid.specs.Slots.{AreApart, HasAnchorInColumn, HasAnchorInRow, HasSlot, IsFilledToLeft}
use Rattle.tl_table.specs.Sound.{ComesBefore}
use Rattle.tl_columns.specs.Columns.{placed_fields, slot_in, PlacedField}
use Rattle.tl_columns.specs.Records.{Fields, column_count}

-- ---- the slots

-- the slots of a row from a column on, one for each field
abbrev row_slots : ℕ → ℕ → Fields → List Place
row_slots row column [] = []
row_slots row column (field ∷ fields) = slot_in row column ∷ row_slots row (column + 1) fields

-- the slots of records from a row on
abbrev pub slots : ℕ → List Fields → List Place
slots row [] = []
slots row (fields ∷ all) = row_slots row 0 fields ++ slots (row + 1) all

-- the slot of a field
abbrev pub slot_of : PlacedField → Place
slot_of at = slot_in at.row at.column

-- the fields of a record in that row, from a column on
abbrev pub row_from : ℕ → ℕ → Fields → List PlacedField
row_from row column fields = map (λ one. record { row = row; column = one.0; field = one.1 }) (enumerate_from column fields)

-- the fields of records, from a row on
abbrev pub rows_from : ℕ → List Fields → List PlacedField
rows_from row all = flat_map (λ one. row_from one.0 0 one.1) (enumerate_from row all)

row_slots_of : (row column : ℕ) (fields : Fields) → map slot_of (row_from row column fields) ≡ row_slots row column fields
row_slots_of row column [] = refl
row_slots_of row column (field ∷ fields) =
    ap (λ (places : List Place). slot_in row column ∷ places) (row_slots_of row (column + 1) fields)

slots_from : (row : ℕ) (all : List Fields) → map slot_of (rows_from row all) ≡ slots row all
slots_from row [] = refl
slots_from row (fields ∷ all) =
    map-append slot_of (row_from row 0 fields) (rows_from (row + 1) all)
    ∙ ap (λ (places : List Place). places ++ map slot_of (rows_from (row + 1) all)) (row_slots_of row 0 fields)
    ∙ ap (λ (places : List Place). row_slots row 0 fields ++ places) (slots_from (row + 1) all)

pub slots_of : (all : List Fields) → map slot_of (placed_fields all) ≡ slots 0 all
slots_of all = slots_from 0 all

-- ---- within the grid

row_placed : (cols rows row column : ℕ) (fields : Fields) → row < rows → column + length fields ≤ cols →
    All (IsPlaced cols rows) (row_slots row column fields)
row_placed cols rows row column [] above within = All-nil (IsPlaced cols rows)
row_placed cols rows row column (field ∷ fields) above within =
    All-cons (IsPlaced cols rows) (slot_in row column) (row_slots row (column + 1) fields)
    (omega arith, omega arith, omega arith, omega arith)
    (row_placed cols rows row (column + 1) fields above (omega arith))

slots_placed : (cols rows row : ℕ) (all : List Fields) → All (λ fields. length fields ≡ cols) all →
    row + length all ≤ rows → All (IsPlaced cols rows) (slots row all)
slots_placed cols rows row [] even within = All-nil (IsPlaced cols rows)
slots_placed cols rows row (fields ∷ all) even within =
    let here = All-head (λ (one : Fields). length one ≡ cols) fields all even in
    All-append (IsPlaced cols rows) (row_slots row 0 fields) (slots (row + 1) all)
    (row_placed cols rows row 0 fields (omega arith) (omega (arith, here)))
    (slots_placed cols rows (row + 1) all (All-tail (λ (one : Fields). length one ≡ cols) fields all even) (omega arith))

pub all_placed : (all : List Fields) → All (λ fields. length fields ≡ column_count all) all →
    All (IsPlaced (column_count all) (length all)) (slots 0 all)
all_placed all even = slots_placed (column_count all) (length all) 0 all even (omega arith)

-- ---- in order

row_after : (row c column : ℕ) (fields : Fields) → c < column →
    All (ComesBefore (slot_in row c)) (row_slots row column fields)
row_after row c column [] less = All-nil (ComesBefore (slot_in row c))
row_after row c column (field ∷ fields) less =
    All-cons (ComesBefore (slot_in row c)) (slot_in row column) (row_slots row (column + 1) fields) (inr (refl, less))
    (row_after row c (column + 1) fields (omega arith))

row_below : (row c below column : ℕ) (fields : Fields) → row < below →
    All (ComesBefore (slot_in row c)) (row_slots below column fields)
row_below row c below column [] less = All-nil (ComesBefore (slot_in row c))
row_below row c below column (field ∷ fields) less =
    All-cons (ComesBefore (slot_in row c)) (slot_in below column) (row_slots below (column + 1) fields) (inl less)
    (row_below row c below (column + 1) fields less)

slots_below : (row c below : ℕ) (all : List Fields) → row < below → All (ComesBefore (slot_in row c)) (slots below all)
slots_below row c below [] less = All-nil (ComesBefore (slot_in row c))
slots_below row c below (fields ∷ all) less =
    All-append (ComesBefore (slot_in row c)) (row_slots below 0 fields) (slots (below + 1) all)
    (row_below row c below 0 fields less) (slots_below row c (below + 1) all (omega arith))

row_in_order : (row column : ℕ) (fields : Fields) (later : List Place) →
    ((c : ℕ) → All (ComesBefore (slot_in row c)) later) → AllPairs ComesBefore later →
    AllPairs ComesBefore (row_slots row column fields ++ later)
row_in_order row column [] later below rest = rest
row_in_order row column (field ∷ fields) later below rest =
    AllPairs-cons ComesBefore (slot_in row column) (row_slots row (column + 1) fields ++ later)
    (All-append (ComesBefore (slot_in row column)) (row_slots row (column + 1) fields) later
    (row_after row column (column + 1) fields (omega arith)) (below column))
    (row_in_order row (column + 1) fields later below rest)

pub slots_in_order : (row : ℕ) (all : List Fields) → AllPairs ComesBefore (slots row all)
slots_in_order row [] = λ i j d less within. absurd (omega (arith, within))
slots_in_order row (fields ∷ all) =
    row_in_order row 0 fields (slots (row + 1) all) (λ c. slots_below row c (row + 1) all (omega arith))
    (slots_in_order (row + 1) all)

-- ---- apart

-- a place of one slot
abbrev IsSlot : Place → Type 0
IsSlot place = (place.right ≡ place.left + 1) × (place.bottom ≡ place.top + 1)

row_single : (row column : ℕ) (fields : Fields) → All IsSlot (row_slots row column fields)
row_single row column [] = All-nil IsSlot
row_single row column (field ∷ fields) =
    All-cons IsSlot (slot_in row column) (row_slots row (column + 1) fields) (refl, refl) (row_single row (column + 1) fields)

slots_single : (row : ℕ) (all : List Fields) → All IsSlot (slots row all)
slots_single row [] = All-nil IsSlot
slots_single row (fields ∷ all) =
    All-append IsSlot (row_slots row 0 fields) (slots (row + 1) all) (row_single row 0 fields) (slots_single (row + 1) all)

apart_pair : (p q : Place) → IsSlot p → IsSlot q → ComesBefore p q → AreApart p q
apart_pair p q one other (inl above) = λ x y first second. omega (arith, one.1, above, first.3, second.2)
apart_pair p q one other (inr (same, left)) = λ x y first second. omega (arith, one.0, left, first.1, second.0)

pub slots_apart : (row : ℕ) (all : List Fields) → AllPairs AreApart (slots row all)
slots_apart row all = λ i j d less within.
    apart_pair (get_or (slots row all) i d) (get_or (slots row all) j d) (slots_single row all i d (omega (arith, within)))
    (slots_single row all j d within) (slots_in_order row all i j d less within)

-- ---- anchors

Any-later : (P : Place → Type 0) (x : Place) (xs : List Place) → Any P xs → Any P (x ∷ xs)
Any-later P x xs (k, y, within, is, holds) = (suc k, y, omega arith, is, holds)

Any-after : (P : Place → Type 0) (xs ys : List Place) → Any P ys → Any P (xs ++ ys)
Any-after P [] ys some = some
Any-after P (x ∷ xs) ys some = Any-later P x (xs ++ ys) (Any-after P xs ys some)

row_anchored : (row column x : ℕ) (fields : Fields) (later : List Place) → column ≤ x → x < column + length fields →
    HasAnchorInColumn (row_slots row column fields ++ later) x
row_anchored row column x [] later from within = absurd (omega arith)
row_anchored row column x (field ∷ fields) later from within = by (cases_eq column x)
    (λ after. row_anchored row (column + 1) x fields later after (omega arith))
  where
    by : (column ≡ x) ⊎ (column ≡ x → ⊥) →
        (column + 1 ≤ x → HasAnchorInColumn (row_slots row (column + 1) fields ++ later) x) →
        HasAnchorInColumn (slot_in row column ∷ (row_slots row (column + 1) fields ++ later)) x
    by (inl same) rest = (0, slot_in row column, omega arith, refl, same)
    by (inr other) rest =
        Any-later (λ (place : Place). place.left ≡ x) (slot_in row column) (row_slots row (column + 1) fields ++ later)
        (rest (omega (arith, other)))

pub columns_anchored : (all : List Fields) (x : ℕ) → x < column_count all → HasAnchorInColumn (slots 0 all) x
columns_anchored [] x within = absurd (omega arith)
columns_anchored (first ∷ others) x within = row_anchored 0 0 x first (slots 1 others) (omega arith) (omega arith)

first_anchored : (row : ℕ) (fields : Fields) (later : List Place) → 0 < length fields →
    HasAnchorInRow (row_slots row 0 fields ++ later) row
first_anchored row [] later some = absurd (omega (arith, some))
first_anchored row (field ∷ fields) later some = (0, slot_in row 0, omega arith, refl, refl)

rows_anchored_from : (row y : ℕ) (all : List Fields) → All (λ fields. 0 < length fields) all → row ≤ y →
    y < row + length all → HasAnchorInRow (slots row all) y
rows_anchored_from row y [] some from within = absurd (omega arith)
rows_anchored_from row y (fields ∷ all) some from within = by (cases_eq row y)
    (λ after. rows_anchored_from (row + 1) y all (All-tail (λ (one : Fields). 0 < length one) fields all some) after
    (omega arith))
  where
    by : (row ≡ y) ⊎ (row ≡ y → ⊥) → (row + 1 ≤ y → HasAnchorInRow (slots (row + 1) all) y) →
        HasAnchorInRow (row_slots row 0 fields ++ slots (row + 1) all) y
    by (inl same) rest = subst (HasAnchorInRow (row_slots row 0 fields ++ slots (row + 1) all)) same
        (first_anchored row fields (slots (row + 1) all) (All-head (λ (one : Fields). 0 < length one) fields all some))
    by (inr other) rest =
        Any-after (λ (place : Place). place.top ≡ y) (row_slots row 0 fields) (slots (row + 1) all)
        (rest (omega (arith, other)))

pub rows_anchored : (all : List Fields) (y : ℕ) → All (λ fields. 0 < length fields) all → y < length all →
    HasAnchorInRow (slots 0 all) y
rows_anchored all y some within = rows_anchored_from 0 y all some (omega arith) (omega arith)

-- ---- no gap to the left of a slot

Any-before : (P : Place → Type 0) (xs ys : List Place) → Any P xs → Any P (xs ++ ys)
Any-before P [] ys (k, x, within, is, holds) = absurd (omega (arith, within))
Any-before P (x ∷ xs) ys (zero, y, within, is, holds) = (0, y, omega arith, is, holds)
Any-before P (x ∷ xs) ys (suc k, y, within, is, holds) =
    Any-later P x (xs ++ ys) (Any-before P xs ys (k, y, omega (arith, within), is, holds))

-- each column from the first on has a slot of the row
row_covered : (row column x : ℕ) (fields : Fields) → column ≤ x → x < column + length fields →
    Any (HasSlot x row) (row_slots row column fields)
row_covered row column x [] from within = absurd (omega (arith, from, within))
row_covered row column x (field ∷ fields) from within = by (cases_eq column x)
    (λ after. row_covered row (column + 1) x fields after (omega (arith, within)))
  where
    by : (column ≡ x) ⊎ (column ≡ x → ⊥) →
        (column + 1 ≤ x → Any (HasSlot x row) (row_slots row (column + 1) fields)) →
        Any (HasSlot x row) (slot_in row column ∷ row_slots row (column + 1) fields)
    by (inl same) rest = (
      0,
      slot_in row column,
      omega arith,
      refl,
      (omega (arith, same), omega (arith, same), omega arith, omega arith),
    )
    by (inr other) rest =
        Any-later (HasSlot x row) (slot_in row column) (row_slots row (column + 1) fields) (rest (omega (arith, other, from)))

row_filled : (row column : ℕ) (fields : Fields) (places : List Place) →
    ((x : ℕ) → x < column + length fields → Any (HasSlot x row) places) →
    All (IsFilledToLeft places) (row_slots row column fields)
row_filled row column [] places covered = All-nil (IsFilledToLeft places)
row_filled row column (field ∷ fields) places covered =
    All-cons (IsFilledToLeft places) (slot_in row column) (row_slots row (column + 1) fields)
    (λ x left. covered x (omega (arith, left)))
    (row_filled row (column + 1) fields places (λ x within. covered x (omega (arith, within))))

slots_filled_in : (row : ℕ) (all : List Fields) (places : List Place) →
    ((P : Place → Type 0) → Any P (slots row all) → Any P places) → All (IsFilledToLeft places) (slots row all)
slots_filled_in row [] places among = All-nil (IsFilledToLeft places)
slots_filled_in row (fields ∷ all) places among =
    All-append (IsFilledToLeft places) (row_slots row 0 fields) (slots (row + 1) all)
    (row_filled row 0 fields places (λ x within. among (HasSlot x row)
    (Any-before (HasSlot x row) (row_slots row 0 fields) (slots (row + 1) all)
    (row_covered row 0 x fields (omega arith) (omega (arith, within))))))
    (slots_filled_in (row + 1) all places (λ P some. among P (Any-after P (row_slots row 0 fields) (slots (row + 1) all) some)))

-- all slots to the left of a slot are covered in its row
pub slots_filled : (all : List Fields) → All (IsFilledToLeft (slots 0 all)) (slots 0 all)
slots_filled all = slots_filled_in 0 all (slots 0 all) (λ P some. some)
