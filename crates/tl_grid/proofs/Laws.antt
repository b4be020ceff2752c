-- The laws of dropped grids, in terms of `HasGrid`: `all_within`, `all_apart`, `edges_apart`,
-- `all_columns`, `all_rows`, `all_filled` and `kept_slots`.
use Rattle.std.proofs.Common.{◌≡◌, ℕ, ◌+◌, ◌<◌, ◌≤◌, max, zero, suc, Bool, true, ◌&&◌, ltb, leb, eqb, List, length, get_or}
use Rattle.std.proofs.Common.{Result, Ok, Err, refl, sym, ap, ◌∙◌, subst, inl, inr, arith, All}
use Rattle.std.specs.List.{AllByRecursion, AllPairs, Any}
use Rattle.std.proofs.lemmas.Bool.{ltb-true, leb-true, lt-ltb, le-leb, eq-eqb, eqb-true, and_parts, and_from, cases_Bool}
use Rattle.std.proofs.lemmas.Bool.{cases_lt}
use Rattle.std.proofs.lemmas.List.{length-map}
use Rattle.std.proofs.lemmas.Option.{slice_get_within, get_or_from_slice_get}
use Rattle.tl_grid.specs.declared.shape.Shape.{Shape}
use Rattle.tl_grid.specs.declared.shape.Place.{Place}
use Rattle.tl_grid.specs.declared.shape.Grid.{Grid}
use Rattle.tl_grid.specs.declared.block.Block.{Block}
use Rattle.tl_grid.specs.declared.table.Table.{Table}
use Rattle.tl_grid.specs.declared.error.GridError.{GridError}
use Rattle.tl_grid.specs.declared.error.GridError.TheVariants.{Memory, TooManyCells, Overlap, TooManyColumns, TooManyRows}
use Rattle.tl_grid.specs.Shapes.{AllSpans}
use Rattle.tl_grid.specs.Forming.{FormedCell, Forming, covers, formed, cell_count}
use Rattle.tl_grid.specs.Overlap.{cells_over, numbers_over, HasNoOverlap}
use Rattle.tl_grid.specs.Dropping.{count_below, keeps_column, keeps_row, new_column, new_row, kept_place, IsPlaced, ArePlaces}
use Rattle.tl_grid.specs.Dropping.{StandsAtNumber}
use Rattle.tl_grid.specs.Slots.{HasSlot, AreApart, HasAnchorInColumn, HasAnchorInRow, IsFilledToLeft, KeepsSlots}
use Rattle.tl_grid.specs.Form.{HasGrid}
use Rattle.tl_grid.specs.inner.Walk.{place_all}
use Rattle.tl_grid.proofs.Cells.{number_of}
use Rattle.tl_grid.proofs.Counts.{one_if}
use Rattle.tl_grid.proofs.Members.{IsIn, all_at, all_from, any_in, any_of, one_passes}
use Rattle.tl_grid.proofs.Numbers.{cell_numbered}
use Rattle.tl_grid.proofs.FilledLeft.{IsFilled, formed_filled}
use Rattle.tl_grid.proofs.Tables.{TableMatches, TableGives, IsFound, all_give}
use Rattle.tl_grid.proofs.Grids.{IsShownBy, all_shown}
use Rattle.tl_grid.proofs.Wide.{wide_groups}

-- further on no fewer are kept
pub count_rises : (keeps : ℕ → Bool) (a n : ℕ) → a ≤ n → count_below keeps a ≤ count_below keeps n
count_rises keeps a zero le =
    let same : count_below keeps a ≡ 0 = ap (count_below keeps) (let none : a ≡ 0 = omega arith in none) in omega arith
count_rises keeps a (suc n) le =
    elim (cases_lt n a) [
      | inl past ↦
          let end : a ≡ suc n = omega arith in
          let same : count_below keeps a ≡ count_below keeps (suc n) = ap (count_below keeps) end in omega arith
      | inr before ↦
          let rest : count_below keeps a ≤ count_below keeps n = count_rises keeps a n before in omega arith
    ]

-- past a kept number one more is kept
pub count_past : (keeps : ℕ → Bool) (a b : ℕ) → keeps a ≡ true → a < b → count_below keeps a < count_below keeps b
count_past keeps a b kept lt =
    let one : one_if (keeps a) ≡ 1 = ap one_if kept in
    let next : count_below keeps a + one_if (keeps a) ≤ count_below keeps b = count_rises keeps (suc a) b (omega arith) in
    omega arith

-- a kept number that is renumbered below b's is below b
below_back : (keeps : ℕ → Bool) (x b : ℕ) → count_below keeps x < count_below keeps b → x < b
below_back keeps x b lt =
    elim (cases_lt x b) [
      | inl is ↦ is
      | inr ge ↦ absurd (let le : count_below keeps b ≤ count_below keeps x = count_rises keeps b x ge in omega arith)
    ]

-- and one that is renumbered from a's on is not below a
from_back : (keeps : ℕ → Bool) (a x : ℕ) → keeps x ≡ true → count_below keeps a ≤ count_below keeps x → a ≤ x
from_back keeps a x kept le =
    elim (cases_lt x a) [
      | inl lt ↦ absurd (let less : count_below keeps x < count_below keeps a = count_past keeps x a kept lt in omega arith)
      | inr is ↦ is
    ]

-- each new number comes from a kept one
pub kept_at : (keeps : ℕ → Bool) (n k : ℕ) → k < count_below keeps n →
    (x : ℕ) × ((x < n) × (keeps x ≡ true) × (count_below keeps x ≡ k))
kept_at keeps zero k lt = absurd (omega arith)
kept_at keeps (suc n) k lt =
    elim (cases_lt k (count_below keeps n)) [
      | inl before ↦ (let (x, is) = kept_at keeps n k before in (x, (omega (arith, is.0), is.1, is.2)))
      | inr here ↦
          elim (cases_Bool (keeps n)) [
            | inl kept ↦
                let one : one_if (keeps n) ≡ 1 = ap one_if kept in
                let all : count_below keeps (suc n) ≡ count_below keeps n + one_if (keeps n) = refl in
                (n, (omega arith, kept, omega arith))
            | inr none ↦ absurd (
                let zero' : one_if (keeps n) ≡ 0 = ap one_if none in
                let all : count_below keeps (suc n) ≡ count_below keeps n + one_if (keeps n) = refl in omega arith)
          ]
    ]

-- a table without an overlap is formed by the walk
table_of : (shape : Shape) (result : Result Table GridError) → HasNoOverlap (formed shape).cells →
    TableGives (formed shape) result → (t : Table) × TableMatches (formed shape) t
table_of shape (Ok t) one gives = (t, gives)
table_of shape (Err error) one found = absurd (overlaps error found)
  where
    overlaps : (error : GridError) → IsFound (formed shape) error → ⊥
    overlaps (Memory e) found = found
    overlaps (TooManyCells count) found = found
    overlaps (Overlap first second x y) found =
        let two : length (numbers_over x y (formed shape).cells) ≡ 2 = ap length found.0.two in omega (arith, one x y)
    overlaps (TooManyColumns count) found = found
    overlaps (TooManyRows count) found = found

-- each cell of such a table is shown by a block
shown : (shape : Shape) → AllSpans shape.groups → HasNoOverlap (formed shape).cells →
    AllByRecursion (λ cell. (b : Block) × IsShownBy (formed shape) cell b) (formed shape).cells
shown shape spans one =
    let (t, m) = table_of shape (place_all shape.groups) one (all_give shape (wide_groups shape.groups spans)) in
    all_shown (formed shape) t m

-- the column of an anchor is kept
column_kept : (cells : List FormedCell) (c : FormedCell) → IsIn c cells → keeps_column cells c.left ≡ true
column_kept cells c is = any_of (λ (d : FormedCell). eqb d.left c.left) cells c is (eq-eqb c.left c.left refl)

-- so is its row
row_kept : (cells : List FormedCell) (c : FormedCell) → IsIn c cells → keeps_row cells c.top ≡ true
row_kept cells c is = any_of (λ (d : FormedCell). eqb d.top c.top) cells c is (eq-eqb c.top c.top refl)

-- the place of a cell that a block shows
shown_placed : (s : Forming) (c : FormedCell) (b : Block) → IsIn c s.cells → IsShownBy s c b →
    IsPlaced (count_below (keeps_column s.cells) s.width) (count_below (keeps_row s.cells) s.height) (kept_place s c)
shown_placed s c b is shows =
    let left : c.left ≡ b.left = ap (λ (d : FormedCell). d.left) shows.same in
    let top : c.top ≡ b.top = ap (λ (d : FormedCell). d.top) shows.same in
    let P : Place → Type 0 = λ place. IsPlaced (count_below (keeps_column s.cells) s.width)
    (count_below (keeps_row s.cells) s.height) place in
    subst P (sym shows.place) (
      count_past (keeps_column s.cells) b.left b.right (sym (ap (keeps_column s.cells) left) ∙ column_kept s.cells c is)
          shows.sound.0,
      count_rises (keeps_column s.cells) b.right s.width shows.sound.1,
      count_past (keeps_row s.cells) b.top b.bottom (sym (ap (keeps_row s.cells) top) ∙ row_kept s.cells c is) shows.sound.2,
      count_rises (keeps_row s.cells) b.bottom s.height shows.sound.3,
    )

-- in a kept row a cell covers what its block does
covers_shown : (s : Forming) (c : FormedCell) (b : Block) (x y : ℕ) → IsShownBy s c b → keeps_row s.cells y ≡ true →
    covers x y c ≡ ((leb b.left x && ltb x b.right) && (leb b.top y && ltb y b.bottom))
covers_shown s c b x y shows kept =
    let left : c.left ≡ b.left = ap (λ (d : FormedCell). d.left) shows.same in
    let right : c.right ≡ b.right = ap (λ (d : FormedCell). d.right) shows.same in
    let masked : (keeps_row s.cells y && c.rows y) ≡ (keeps_row s.cells y && (leb b.top y && ltb y b.bottom)) =
    ap (λ (d : FormedCell). d.rows y) shows.same in
    let P : Bool → Type 0 = λ k. (k && c.rows y) ≡ (k && (leb b.top y && ltb y b.bottom)) in
    let rows : c.rows y ≡ (leb b.top y && ltb y b.bottom) = subst P kept masked in
    ap (λ l. (leb l x && ltb x c.right) && c.rows y) left
    ∙ ap (λ r. (leb b.left x && ltb x r) && c.rows y) right
    ∙ ap (λ r. (leb b.left x && ltb x b.right) && r) rows

-- a kept slot of a cell is one of its place
slot_of : (s : Forming) (c : FormedCell) (b : Block) (x y : ℕ) → IsShownBy s c b → keeps_column s.cells x ≡ true →
    keeps_row s.cells y ≡ true → covers x y c ≡ true →
    HasSlot (new_column s.cells x) (new_row s.cells y) (kept_place s c)
slot_of s c b x y shows column row has =
    let is = and_parts (leb b.left x && ltb x b.right) (leb b.top y && ltb y b.bottom)
    (sym (covers_shown s c b x y shows row) ∙ has) in
    let across = and_parts (leb b.left x) (ltb x b.right) is.0 in
    let down = and_parts (leb b.top y) (ltb y b.bottom) is.1 in
    let P : Place → Type 0 = λ place. HasSlot (new_column s.cells x) (new_row s.cells y) place in
    subst P (sym shows.place) (
      count_rises (keeps_column s.cells) b.left x (leb-true b.left x across.0),
      count_past (keeps_column s.cells) x b.right column (ltb-true x b.right across.1),
      count_rises (keeps_row s.cells) b.top y (leb-true b.top y down.0),
      count_past (keeps_row s.cells) y b.bottom row (ltb-true y b.bottom down.1),
    )

-- and the converse
slot_back : (s : Forming) (c : FormedCell) (b : Block) (x y : ℕ) → IsShownBy s c b → keeps_column s.cells x ≡ true →
    keeps_row s.cells y ≡ true → HasSlot (new_column s.cells x) (new_row s.cells y) (kept_place s c) →
    covers x y c ≡ true
slot_back s c b x y shows column row has =
    let P : Place → Type 0 = λ place. HasSlot (new_column s.cells x) (new_row s.cells y) place in
    let is = subst P shows.place has in
    covers_shown s c b x y shows row
    ∙ and_from (leb b.left x && ltb x b.right) (leb b.top y && ltb y b.bottom)
    (and_from (leb b.left x) (ltb x b.right)
    (le-leb b.left x (from_back (keeps_column s.cells) b.left x column is.0))
    (lt-ltb x b.right (below_back (keeps_column s.cells) x b.right is.1)))
    (and_from (leb b.top y) (ltb y b.bottom)
    (le-leb b.top y (from_back (keeps_row s.cells) b.top y row is.2))
    (lt-ltb y b.bottom (below_back (keeps_row s.cells) y b.bottom is.3)))

-- a slot of the place of a cell comes from a kept one
slot_from : (s : Forming) (c : FormedCell) (b : Block) (x y : ℕ) → IsIn c s.cells → IsShownBy s c b →
    HasSlot x y (kept_place s c) →
    (column row : ℕ) × (keeps_column s.cells column ≡ true) × (keeps_row s.cells row ≡ true) × (new_column s.cells column ≡ x) ×
    (new_row s.cells row ≡ y)
slot_from s c b x y is shows has =
    let placed = shown_placed s c b is shows in
    let (column, at) = kept_at (keeps_column s.cells) s.width x (omega (arith, has.1, placed.1)) in
    let (row, at') = kept_at (keeps_row s.cells) s.height y (omega (arith, has.3, placed.3)) in
    (column, row, at.1, at'.1, at.2, at'.2)

-- the kept slots of a cell are exactly those of its place
shown_keeps : (s : Forming) (c : FormedCell) (b : Block) → IsIn c s.cells → IsShownBy s c b → KeepsSlots s c
shown_keeps s c b is shows = record {
  same = λ x y column row. (slot_of s c b x y shows column row, slot_back s c b x y shows column row);
  whole = λ x y has. slot_from s c b x y is shows has;
}

-- The law of kept slots: the kept slots of each cell are exactly the slots of its place.
pub kept_slots : (shape : Shape) (grid : Grid) → AllSpans shape.groups → HasGrid shape grid →
    AllByRecursion (KeepsSlots (formed shape)) (formed shape).cells
kept_slots shape grid spans has =
    let all = shown shape spans has.no_overlap in
    all_from (KeepsSlots (formed shape)) (formed shape).cells
    (λ c is. let (b, shows) = all_at (λ cell. (b : Block) × IsShownBy (formed shape) cell b) (formed shape).cells c all is in
    shown_keeps (formed shape) c b is shows)

-- each place is that of a cell
place_at : (shape : Shape) (places : List Place) → ArePlaces shape places → (k : ℕ) (d : Place) →
    k < length places →
    (c : FormedCell) × (IsIn c (formed shape).cells × (c.number ≡ k) × (get_or places k d ≡ kept_place (formed shape) c))
place_at shape places are k d lt =
    let many : length places ≡ cell_count shape = are.as_many in
    let (c, is) = cell_numbered shape k (omega arith) in
    let stands : StandsAtNumber (formed shape) places c = all_at (StandsAtNumber (formed shape) places)
    (formed shape).cells c are.each is.0 in (
      c,
      (
        is.0,
        is.1,
        ap (λ i. get_or places i d) (sym is.1) ∙ get_or_from_slice_get places c.number (kept_place (formed shape) c)
            d stands,
      ),
    )

-- what holds of the place of each cell holds of each place
all_places : (shape : Shape) (places : List Place) (P : Place → Type 0) → ArePlaces shape places →
    ((c : FormedCell) → IsIn c (formed shape).cells → P (kept_place (formed shape) c)) → All P places
all_places shape places P are each k d lt =
    let (c, is) = place_at shape places are k d lt in subst P (sym is.2) (each c is.0)

-- what holds of the place of a cell holds of a place
any_place : (shape : Shape) (places : List Place) (P : Place → Type 0) (c : FormedCell) → ArePlaces shape places →
    IsIn c (formed shape).cells → P (kept_place (formed shape) c) → Any P places
any_place shape places P c are is holds =
    let stands : StandsAtNumber (formed shape) places c = all_at (StandsAtNumber (formed shape) places)
    (formed shape).cells c are.each is in (
      c.number,
      kept_place (formed shape) c,
      slice_get_within places c.number (kept_place (formed shape) c) stands,
      get_or_from_slice_get places c.number (kept_place (formed shape) c) (kept_place (formed shape) c) stands,
      holds,
    )

-- Each place has a slot, and lies within the grid.
pub all_within : (shape : Shape) (grid : Grid) → AllSpans shape.groups → HasGrid shape grid →
    All (IsPlaced grid.cols grid.rows) grid.places
all_within shape grid spans has =
    let s : Forming = formed shape in
    let all = shown shape spans has.no_overlap in
    all_places shape grid.places (IsPlaced grid.cols grid.rows) has.places
    (λ c is. let (b, shows) = all_at (λ cell. (b : Block) × IsShownBy s cell b) s.cells c all is in
    let P : ℕ → Type 0 = λ cols. IsPlaced cols grid.rows (kept_place s c) in
    let Q : ℕ → Type 0 = λ rows. IsPlaced (count_below (keeps_column s.cells) s.width) rows (kept_place s c) in
    subst P (sym has.columns) (subst Q (sym has.rows) (shown_placed s c b is shows)))

-- two cells whose places share a slot are one
same_slot : (shape : Shape) → HasNoOverlap (formed shape).cells →
    AllByRecursion (KeepsSlots (formed shape)) (formed shape).cells → (c d : FormedCell) (x y : ℕ) →
    IsIn c (formed shape).cells → IsIn d (formed shape).cells → HasSlot x y (kept_place (formed shape) c) →
    HasSlot x y (kept_place (formed shape) d) → c ≡ d
same_slot shape one keeps c d x y is is' has has' =
    let s : Forming = formed shape in
    let kc : KeepsSlots s c = all_at (KeepsSlots s) s.cells c keeps is in
    let kd : KeepsSlots s d = all_at (KeepsSlots s) s.cells d keeps is' in
    let (column, row, kept, kept', to, to') = kc.whole x y has in
    let P : ℕ → ℕ → FormedCell → Type 0 = λ i j e. HasSlot i j (kept_place s e) in
    let back : (e : FormedCell) → HasSlot x y (kept_place s e) → HasSlot (new_column s.cells column) (new_row s.cells row)
    (kept_place s e) =
    λ e h. subst (λ i. P i (new_row s.cells row) e) (sym to) (subst (λ j. P x j e) (sym to') h) in
    one_passes (covers column row) s.cells c d
    (let over : length (cells_over column row s.cells) ≡ length (numbers_over column row s.cells)
    = sym (length-map (cells_over column row s.cells) number_of) in
    omega (arith, one column row))
    is is' ((kc.same column row kept kept').1 (back c has)) ((kd.same column row kept kept').1 (back d has'))

-- No two places share a slot.
pub all_apart : (shape : Shape) (grid : Grid) → AllSpans shape.groups → HasGrid shape grid → AllPairs AreApart grid.places
all_apart shape grid spans has i j d lt below x y first second =
    let s : Forming = formed shape in
    let (c, is) = place_at shape grid.places has.places i d (omega arith) in
    let (c', is') = place_at shape grid.places has.places j d below in
    let P : Place → Type 0 = λ place. HasSlot x y place in
    let same : c ≡ c' = same_slot shape has.no_overlap (kept_slots shape grid spans has) c c' x y is.0 is'.0
    (subst P is.2 first) (subst P is'.2 second) in
    let number : c.number ≡ c'.number = ap number_of same in
    omega (arith, is.1, is'.1)

-- Places that are apart do not overlap both across and down.
pub edges_apart : (cols rows : ℕ) (p q : Place) → IsPlaced cols rows p → IsPlaced cols rows q → AreApart p q →
    p.left < q.right → q.left < p.right → p.top < q.bottom → q.top < p.bottom → ⊥
edges_apart cols rows p q is is' apart across across' down down' =
    apart (max p.left q.left) (max p.top q.top)
    (omega arith, omega (arith, is.0), omega arith, omega (arith, is.2))
    (omega arith, omega (arith, is'.0), omega arith, omega (arith, is'.2))

-- In each column a cell is anchored.
pub all_columns : (shape : Shape) (grid : Grid) → HasGrid shape grid → (x : ℕ) → x < grid.cols → HasAnchorInColumn grid.places x
all_columns shape grid has x lt =
    let s : Forming = formed shape in
    let (column, at) = kept_at (keeps_column s.cells) s.width x (omega (arith, has.columns)) in
    let (c, is) = any_in (λ (d : FormedCell). eqb d.left column) s.cells at.1 in
    any_place shape grid.places (λ (place : Place). place.left ≡ x) c has.places is.0
    (ap (new_column s.cells) (eqb-true c.left column is.1) ∙ at.2)

-- In each row a cell is anchored.
pub all_rows : (shape : Shape) (grid : Grid) → HasGrid shape grid → (y : ℕ) → y < grid.rows → HasAnchorInRow grid.places y
all_rows shape grid has y lt =
    let s : Forming = formed shape in
    let (row, at) = kept_at (keeps_row s.cells) s.height y (omega (arith, has.rows)) in
    let (c, is) = any_in (λ (d : FormedCell). eqb d.top row) s.cells at.1 in
    any_place shape grid.places (λ (place : Place). place.top ≡ y) c has.places is.0
    (ap (new_row s.cells) (eqb-true c.top row is.1) ∙ at.2)

-- All slots to the left of an anchored cell are covered in its row.
pub all_filled : (shape : Shape) (grid : Grid) → AllSpans shape.groups → HasGrid shape grid →
    All (IsFilledToLeft grid.places) grid.places
all_filled shape grid spans has =
    let s : Forming = formed shape in
    let keeps = kept_slots shape grid spans has in
    all_places shape grid.places (IsFilledToLeft grid.places) has.places
    (λ c is x lt. let (column, at) = kept_at (keeps_column s.cells) c.left x lt in
    let filled : IsFilled s.cells c = all_at (IsFilled s.cells) s.cells c (formed_filled shape) is in
    let (d, over) = any_in (covers column c.top) s.cells (filled column at.0) in
    let kd : KeepsSlots s d = all_at (KeepsSlots s) s.cells d keeps over.0 in
    let P : ℕ → Type 0 = λ i. HasSlot i (new_row s.cells c.top) (kept_place s d) in
    any_place shape grid.places (HasSlot x (new_row s.cells c.top)) d has.places over.0
    (subst P at.2 ((kd.same column c.top at.1 (row_kept s.cells c is)).0 over.1)))
