-- The blocks' dropped grid is the definition's.
use Rattle.std.proofs.Common.{◌≡◌, ℕ, ◌+◌, ◌<◌, ◌≤◌, zero, suc, Bool, true, false, ◌&&◌, ◌||◌, ltb, leb, eqb, List, [], ◌∷◌, map}
use Rattle.std.proofs.Common.{length, refl, sym}
use Rattle.std.proofs.Common.{ap, ◌∙◌, subst, inl, inr, arith}
use Rattle.std.specs.List.{AllByRecursion}
use Rattle.std.specs.List.Sorted.{IsStrictlyIncreasing}
use Rattle.std.proofs.lemmas.Bool.{lt-ltb, le-ltb, le-leb, lt-leb, ne_eqb, cases_lt, and_left, and_right}
use Rattle.tl_grid.specs.declared.block.Block.{Block}
use Rattle.tl_grid.specs.declared.table.Table.{Table}
use Rattle.tl_grid.specs.declared.shape.Place.{Place}
use Rattle.tl_grid.specs.Forming.{FormedCell, Forming}
use Rattle.tl_grid.specs.Dropping.{count_below, keeps_column, keeps_row, new_column, new_row, kept_place}
use Rattle.tl_base.specs.Lists.{is_among}
use Rattle.tl_base.proofs.Members.{is_among-cons}
use Rattle.tl_grid.specs.inner.Places.{begins_in_column, begins_in_row, place_by}
use Rattle.std.proofs.lemmas.Simd.{map-map}
use Rattle.tl_grid.proofs.Cells.{number_of, block_number}
use Rattle.tl_grid.proofs.Members.{all_from_map, all_to_map}
use Rattle.tl_grid.proofs.Rows.{IsSound}
use Rattle.tl_grid.proofs.Tables.{mask, whole, TableMatches}
use Rattle.tl_grid.proofs.Counts.{one_if, count_same, count_among, count_whole, rises_from}

-- the cells that are looked at in the rows with an anchor are the blocks
masked : (s : Forming) (t : Table) → TableMatches s t → map (mask (keeps_row s.cells)) s.cells ≡ map (mask (keeps_row s.cells))
    (map whole t.blocks)
masked s t m = m.pairs (keeps_row s.cells) (λ y lt. refl)

-- the columns kept do not depend on rows
columns_of_masked : (keeps : ℕ → Bool) (cs : List FormedCell) (x : ℕ) → keeps_column (map (mask keeps) cs) x ≡ keeps_column cs x
columns_of_masked keeps [] x = refl
columns_of_masked keeps (c ∷ cs) x = ap (λ t. eqb c.left x || t) (columns_of_masked keeps cs x)

-- nor do the anchors' rows depend on the rows covered
rows_of_masked : (keeps : ℕ → Bool) (cs : List FormedCell) (y : ℕ) → keeps_row (map (mask keeps) cs) y ≡ keeps_row cs y
rows_of_masked keeps [] y = refl
rows_of_masked keeps (c ∷ cs) y = ap (λ t. eqb c.top y || t) (rows_of_masked keeps cs y)

-- the columns in which blocks begin
columns_of_whole : (bs : List Block) (x : ℕ) → keeps_column (map whole bs) x ≡ begins_in_column bs x
columns_of_whole [] x = refl
columns_of_whole (b ∷ bs) x = ap (λ t. eqb b.left x || t) (columns_of_whole bs x) ∙ sym
    (is_among-cons b.left (map (λ (block : Block). block.left) bs) x)

-- and the rows
rows_of_whole : (bs : List Block) (y : ℕ) → keeps_row (map whole bs) y ≡ begins_in_row bs y
rows_of_whole [] y = refl
rows_of_whole (b ∷ bs) y = ap (λ t. eqb b.top y || t) (rows_of_whole bs y) ∙ sym
    (is_among-cons b.top (map (λ (block : Block). block.top) bs) y)

-- the same columns and rows are kept
pub same_columns : (s : Forming) (t : Table) → TableMatches s t → (x : ℕ) → keeps_column s.cells x ≡ begins_in_column t.blocks x
same_columns s t m x =
    sym (columns_of_masked (keeps_row s.cells) s.cells x) ∙ ap (λ cs. keeps_column cs x) (masked s t m)
    ∙ columns_of_masked (keeps_row s.cells) (map whole t.blocks) x ∙ columns_of_whole t.blocks x

-- and rows
pub same_rows : (s : Forming) (t : Table) → TableMatches s t → (y : ℕ) → keeps_row s.cells y ≡ begins_in_row t.blocks y
same_rows s t m y =
    sym (rows_of_masked (keeps_row s.cells) s.cells y) ∙ ap (λ cs. keeps_row cs y) (masked s t m)
    ∙ rows_of_masked (keeps_row s.cells) (map whole t.blocks) y ∙ rows_of_whole t.blocks y

-- none begins past the table's width or height
pub no_column : (width height : ℕ) (bs : List Block) → AllByRecursion (IsSound width height) bs → (x : ℕ) → width ≤ x →
    begins_in_column bs x ≡ false
no_column width height [] sound x le = refl
no_column width height (b ∷ bs) sound x le =
    is_among-cons b.left (map (λ (block : Block). block.left) bs) x
    ∙ ap (λ t. t || begins_in_column bs x) (ne_eqb b.left x (λ e. omega (arith, sound.0.0, sound.0.1)))
    ∙ no_column width height bs sound.1 x le

-- and none below its height
pub no_row : (width height : ℕ) (bs : List Block) → AllByRecursion (IsSound width height) bs → (y : ℕ) → height ≤ y →
    begins_in_row bs y ≡ false
no_row width height [] sound y le = refl
no_row width height (b ∷ bs) sound y le =
    is_among-cons b.top (map (λ (block : Block). block.top) bs) y
    ∙ ap (λ t. t || begins_in_row bs y) (ne_eqb b.top y (λ e. omega (arith, sound.0.2, sound.0.3)))
    ∙ no_row width height bs sound.1 y le

-- how many are kept
pub column_count : (s : Forming) (t : Table) (ks : List ℕ) → TableMatches s t → IsStrictlyIncreasing ks →
    ((x : ℕ) → is_among ks x ≡ begins_in_column t.blocks x) →
    count_below (keeps_column s.cells) s.width ≡ length ks
column_count s t ks m up same =
    count_same (keeps_column s.cells) (is_among ks) (λ x. same_columns s t m x ∙ sym (same x)) s.width
    ∙ count_among 0 s.width ks (rises_from 0 ks up (λ has. omega arith))
    ∙ count_whole s.width ks (λ x le. same x ∙ no_column s.width s.height t.blocks m.sound x le)

-- and how many rows
pub row_count : (s : Forming) (t : Table) (ks : List ℕ) → TableMatches s t → IsStrictlyIncreasing ks →
    ((y : ℕ) → is_among ks y ≡ begins_in_row t.blocks y) →
    count_below (keeps_row s.cells) s.height ≡ length ks
row_count s t ks m up same =
    count_same (keeps_row s.cells) (is_among ks) (λ y. same_rows s t m y ∙ sym (same y)) s.height
    ∙ count_among 0 s.height ks (rises_from 0 ks up (λ has. omega arith))
    ∙ count_whole s.height ks (λ y le. same y ∙ no_row s.width s.height t.blocks m.sound y le)

-- what is kept from a on and before b
abbrev between : (ℕ → Bool) → ℕ → ℕ → ℕ → Bool
between keeps a b x = keeps x && (leb a x && ltb x b)

-- a test that passes adds nothing
and_true : (b : Bool) → (b && true) ≡ b
and_true true = refl
and_true false = refl

-- within the bounds the test alone counts
between_in : (keeps : ℕ → Bool) (a b x : ℕ) → a ≤ x → x < b → between keeps a b x ≡ keeps x
between_in keeps a b x le lt =
    ap (λ t. keeps x && (t && ltb x b)) (le-leb a x le) ∙ ap (λ t. keeps x && t) (lt-ltb x b lt) ∙ and_true (keeps x)

-- outside of them nothing counts
between_out : (keeps : ℕ → Bool) (a b x : ℕ) → (leb a x && ltb x b) ≡ false → between keeps a b x ≡ false
between_out keeps a b x e = and_right (keeps x) (leb a x && ltb x b) e

-- up to a nothing, then what is kept, then nothing more
count_early : (keeps : ℕ → Bool) (a b n : ℕ) → n ≤ a → count_below (between keeps a b) n ≡ 0
count_early keeps a b zero le = refl
count_early keeps a b (suc n) le =
    let rest : count_below (between keeps a b) n ≡ 0 = count_early keeps a b n (omega arith) in
    let here : one_if (between keeps a b n) ≡ 0 =
    ap one_if (between_out keeps a b n (and_left (leb a n) (ltb n b) (lt-leb a n (omega arith)))) in
    omega arith

-- up to the end of the bounds
count_within : (keeps : ℕ → Bool) (a b n : ℕ) → a ≤ n → n ≤ b →
    count_below keeps a + count_below (between keeps a b) n ≡ count_below keeps n
count_within keeps a b zero le le' =
    let start : a ≡ 0 = omega arith in ap (λ k. count_below keeps k + 0) start
count_within keeps a b (suc n) le le' =
    elim (cases_lt n a) [
      | inl lt ↦
          let none : count_below (between keeps a b) (suc n) ≡ 0 = count_early keeps a b (suc n) (omega arith) in
          let end : a ≡ suc n = omega arith in
          let same : count_below keeps a ≡ count_below keeps (suc n) = ap (count_below keeps) end in
          omega arith
      | inr ge ↦
          let rest : count_below keeps a + count_below (between keeps a b) n ≡ count_below keeps n =
          count_within keeps a b n ge (omega arith) in
          let here : one_if (between keeps a b n) ≡ one_if (keeps n) =
          ap one_if (between_in keeps a b n ge (omega arith)) in
          omega arith
    ]

-- what is kept between a and b, by the counts up to both
pub count_between : (keeps : ℕ → Bool) (a b n : ℕ) → a ≤ b → b ≤ n →
    count_below keeps a + count_below (between keeps a b) n ≡ count_below keeps b
count_between keeps a b zero le le' =
    let end : b ≡ 0 = omega arith in
    let start : a ≡ 0 = omega arith in
    ap (λ k. count_below keeps k + 0) start ∙ sym (ap (count_below keeps) end)
count_between keeps a b (suc n) le le' =
    elim (cases_lt n b) [
      | inl lt ↦
          let end : b ≡ suc n = omega arith in
          count_within keeps a b (suc n) (omega arith) (omega arith) ∙ ap (count_below keeps) (sym end)
      | inr ge ↦
          let rest : count_below keeps a + count_below (between keeps a b) n ≡ count_below keeps b =
          count_between keeps a b n le ge in
          let here : one_if (between keeps a b n) ≡ 0 =
          ap one_if (between_out keeps a b n (and_right (leb a n) (ltb n b) (le-ltb n b ge))) in
          omega arith
    ]

-- the place of a cell, by what the rows with an anchor show of it
abbrev place_shown : Forming → FormedCell → Place
place_shown s c = record {
  left = new_column s.cells c.left;
  right = new_column s.cells c.left + count_below (between (keeps_column s.cells) c.left c.right) s.width;
  top = new_row s.cells c.top;
  bottom = new_row s.cells c.top + count_below c.rows s.height;
}

-- the place of a sound block
block_place : (s : Forming) (b : Block) → IsSound s.width s.height b →
    place_shown s (mask (keeps_row s.cells) (whole b)) ≡ place_by (keeps_column s.cells) (keeps_row s.cells) b
block_place s b sound =
    let right = count_between (keeps_column s.cells) b.left b.right s.width (omega (arith, sound.0)) sound.1 in
    let bottom = count_between (keeps_row s.cells) b.top b.bottom s.height (omega (arith, sound.2)) sound.3 in
    λ i. record {
      left = new_column s.cells b.left;
      right = right i;
      top = new_row s.cells b.top;
      bottom = bottom i;
    }

-- the block shows where the cell is
pub record IsShownBy (s : Forming) (cell : FormedCell) (b : Block) : Type 0 where
  pub same : mask (keeps_row s.cells) cell ≡ mask (keeps_row s.cells) (whole b)
  pub sound : IsSound s.width s.height b
  pub place : kept_place s cell ≡ place_by (keeps_column s.cells) (keeps_row s.cells) b

-- a block shows a cell that looks alike where rows are kept
shows : (s : Forming) (cell : FormedCell) (b : Block) →
    mask (keeps_row s.cells) cell ≡ mask (keeps_row s.cells) (whole b) → IsSound s.width s.height b →
    IsShownBy s cell b
shows s cell b same sound = record {
  same = same;
  sound = sound;
  place = ap (place_shown s) same ∙ block_place s b sound;
}

-- lists of cells and blocks that look alike do so one by one
shown_each : (s : Forming) (cells : List FormedCell) (bs : List Block) →
    map (mask (keeps_row s.cells)) cells ≡ map (mask (keeps_row s.cells)) (map whole bs) →
    AllByRecursion (IsSound s.width s.height) bs →
    AllByRecursion (λ cell. (b : Block) × IsShownBy s cell b) cells
shown_each s [] bs same sound = tt
shown_each s (cell ∷ cells) [] same sound = cc
shown_each s (cell ∷ cells) (b ∷ bs) same sound =
    let first : mask (keeps_row s.cells) cell ≡ mask (keeps_row s.cells) (whole b) = cc in
    let rest : map (mask (keeps_row s.cells)) cells ≡ map (mask (keeps_row s.cells)) (map whole bs) = cc in
    ((b, shows s cell b first sound.0), shown_each s cells bs rest sound.1)

-- each cell of a table that was formed is shown by a block
pub all_shown : (s : Forming) (t : Table) → TableMatches s t → AllByRecursion (λ cell. (b : Block) × IsShownBy s cell b) s.cells
all_shown s t m = shown_each s s.cells t.blocks (masked s t m) m.sound

-- what holds of the blocks' numbers and places holds of the cells'
pub all_placed : (s : Forming) (t : Table) (P : ℕ → Place → Type 0) → TableMatches s t →
    AllByRecursion (λ (b : Block). P b.number (place_by (keeps_column s.cells) (keeps_row s.cells) b)) t.blocks →
    AllByRecursion (λ (cell : FormedCell). P cell.number (kept_place s cell)) s.cells
all_placed s t P m all =
    let keeps : ℕ → Bool = keeps_row s.cells in
    let Q : FormedCell → Type 0 = λ cell. P cell.number (place_shown s cell) in
    let R : List FormedCell → Type 0 = λ cells. AllByRecursion Q cells in
    all_from_map Q (mask keeps) s.cells
    (subst R (sym (masked s t m))
    (all_to_map Q (mask keeps) (map whole t.blocks)
    (all_to_map (λ cell. Q (mask keeps cell)) whole t.blocks (each t.blocks m.sound all))))
  where
    each : (bs : List Block) → AllByRecursion (IsSound s.width s.height) bs →
        AllByRecursion (λ (b : Block). P b.number (place_by (keeps_column s.cells) (keeps_row s.cells) b)) bs →
        AllByRecursion (λ (b : Block). P b.number (place_shown s (mask (keeps_row s.cells) (whole b)))) bs
    each [] sound all = tt
    each (b ∷ bs) sound all = (
      (let T : Place → Type 0 = λ place. P b.number place in subst T (sym (block_place s b sound.0)) all.0),
      each bs sound.1 all.1,
    )

-- the cells and the blocks have the same numbers
pub same_numbers : (s : Forming) (t : Table) → TableMatches s t → map number_of s.cells ≡ map block_number t.blocks
same_numbers s t m =
    let keeps : ℕ → Bool = keeps_row s.cells in
    sym (map-map number_of (mask keeps) s.cells) ∙ ap (map number_of) (masked s t m)
    ∙ map-map number_of (mask keeps) (map whole t.blocks) ∙ map-map number_of whole t.blocks
