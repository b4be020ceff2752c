-- The cells of fields: each has a paragraph or none, no table, and no more than its field.
use Rattle.std.proofs.Common.{◌≡◌, ◌∙◌, ℕ, zero, suc, ◌+◌, ◌<◌, ◌≤◌, ◌==◌, Bool, true, false, List, [], ◌∷◌, ◌++◌, length, map}
use Rattle.std.proofs.Common.{length-append}
use Rattle.std.proofs.Common.{sum_by, if◌then◌else◌, slice_index, refl, sym, ap, subst, arith}
use Rattle.std.specs.List.{All, AllByRecursion, AllZip, flat_map}
use Rattle.std.specs.Str.{IsUtf8, chars}
use Rattle.std.proofs.lemmas.List.Elements.{All-from_recursion, All-head, All-tail}
use Rattle.std.proofs.lemmas.List.Sums.{sum_by-append, sum_by-cons}
use Rattle.tl_base.specs.declared.breaking.Breaking.{Breaking}
use Rattle.tl_base.specs.declared.limits.TheConstants.{MAX_FILE_BYTES, MAX_PAGE_WIDTH}
use Rattle.tl_base.proofs.Members.{AllByRecursion-append}
use Rattle.tl_base.proofs.Texts.{byte_count-chars}
use Rattle.tl_text.specs.declared.paragraph.Atom.TheVariants.{Word}
use Rattle.tl_text.specs.Paragraph.{atom_size, IsParagraph}
use Rattle.tl_text.specs.Words.{words_of}
use Rattle.tl_text.proofs.WordParagraphs.{words_are_paragraph}
use Rattle.tl_table.specs.declared.cell.Content.{Content, out-Content}
use Rattle.tl_table.specs.declared.cell.Content.TheOpen as open_content
use Rattle.tl_table.specs.declared.cell.TableCell.{TableCell, out-TableCell}
use Rattle.tl_table.specs.Formed.{broken}
use Rattle.tl_table.proofs.SpeltBlocks.{broken-paragraph}
use Rattle.tl_table.specs.Sound.{cell_size, content_size, nested_in_cell, nested_in_content, numbers_in_cell, numbers_in_content}
use Rattle.tl_table.specs.Sound.{place_of, IsSpeltBlock}
use Rattle.tl_table.specs.Tables.{OpenContent, tables_in, tables_of}
use Rattle.tl_table.proofs.NumbersOpen.{numbers_in_cell-out, numbers_in_content-out, open_numbers}
use Rattle.tl_table.proofs.SizesOpen.{cell_size-out, content_size-out, nested_in_cell-out, nested_in_content-out}
use Rattle.tl_table.proofs.SizesOpen.{open_size, open_tables}
use Rattle.tl_columns.specs.Columns.{blocks_of_words, floor_in, placed_fields, IsFieldCell, PlacedField}
use Rattle.tl_columns.specs.Records.{Fields, column_count, field_count}
use Rattle.tl_columns.specs.Refused.{AreWellFormed, IsWellFormed}
use Rattle.tl_columns.specs.inner.Sizes.{record_size}
use Rattle.tl_columns.proofs.Slots.{row_from, rows_from, slot_of}
use Rattle.tl_columns.proofs.WordSizes.{units_size}

-- ---- a block

-- a block that is a paragraph
abbrev pub IsText : OpenContent → Type 0
IsText (open_content.Para paragraph) = IsParagraph paragraph
IsText (open_content.Table box) = ⊥

-- each block of a cell is a paragraph
abbrev pub IsTextCell : TableCell → Type 0
IsTextCell cell = AllByRecursion (λ block. IsText (out-Content block)) (out-TableCell cell).blocks

-- a field that a table may have: text, within the limit of a file
abbrev pub IsField : List ℕ → Type 0
IsField field = IsUtf8 field × (length field ≤ MAX_FILE_BYTES)

text_opens : (breaking : Breaking) (field : List ℕ) → IsField field →
    AllByRecursion IsText (blocks_of_words breaking (words_of (chars field)))
text_opens breaking field (utf8, small) =
    by (words_of (chars field)) (λ some. words_are_paragraph (chars field) (omega (arith, byte_count-chars field utf8)) some)
  where
    by : (words : List (List ℕ)) → (0 < length words → IsParagraph (map Word words)) →
        AllByRecursion IsText (blocks_of_words breaking words)
    by [] is = tt
    by (word ∷ words) is = (broken-paragraph breaking (map Word (word ∷ words)) (is (omega arith)), tt)

-- what holds of each block by its fields
pub opened : (P : OpenContent → Type 0) (blocks : List Content) → AllByRecursion P (map out-Content blocks) →
    AllByRecursion (λ block. P (out-Content block)) blocks
opened P [] each = tt
opened P (block ∷ blocks) each = (each.0, opened P blocks each.1)

opens_size : (blocks : List Content) → sum_by content_size blocks ≡ sum_by open_size (map out-Content blocks)
opens_size [] = refl
opens_size (block ∷ blocks) = omega (
  arith,
  sum_by-cons content_size block blocks,
  sum_by-cons open_size (out-Content block) (map out-Content blocks),
  content_size-out block,
  opens_size blocks,
)

blocks_size : (breaking : Breaking) (field : List ℕ) → IsUtf8 field →
    sum_by open_size (blocks_of_words breaking (words_of (chars field))) ≤ length field
blocks_size breaking field utf8 = by (words_of (chars field)) (units_size breaking field utf8)
  where
    by : (words : List (List ℕ)) → sum_by atom_size (broken breaking (map Word words)) ≤ length field →
        sum_by open_size (blocks_of_words breaking words) ≤ length field
    by [] small = omega arith
    by (word ∷ words) small =
        omega (arith, small, sum_by-cons open_size (open_content.Para (broken breaking (map Word (word ∷ words)))) [])

-- ---- a cell whose blocks are paragraphs has no table

no_tables : (block : OpenContent) → IsText block → tables_of block ≡ []
no_tables (open_content.Para paragraph) is = refl
no_tables (open_content.Table box) is = absurd is

spelt_block : (block : OpenContent) → IsText block → IsSpeltBlock block
spelt_block (open_content.Para paragraph) is = is
spelt_block (open_content.Table box) is = absurd is

none_nested : (block : Content) → IsText (out-Content block) → nested_in_content block ≡ 0
none_nested block is = nested_in_content-out block ∙ by (out-Content block) is
  where
    by : (content : OpenContent) → IsText content → open_tables content ≡ 0
    by (open_content.Para paragraph) is = refl
    by (open_content.Table box) is = absurd is

none_numbered : (block : Content) → IsText (out-Content block) → numbers_in_content block ≡ []
none_numbered block is = numbers_in_content-out block ∙ by (out-Content block) is
  where
    by : (content : OpenContent) → IsText content → open_numbers content ≡ []
    by (open_content.Para paragraph) is = refl
    by (open_content.Table box) is = absurd is

-- where each gives nothing, all give nothing
joined_none : {X Y : Type 0} (f : X → List Y) (P : X → Type 0) (none : (x : X) → P x → f x ≡ []) (xs : List X) →
    AllByRecursion P xs → flat_map f xs ≡ []
joined_none f P none [] each = refl
joined_none {X} {Y} f P none (x ∷ xs) each =
    ap (λ (ys : List Y). ys ++ flat_map f xs) (none x each.0) ∙ joined_none f P none xs each.1

summed_none : {X : Type 0} (f : X → ℕ) (P : X → Type 0) (none : (x : X) → P x → f x ≡ 0) (xs : List X) →
    AllByRecursion P xs → sum_by f xs ≡ 0
summed_none f P none [] each = refl
summed_none f P none (x ∷ xs) each =
    omega (arith, sum_by-cons f x xs, none x each.0, summed_none f P none xs each.1)

cell_tables_none : (cell : TableCell) → IsTextCell cell → tables_in (out-TableCell cell) ≡ []
cell_tables_none cell is =
    joined_none (λ block. tables_of (out-Content block)) (λ block. IsText (out-Content block))
    (λ block text. no_tables (out-Content block) text) (out-TableCell cell).blocks is

cell_nested_none : (cell : TableCell) → IsTextCell cell → nested_in_cell cell ≡ 0
cell_nested_none cell is =
    nested_in_cell-out cell
    ∙ summed_none nested_in_content (λ block. IsText (out-Content block)) none_nested (out-TableCell cell).blocks is

cell_numbers_none : (cell : TableCell) → IsTextCell cell → numbers_in_cell cell ≡ []
cell_numbers_none cell is =
    numbers_in_cell-out cell
    ∙ joined_none numbers_in_content (λ block. IsText (out-Content block)) none_numbered (out-TableCell cell).blocks is

pub tables_none : (cells : List TableCell) → AllByRecursion IsTextCell cells →
    flat_map (λ cell. tables_in (out-TableCell cell)) cells ≡ []
tables_none cells each = joined_none (λ cell. tables_in (out-TableCell cell)) IsTextCell cell_tables_none cells each

pub nested_none : (cells : List TableCell) → AllByRecursion IsTextCell cells → sum_by nested_in_cell cells ≡ 0
nested_none cells each = summed_none nested_in_cell IsTextCell cell_nested_none cells each

pub numbers_none : (cells : List TableCell) → AllByRecursion IsTextCell cells → flat_map numbers_in_cell cells ≡ []
numbers_none cells each = joined_none numbers_in_cell IsTextCell cell_numbers_none cells each

spelt_blocks : (blocks : List Content) → AllByRecursion (λ block. IsText (out-Content block)) blocks →
    AllByRecursion (λ block. IsSpeltBlock (out-Content block)) blocks
spelt_blocks [] each = tt
spelt_blocks (block ∷ blocks) each = (spelt_block (out-Content block) each.0, spelt_blocks blocks each.1)

spelt_cells : (cells : List TableCell) → AllByRecursion IsTextCell cells →
    AllByRecursion (λ cell. AllByRecursion (λ block. IsSpeltBlock (out-Content block)) (out-TableCell cell).blocks) cells
spelt_cells [] each = tt
spelt_cells (cell ∷ cells) each = (spelt_blocks (out-TableCell cell).blocks each.0, spelt_cells cells each.1)

pub all_spelt : (cells : List TableCell) → AllByRecursion IsTextCell cells →
    All (λ cell. AllByRecursion (λ block. IsSpeltBlock (out-Content block)) (out-TableCell cell).blocks) cells
all_spelt cells each =
    All-from_recursion (λ cell. AllByRecursion (λ block. IsSpeltBlock (out-Content block)) (out-TableCell cell).blocks) cells
    (spelt_cells cells each)

-- ---- the cells of fields

floor_small : (floors : List ℕ) (k : ℕ) → All (λ floor. floor ≤ MAX_PAGE_WIDTH) floors →
    slice_index floors k ≤ MAX_PAGE_WIDTH
floor_small [] k small = omega arith
floor_small (floor ∷ floors) zero small = All-head (λ (n : ℕ). n ≤ MAX_PAGE_WIDTH) floor floors small
floor_small (floor ∷ floors) (suc k) small =
    floor_small floors k (All-tail (λ (n : ℕ). n ≤ MAX_PAGE_WIDTH) floor floors small)

floor_narrow : (floors : List ℕ) (row column : ℕ) → All (λ floor. floor ≤ MAX_PAGE_WIDTH) floors →
    floor_in floors row column ≤ MAX_PAGE_WIDTH
floor_narrow floors row column small = by (row == 0)
  where
    by : (first : Bool) → (if first then slice_index floors column else 0) ≤ MAX_PAGE_WIDTH
    by true = floor_small floors column small
    by false = omega arith

module _ (head : Bool) (floors : List ℕ) (breaking : Breaking) where
  -- the cells are those of the fields, in order
  abbrev pub AreCellsOf : List PlacedField → List TableCell → Type 0
  AreCellsOf ats cells = AllZip (λ at cell. IsFieldCell head floors breaking at (out-TableCell cell)) ats cells

  pub text_cells : (ats : List PlacedField) (cells : List TableCell) → AreCellsOf ats cells →
      AllByRecursion (λ at. IsField at.field) ats → AllByRecursion IsTextCell cells
  text_cells [] [] are each = tt
  text_cells [] (cell ∷ cells) are each = absurd are
  text_cells (at ∷ ats) [] are each = absurd are
  text_cells (at ∷ ats) (cell ∷ cells) are each = (
    opened IsText (out-TableCell cell).blocks (subst (AllByRecursion IsText) (sym are.0.blocks)
        (text_opens breaking at.field each.0)),
    text_cells ats cells are.1 each.1,
  )

  pub cells_places : (ats : List PlacedField) (cells : List TableCell) → AreCellsOf ats cells →
      map place_of cells ≡ map slot_of ats
  cells_places [] [] are = refl
  cells_places [] (cell ∷ cells) are = absurd are
  cells_places (at ∷ ats) [] are = absurd are
  cells_places (at ∷ ats) (cell ∷ cells) are =
      let here = are.0.place in
      let later = cells_places ats cells are.1 in
      λ i. here i ∷ later i

  cells_narrow_by : (ats : List PlacedField) (cells : List TableCell) → AreCellsOf ats cells →
      All (λ floor. floor ≤ MAX_PAGE_WIDTH) floors →
      AllByRecursion (λ cell. (out-TableCell cell).least ≤ MAX_PAGE_WIDTH) cells
  cells_narrow_by [] [] are small = tt
  cells_narrow_by [] (cell ∷ cells) are small = absurd are
  cells_narrow_by (at ∷ ats) [] are small = absurd are
  cells_narrow_by (at ∷ ats) (cell ∷ cells) are small = (
    omega (arith, are.0.least, floor_narrow floors at.row at.column small),
    cells_narrow_by ats cells are.1 small,
  )

  pub cells_narrow : (ats : List PlacedField) (cells : List TableCell) → AreCellsOf ats cells →
      All (λ floor. floor ≤ MAX_PAGE_WIDTH) floors → All (λ cell. (out-TableCell cell).least ≤ MAX_PAGE_WIDTH) cells
  cells_narrow ats cells are small =
      All-from_recursion (λ cell. (out-TableCell cell).least ≤ MAX_PAGE_WIDTH) cells (cells_narrow_by ats cells are small)

  pub cells_size : (ats : List PlacedField) (cells : List TableCell) → AreCellsOf ats cells →
      AllByRecursion (λ at. IsField at.field) ats →
      sum_by cell_size cells ≤ sum_by (λ at. length at.field + 1) ats
  cells_size [] [] are each = omega arith
  cells_size [] (cell ∷ cells) are each = absurd are
  cells_size (at ∷ ats) [] are each = absurd are
  cells_size (at ∷ ats) (cell ∷ cells) are each = omega (
    arith,
    sum_by-cons cell_size cell cells,
    sum_by-cons (λ (one : PlacedField). length one.field + 1) at ats,
    cell_size-out cell,
    opens_size (out-TableCell cell).blocks,
    ap (sum_by open_size) are.0.blocks,
    blocks_size breaking at.field each.0.0,
    cells_size ats cells are.1 each.1,
  )

-- ---- the fields of records

row_fields_size : (row column : ℕ) (fields : Fields) →
    sum_by (λ at. length at.field + 1) (row_from row column fields) ≡ record_size fields
row_fields_size row column [] = refl
row_fields_size row column (field ∷ fields) = omega (
  arith,
  sum_by-cons (λ (one : PlacedField). length one.field + 1) (record { row = row; column = column; field = field })
      (row_from row (column + 1) fields),
  sum_by-cons (λ (one : List ℕ). length one + 1) field fields,
  row_fields_size row (column + 1) fields,
)

fields_size_from : (row : ℕ) (all : List Fields) →
    sum_by (λ at. length at.field + 1) (rows_from row all) ≡ sum_by record_size all
fields_size_from row [] = refl
fields_size_from row (fields ∷ all) = omega (
  arith,
  sum_by-append (λ (one : PlacedField). length one.field + 1) (row_from row 0 fields) (rows_from (row + 1) all),
  sum_by-cons record_size fields all,
  row_fields_size row 0 fields,
  fields_size_from (row + 1) all,
)

pub fields_size : (all : List Fields) → sum_by (λ at. length at.field + 1) (placed_fields all) ≡ sum_by record_size all
fields_size all = fields_size_from 0 all

row_are_fields : (row column : ℕ) (fields : Fields) → All IsUtf8 fields → record_size fields ≤ MAX_FILE_BYTES + 1 →
    AllByRecursion (λ at. IsField at.field) (row_from row column fields)
row_are_fields row column [] utf8 small = tt
row_are_fields row column (field ∷ fields) utf8 small =
    let sum = sum_by-cons (λ (one : List ℕ). length one + 1) field fields in (
      (All-head IsUtf8 field fields utf8, omega (arith, sum, small)),
      row_are_fields row (column + 1) fields (All-tail IsUtf8 field fields utf8) (omega (arith, sum, small)),
    )

are_fields_from : (columns row : ℕ) (all : List Fields) → All (IsWellFormed columns) all →
    sum_by record_size all ≤ MAX_FILE_BYTES + 1 → AllByRecursion (λ at. IsField at.field) (rows_from row all)
are_fields_from columns row [] good small = tt
are_fields_from columns row (fields ∷ all) good small =
    let sum = sum_by-cons record_size fields all in
    AllByRecursion-append (λ at. IsField at.field) (row_from row 0 fields) (rows_from (row + 1) all)
    (row_are_fields row 0 fields (All-head (IsWellFormed columns) fields all good).utf8 (omega (arith, sum, small)))
    (are_fields_from columns (row + 1) all (All-tail (IsWellFormed columns) fields all good) (omega (arith, sum, small)))

pub are_fields : (all : List Fields) → AreWellFormed all → sum_by record_size all ≤ MAX_FILE_BYTES + 1 →
    AllByRecursion (λ at. IsField at.field) (placed_fields all)
are_fields all good small = are_fields_from (column_count all) 0 all good small

-- ---- as many cells as fields

fields_count_from : (row : ℕ) (all : List Fields) → length (rows_from row all) ≡ field_count all
fields_count_from row [] = refl
fields_count_from row (fields ∷ all) = omega (
  arith,
  length-append (row_from row 0 fields) (rows_from (row + 1) all),
  row_count row 0 fields,
  sum_by-cons length fields all,
  fields_count_from (row + 1) all,
)
  where
    row_count : (row column : ℕ) (fields : Fields) → length (row_from row column fields) ≡ length fields
    row_count row column [] = refl
    row_count row column (field ∷ fields) = omega (arith, row_count row (column + 1) fields)

pub fields_count : (all : List Fields) → length (placed_fields all) ≡ field_count all
fields_count all = fields_count_from 0 all
