-- The table of records is sound, holds no more than they do, and a file of HTML can spell it.
use Rattle.std.proofs.Common.{◌≡◌, ◌∙◌, ℕ, zero, suc, ◌+◌, ◌≤◌, Bool, List, [], ◌∷◌, Contains, length, sum_by}
use Rattle.std.proofs.Common.{inl, inr, refl, sym, subst, arith}
use Rattle.std.specs.List.{All, AllByRecursion, AllPairs, AllZip, range_with_len}
use Rattle.std.specs.List.Sorted.{IsPermutation}
use Rattle.std.proofs.lemmas.List.Elements.{All-weaker}
use Rattle.std.proofs.lemmas.List.Sorted.{IsPermutation-refl}
use Rattle.tl_base.specs.declared.breaking.Breaking.{Breaking}
use Rattle.tl_base.specs.declared.limits.TheConstants.{MAX_CELLS, MAX_PAGE_WIDTH}
use Rattle.tl_grid.specs.declared.shape.Place.{Place}
use Rattle.tl_grid.specs.Dropping.{IsPlaced}
use Rattle.tl_grid.specs.Slots.{AreApart, HasAnchorInColumn, HasAnchorInRow, IsFilledToLeft}
use Rattle.tl_table.specs.declared.cell.Content.{out-Content}
use Rattle.tl_table.specs.declared.cell.Content.TheOpen as open_content
use Rattle.tl_table.specs.declared.cell.Table.{Table, out-Table}
use Rattle.tl_table.specs.declared.cell.TableCell.{TableCell, out-TableCell}
use Rattle.tl_table.specs.Sound.{ComesBefore, IsSound, IsSoundWithin, count_inside, nested_in_table, numbers_inside}
use Rattle.tl_table.specs.Sound.{places_of, table_size}
use Rattle.tl_table.proofs.SizesOpen.{nested_in_table-out, table_size-out}
use Rattle.tl_table.specs.FewCells.{HasFewCells}
use Rattle.tl_table.specs.Same.{AreSame, AreSameCell, AreSameContent, AreSameWithin}
use Rattle.tl_table.specs.Tables.{IsInsideWithin, OpenContent}
use Rattle.tl_table.specs.Spellable.{IsSpellable, IsSpellableWithin}
use Rattle.tl_base.proofs.Members.{Contains-none}
use Rattle.tl_base.proofs.Zips.{AllZip-length}
use Rattle.tl_columns.specs.Columns.{placed_fields, IsFieldCell, IsCsvTable}
use Rattle.tl_columns.specs.Records.{Fields, column_count, field_count}
use Rattle.tl_columns.specs.Refused.{IsWellFormed}
use Rattle.tl_columns.specs.inner.Sizes.{record_size, AreOfFile}
use Rattle.tl_columns.proofs.Slots.{all_placed, columns_anchored, rows_anchored, slots, slots_apart, slots_filled}
use Rattle.tl_columns.proofs.Slots.{slots_in_order, slots_of}
use Rattle.tl_columns.proofs.SpellableCells.{are_plain_fields, cells_in_rows, cells_spellable}
use Rattle.tl_columns.proofs.TextCells.{all_spelt, are_fields, cells_narrow, cells_places, cells_size, fields_count}
use Rattle.tl_columns.proofs.TextCells.{fields_size, nested_none, IsText}
use Rattle.tl_columns.proofs.TextCells.{numbers_none, tables_none, text_cells, IsTextCell}

-- ---- what is the same as itself

zip_itself : {X : Type 0} (P : X → Type 0) (R : X → X → Type 0) → ((x : X) → P x → R x x) → (xs : List X) →
    AllByRecursion P xs → AllZip R xs xs
zip_itself P R itself [] each = tt
zip_itself P R itself (x ∷ xs) each = (itself x each.0, zip_itself P R itself xs each.1)

block_itself : (block : OpenContent) → IsText block → AreSameContent (AreSameWithin 0) block block
block_itself (open_content.Para paragraph) text = refl
block_itself (open_content.Table box) text = absurd text

cell_itself : (cell : TableCell) → IsTextCell cell →
    AreSameCell (AreSameWithin 0) (out-TableCell cell) (out-TableCell cell)
cell_itself cell text = record {
  kind = refl;
  in_head = refl;
  place = refl;
  least = refl;
  align = refl;
  blocks = zip_itself (λ block. IsText (out-Content block))
      (λ block content. AreSameContent (AreSameWithin 0) (out-Content block) (out-Content content))
      (λ block one. block_itself (out-Content block) one) (out-TableCell cell).blocks text;
}

-- ---- a table

module _ (all : List Fields) (head : Bool) (floors : List ℕ) (breaking : Breaking) (table : Table)
    (small : AreOfFile all) (is : IsCsvTable all head floors breaking table) where
  texts : AllByRecursion IsTextCell (out-Table table).cells
  texts = text_cells head floors breaking (placed_fields all) (out-Table table).cells is.cells
      (are_fields all is.well_formed small.size)

  lie : places_of (out-Table table) ≡ slots 0 all
  lie = cells_places head floors breaking (placed_fields all) (out-Table table).cells is.cells ∙ slots_of all

  -- the table holds no more than its records
  pub table_small : table_size table ≤ sum_by record_size all
  table_small = omega (
    arith,
    table_size-out table,
    cells_size head floors breaking (placed_fields all) (out-Table table).cells is.cells
        (are_fields all is.well_formed small.size),
    fields_size all,
  )

  none_inside : nested_in_table table ≡ 0
  none_inside = nested_in_table-out table ∙ nested_none (out-Table table).cells texts

  numbered : IsPermutation (numbers_inside (out-Table table))
      (range_with_len ((out-Table table).number + 1) (count_inside (out-Table table)))
  numbered =
      subst (λ (numbers : List ℕ). IsPermutation numbers
      (range_with_len ((out-Table table).number + 1) (count_inside (out-Table table))))
      (sym (numbers_none (out-Table table).cells texts))
      (subst (λ (n : ℕ). IsPermutation [] (range_with_len ((out-Table table).number + 1) n))
      (sym (nested_none (out-Table table).cells texts)) (IsPermutation-refl []))

  even : All (λ (fields : Fields). length fields ≡ column_count all) all
  even = All-weaker (IsWellFormed (column_count all)) (λ (fields : Fields). length fields ≡ column_count all)
      (λ fields good. good.even) all is.well_formed

  laid : All (IsPlaced (out-Table table).cols (out-Table table).rows) (places_of (out-Table table))
  laid =
      subst (λ (n : ℕ). All (IsPlaced n (out-Table table).rows) (places_of (out-Table table))) (sym is.cols)
      (subst (λ (n : ℕ). All (IsPlaced (column_count all) n) (places_of (out-Table table))) (sym is.rows)
      (subst (All (IsPlaced (column_count all) (length all))) (sym lie) (all_placed all even)))

  -- how many cells it has
  counted : length (out-Table table).cells ≡ field_count all
  counted = sym (AllZip-length (λ at cell. IsFieldCell head floors breaking at (out-TableCell cell)) (placed_fields all)
      (out-Table table).cells is.cells) ∙ fields_count all

  -- a file of HTML can spell it
  pub csv_spellable : IsSpellable breaking table
  csv_spellable = (
    1,
    record {
      caption = [];
      body = (out-Table table).cells;
      split = refl;
      captioned = tt;
      in_rows = cells_in_rows head floors breaking (placed_fields all) (out-Table table).cells is.cells;
      few_rows = omega (arith, is.rows, is.limits.few_rows);
      few_cells = omega (arith, counted, is.limits.few_cells);
      filled = subst (λ (places : List Place). All (IsFilledToLeft places) places) (sym lie) (slots_filled all);
      words = cells_spellable head floors breaking (placed_fields all) (out-Table table).cells is.cells
          (are_fields all is.well_formed small.size) (are_plain_fields all is.well_formed);
      inner = subst (AllByRecursion (IsSpellableWithin 0 breaking)) (sym (tables_none (out-Table table).cells texts)) tt;
    },
  )

  -- the table is sound: the limit of its size is that of its records
  pub csv_sound : All (λ floor. floor ≤ MAX_PAGE_WIDTH) floors → IsSound table
  csv_sound narrow = record {
    depth = 1;
    shallow = omega arith;
    sound = record {
      few_columns = omega (arith, is.cols, is.limits.few_columns);
      few_rows = omega (arith, is.rows, is.limits.few_rows);
      placed = laid;
      apart = subst (AllPairs AreApart) (sym lie) (slots_apart 0 all);
      in_order = subst (AllPairs ComesBefore) (sym lie) (slots_in_order 0 all);
      columns = λ column within. subst (λ (places : List Place). HasAnchorInColumn places column) (sym lie)
          (columns_anchored all column (omega (arith, within, is.cols)));
      rows = λ row within. subst (λ (places : List Place). HasAnchorInRow places row) (sym lie)
          (rows_anchored all row small.some (omega (arith, within, is.rows)));
      narrow = cells_narrow head floors breaking (placed_fields all) (out-Table table).cells is.cells narrow;
      spelt = all_spelt (out-Table table).cells texts;
      numbered = numbered;
      inner = subst (AllByRecursion (IsSoundWithin 0)) (sym (tables_none (out-Table table).cells texts)) tt;
    };
    few_tables = omega (arith, is.number, none_inside);
    size = omega (arith, table_small, small.size);
    breaking = breaking;
    spellable = csv_spellable;
  }

  -- ---- no table is nested in it

  none_within : (depth : ℕ) (inside : Table) → IsInsideWithin depth table inside → ⊥
  none_within zero inside within = within
  none_within (suc depth) inside within =
      Contains-none within.0 (subst (λ (tables : List Table). Contains tables within.0)
      (tables_none (out-Table table).cells texts) within.1)

  -- the table has no more cells than a grid may have, and no table is nested in it
  pub csv_few : HasFewCells table
  csv_few = λ inside among. elim among [
    | inl same ↦ subst (λ (one : Table). length (out-Table one).cells ≤ MAX_CELLS + 1) same
        (omega (arith, counted, is.limits.few_cells))
    | inr (depth, within) ↦ absurd (none_within depth inside within)
  ]

  -- ---- it is the same as itself, as no table is nested in it

  pub csv_itself : AreSame table table
  csv_itself = (
    1,
    record {
      number = refl;
      cols = refl;
      rows = refl;
      cells = zip_itself IsTextCell
          (λ cell twin. AreSameCell (AreSameWithin 0) (out-TableCell cell) (out-TableCell twin)) cell_itself
          (out-Table table).cells texts;
    },
  )
