-- The numbers inside a table are those of the tables nested directly in it, one after the other, and no greater than the
-- table's last.
use Rattle.std.proofs.Common.{◌≡◌, ◌∙◌, ℕ, zero, suc, ◌+◌, ◌<◌, ◌≤◌, List, [], ◌∷◌, ◌++◌, inl, inr, refl, sym, ap, subst, arith}
use Rattle.std.proofs.Common.{append-nil}
use Rattle.std.specs.List.{AllByRecursion, Contains, flat_map, range_with_len}
use Rattle.std.proofs.lemmas.Bool.{cases_lt}
use Rattle.std.proofs.lemmas.Grind.{flat_map-append}
use Rattle.std.proofs.lemmas.List.Concat.{flat_map-cons}
use Rattle.std.proofs.lemmas.List.Elements.{All-from_recursion, All-contains, recursion_from_All}
use Rattle.std.proofs.lemmas.List.Sorted.{Contains-permutation, IsPermutation-sym}
use Rattle.tl_base.proofs.Members.{All-from_Contains, Contains-first, Contains-later, Contains-flat_map, Contains-range}
use Rattle.tl_base.proofs.Members.{range-Contains}
use Rattle.tl_table.specs.declared.cell.Content.{out-Content}
use Rattle.tl_table.specs.declared.cell.Content.TheOpen as open_content
use Rattle.tl_table.specs.declared.cell.Table.{Table, out-Table}
use Rattle.tl_table.specs.declared.cell.TableCell.{TableCell, out-TableCell}
use Rattle.tl_table.specs.Sound.{IsSoundWithin, numbers_of_table, numbers_in_cell, numbers_in_content, numbers_inside}
use Rattle.tl_table.specs.Sound.{count_inside, nested_in_table}
use Rattle.tl_table.specs.Tables.{OpenContent, tables_of, tables_in, inner_tables}
use Rattle.tl_table.proofs.NumbersOpen.{numbers_of_table-out, numbers_in_cell-out, numbers_in_content-out, open_numbers}
use Rattle.tl_table.proofs.SizesOpen.{nested_in_table-out}

-- ---- the numbers inside are those of the tables nested directly, one after the other

flat_flat : {X Y Z : Type 0} (f : Y → List Z) (g : X → List Y) (xs : List X) →
    flat_map f (flat_map g xs) ≡ flat_map (λ x. flat_map f (g x)) xs
flat_flat f g [] = refl
flat_flat {Z = Z} f g (x ∷ xs) =
    ap (flat_map f) (flat_map-cons g x xs) ∙ flat_map-append f (g x) (flat_map g xs)
    ∙ ap (λ (more : List Z). flat_map f (g x) ++ more) (flat_flat f g xs)
    ∙ sym (flat_map-cons (λ y. flat_map f (g y)) x xs)

flat_same : {X Z : Type 0} (f g : X → List Z) → ((x : X) → f x ≡ g x) → (xs : List X) → flat_map f xs ≡ flat_map g xs
flat_same f g same [] = refl
flat_same {Z = Z} f g same (x ∷ xs) =
    flat_map-cons f x xs ∙ ap (λ (one : List Z). one ++ flat_map f xs) (same x) ∙ ap (λ (more : List Z). g x ++ more)
    (flat_same f g same xs)
    ∙ sym (flat_map-cons g x xs)

block_numbers : (block : OpenContent) → open_numbers block ≡ flat_map numbers_of_table (tables_of block)
block_numbers (open_content.Para paragraph) = refl
block_numbers (open_content.Table box) = sym (append-nil (numbers_of_table box.value))

cell_numbers : (cell : TableCell) → numbers_in_cell cell ≡ flat_map numbers_of_table (tables_in (out-TableCell cell))
cell_numbers cell =
    numbers_in_cell-out cell
    ∙ flat_same numbers_in_content (λ block. flat_map numbers_of_table (tables_of (out-Content block)))
    (λ block. numbers_in_content-out block ∙ block_numbers (out-Content block)) (out-TableCell cell).blocks
    ∙ sym (flat_flat numbers_of_table (λ block. tables_of (out-Content block)) (out-TableCell cell).blocks)

pub inner_numbers : (table : Table) → numbers_inside (out-Table table) ≡ flat_map numbers_of_table
    (inner_tables (out-Table table))
inner_numbers table =
    flat_same numbers_in_cell (λ cell. flat_map numbers_of_table (tables_in (out-TableCell cell))) cell_numbers
    (out-Table table).cells
    ∙ sym (flat_flat numbers_of_table (λ cell. tables_in (out-TableCell cell)) (out-Table table).cells)

-- ---- the numbers of a sound table

module _ (depth : ℕ) (table : Table) (sound : IsSoundWithin (suc depth) table) where
  pub inside_range : (n : ℕ) → Contains (numbers_inside (out-Table table)) n →
      ((out-Table table).number < n) × (n ≤ (out-Table table).number + count_inside (out-Table table))
  inside_range n has =
      let within = range-Contains ((out-Table table).number + 1) (count_inside (out-Table table)) n
      (Contains-permutation (numbers_inside (out-Table table))
      (range_with_len ((out-Table table).number + 1) (count_inside (out-Table table))) n
      sound.numbered has) in
      (omega (arith, within.0), omega (arith, within.1))

  pub range_inside : (n : ℕ) → (out-Table table).number < n → n ≤ (out-Table table).number + count_inside (out-Table table) →
      Contains (numbers_inside (out-Table table)) n
  range_inside n past within =
      Contains-permutation (range_with_len ((out-Table table).number + 1) (count_inside (out-Table table)))
      (numbers_inside (out-Table table)) n
      (IsPermutation-sym (numbers_inside (out-Table table)) (range_with_len ((out-Table table).number + 1)
      (count_inside (out-Table table)))
      sound.numbered)
      (Contains-range ((out-Table table).number + 1) (count_inside (out-Table table)) n (omega arith) (omega arith))

-- the greatest number of a table and those inside it
abbrev last : Table → ℕ
last one = (out-Table one).number + nested_in_table one

-- the last number of a sound table is that of one of its tables
last_number : (depth : ℕ) (table : Table) → IsSoundWithin depth table →
    Contains (numbers_of_table table) ((out-Table table).number + nested_in_table table)
last_number zero table sound = absurd sound
last_number (suc depth) table sound =
    subst (λ numbers. Contains numbers (last table)) (sym (numbers_of_table-out table))
    (elim (cases_lt (out-Table table).number (last table)) [
      | inl more ↦ Contains-later (out-Table table).number (numbers_inside (out-Table table)) (last table)
          (range_inside depth table sound (last table) more (omega (arith, nested_in_table-out table)))
      | inr same ↦ subst (λ n. Contains ((out-Table table).number ∷ numbers_inside (out-Table table)) n) (equal same)
          (Contains-first (out-Table table).number (numbers_inside (out-Table table)))
    ])
  where
    equal : last table ≤ (out-Table table).number → (out-Table table).number ≡ last table
    equal same = omega (arith, same)

-- that of a table nested directly is no greater than the table's
pub last_inner : (depth : ℕ) (table : Table) → IsSoundWithin (suc depth) table →
    AllByRecursion (λ inner. (out-Table inner).number + nested_in_table inner ≤ (out-Table table).number + nested_in_table table)
    (inner_tables (out-Table table))
last_inner depth table sound =
    recursion_from_All (λ inner. last inner ≤ last table) (inner_tables (out-Table table))
    (All-from_Contains (λ inner. last inner ≤ last table) (inner_tables (out-Table table))
    (λ inner has. within inner (inside_range depth table sound (last inner)
    (subst (λ numbers. Contains numbers (last inner)) (sym (inner_numbers table))
    (Contains-flat_map numbers_of_table (inner_tables (out-Table table)) inner (last inner) has
    (last_number depth inner (All-contains (IsSoundWithin depth) (inner_tables (out-Table table)) inner
    (All-from_recursion (IsSoundWithin depth) (inner_tables (out-Table table)) sound.inner) has)))))))
  where
    within : (inner : Table) → ((out-Table table).number < last inner) ×
        (last inner ≤ (out-Table table).number + count_inside (out-Table table)) →
        last inner ≤ last table
    within inner range = omega (arith, range.1, nested_in_table-out table)
