-- The numbers of the tables inside a table, one level at a time, and when two lists of numbers are one another's
-- permutation: where each number stands in both as often.
use Rattle.std.proofs.Common.{◌≡◌, ◌∙◌, ℕ, suc, ◌<◌, cond, List, [], ◌∷◌, ◌⊎◌, inl, inr, length, map, get_or, sum_by, refl, sym}
use Rattle.std.proofs.Common.{ap, eqb, arith}
use Rattle.std.specs.List.{flat_map, remove}
use Rattle.std.specs.List.Sorted.{IsPermutation}
use Rattle.std.proofs.lemmas.Bool.{cases_eq, eq-eqb, ne_eqb}
use Rattle.std.proofs.lemmas.List.Folds.{flat_map-map}
use Rattle.std.proofs.lemmas.List.Sorted.{IsPermutation-refl, IsPermutation-sym, IsPermutation-cons, IsPermutation-trans}
use Rattle.std.proofs.lemmas.List.Sorted.{IsPermutation-remove}
use Rattle.std.proofs.lemmas.List.Sorted.{sum_by-IsPermutation}
use Rattle.std.proofs.lemmas.List.Sums.{sum_by-cons}
use Rattle.tl_table.specs.declared.cell.Content.TheOpen as open_content
use Rattle.tl_table.specs.declared.cell.Table.{Table, out-Table, fold_out-Table}
use Rattle.tl_table.specs.declared.cell.TableCell.{TableCell, out-TableCell, fold_out-TableCell}
use Rattle.tl_table.specs.declared.cell.Content.{Content, out-Content, fold_out-Content, map-Content}
use Rattle.tl_table.specs.Tables.{OpenContent}
use Rattle.tl_table.specs.Sound.{content_numbers, cell_numbers, table_numbers, numbers_of_table, numbers_in_cell}
use Rattle.tl_table.specs.Sound.{numbers_in_content, numbers_inside}

-- ---- one level at a time

joined_numbers : {X : Type 0} (f : X → List ℕ) (xs : List X) → flat_map (λ numbers. numbers) (map f xs) ≡ flat_map f xs
joined_numbers f xs = flat_map-map (λ numbers. numbers) f xs

pub numbers_of_table-out : (table : Table) → numbers_of_table table ≡ (out-Table table).number ∷ numbers_inside (out-Table table)
numbers_of_table-out table =
    fold_out-Table (List ℕ) (List ℕ) (List ℕ) content_numbers table_numbers cell_numbers table
    ∙ ap (λ (numbers : List ℕ). (out-Table table).number ∷ numbers) (joined_numbers numbers_in_cell (out-Table table).cells)

pub numbers_in_cell-out : (cell : TableCell) → numbers_in_cell cell ≡ flat_map numbers_in_content (out-TableCell cell).blocks
numbers_in_cell-out cell =
    fold_out-TableCell (List ℕ) (List ℕ) (List ℕ) content_numbers table_numbers cell_numbers cell
    ∙ joined_numbers numbers_in_content (out-TableCell cell).blocks

-- the numbers of the tables that a block is and has inside
abbrev pub open_numbers : OpenContent → List ℕ
open_numbers (open_content.Para paragraph) = []
open_numbers (open_content.Table box) = numbers_of_table box.value

numbers_mapped : (block : OpenContent) → content_numbers
    (map-Content Content Table TableCell (List ℕ) (List ℕ) (List ℕ)
    numbers_in_content numbers_of_table numbers_in_cell block) ≡ open_numbers block
numbers_mapped (open_content.Para paragraph) = refl
numbers_mapped (open_content.Table box) = refl

pub numbers_in_content-out : (block : Content) → numbers_in_content block ≡ open_numbers (out-Content block)
numbers_in_content-out block =
    fold_out-Content (List ℕ) (List ℕ) (List ℕ) content_numbers table_numbers cell_numbers block ∙ numbers_mapped
    (out-Content block)

-- ---- how often a number stands in a list

-- 1 where the number is this one
abbrev pub is_number : ℕ → ℕ → ℕ
is_number n m = cond (eqb m n) 1 0

abbrev pub times : ℕ → List ℕ → ℕ
times n numbers = sum_by (is_number n) numbers

pub is_same : (n m : ℕ) → m ≡ n → is_number n m ≡ 1
is_same n m same = ap (λ b. cond b 1 0) (eq-eqb m n same)

pub is_other : (n m : ℕ) → (m ≡ n → ⊥) → is_number n m ≡ 0
is_other n m other = ap (λ b. cond b 1 0) (ne_eqb m n other)

is_itself : (n : ℕ) → is_number n n ≡ 1
is_itself n = ap (λ b. cond b 1 0) (eq-eqb n n refl)

-- a number that stands in a list is contained
times_Contains : (n : ℕ) (numbers : List ℕ) → 0 < times n numbers → (i : ℕ) × (i < length numbers) × (get_or numbers i n ≡ n)
times_Contains n [] some = absurd (omega (arith, some))
times_Contains n (m ∷ numbers) some = by_case (cases_eq m n) (times_Contains n numbers)
  where
    by_case : (m ≡ n) ⊎ (m ≡ n → ⊥) → (0 < times n numbers → (i : ℕ) × (i < length numbers) × (get_or numbers i n ≡ n)) →
        (i : ℕ) × (i < length (m ∷ numbers)) × (get_or (m ∷ numbers) i n ≡ n)
    by_case (inl same) rest = (0, omega arith, same)
    by_case (inr other) rest =
        let none : is_number n m ≡ 0 = ap (λ b. cond b 1 0) (ne_eqb m n other) in
        let later = rest (omega (arith, none, sum_by-cons (is_number n) m numbers, some)) in
        (suc later.0, omega (arith, later.1), later.2)

-- lists in which each number stands as often are permutations
pub from_times : (xs ys : List ℕ) → ((n : ℕ) → times n xs ≡ times n ys) → IsPermutation xs ys
from_times [] [] same = IsPermutation-refl []
from_times [] (y ∷ ys) same = absurd (omega (arith, same y, sum_by-cons (is_number y) y ys, is_itself y))
from_times (x ∷ xs) ys same =
    let here = times_Contains x ys (omega (arith, same x, sum_by-cons (is_number x) x xs, is_itself x)) in
    let moved = IsPermutation-remove ys here.0 x here.1 (sym here.2) in
    IsPermutation-trans (x ∷ xs) (x ∷ remove ys here.0) ys
    (IsPermutation-cons x xs (remove ys here.0)
    (from_times xs (remove ys here.0)
    (λ n. omega (
      arith,
      same n,
      sum_by-cons (is_number n) x xs,
      sum_by-IsPermutation (is_number n) ys (x ∷ remove ys here.0) moved,
      sum_by-cons (is_number n) x (remove ys here.0),
    ))))
    (IsPermutation-sym ys (x ∷ remove ys here.0) moved)
