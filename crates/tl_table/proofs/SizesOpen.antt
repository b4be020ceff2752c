-- How much a table holds, one level at a time.
use Rattle.std.proofs.Common.{◌≡◌, ℕ, ◌+◌, ◌∙◌, List, [], ◌∷◌, map, sum_by, refl, sym, ap}
use Rattle.std.proofs.lemmas.List.Sums.{sum_by-cons}
use Rattle.tl_text.specs.Paragraph.{atom_size}
use Rattle.tl_table.specs.declared.cell.Content.TheOpen as open_content
use Rattle.tl_table.specs.declared.cell.Table.{Table, out-Table, fold_out-Table}
use Rattle.tl_table.specs.declared.cell.TableCell.{TableCell, out-TableCell, fold_out-TableCell}
use Rattle.tl_table.specs.declared.cell.Content.{Content, out-Content, fold_out-Content, map-Content}
use Rattle.tl_table.specs.Tables.{OpenContent}
use Rattle.tl_table.specs.Sound.{content_count, cell_count, cells_in_table, table_size, cell_size, content_size, content_tables}
use Rattle.tl_table.specs.Sound.{cell_tables}
use Rattle.tl_table.specs.Sound.{table_tables, nested_in_table, nested_in_cell, nested_in_content}

mapped_sum : {X : Type 0} (f : X → ℕ) (xs : List X) → sum_by (λ n. n) (map f xs) ≡ sum_by f xs
mapped_sum f [] = refl
mapped_sum f (x ∷ xs) = sum_by-cons (λ n. n) (f x) (map f xs) ∙ ap (λ n. f x + n) (mapped_sum f xs) ∙ sym (sum_by-cons f x xs)

pub table_size-out : (table : Table) → table_size table ≡ sum_by cell_size (out-Table table).cells
table_size-out table = fold_out-Table ℕ ℕ ℕ content_count cells_in_table cell_count table ∙ mapped_sum cell_size
    (out-Table table).cells

pub cell_size-out : (cell : TableCell) → cell_size cell ≡ 1 + sum_by content_size (out-TableCell cell).blocks
cell_size-out cell = fold_out-TableCell ℕ ℕ ℕ content_count cells_in_table cell_count cell ∙
    ap (λ n. 1 + n) (mapped_sum content_size (out-TableCell cell).blocks)

-- what a block counts
abbrev pub open_size : OpenContent → ℕ
open_size (open_content.Para paragraph) = sum_by atom_size paragraph
open_size (open_content.Table box) = table_size box.value

counted : (block : OpenContent) →
    content_count (map-Content Content Table TableCell ℕ ℕ ℕ content_size table_size cell_size block) ≡ open_size block
counted (open_content.Para paragraph) = refl
counted (open_content.Table box) = refl

pub content_size-out : (block : Content) → content_size block ≡ open_size (out-Content block)
content_size-out block = fold_out-Content ℕ ℕ ℕ content_count cells_in_table cell_count block ∙ counted (out-Content block)

-- ---- how many tables are inside, one level at a time

pub nested_in_table-out : (table : Table) → nested_in_table table ≡ sum_by nested_in_cell (out-Table table).cells
nested_in_table-out table = fold_out-Table ℕ ℕ ℕ content_tables table_tables cell_tables table ∙ mapped_sum nested_in_cell
    (out-Table table).cells

pub nested_in_cell-out : (cell : TableCell) → nested_in_cell cell ≡ sum_by nested_in_content (out-TableCell cell).blocks
nested_in_cell-out cell = fold_out-TableCell ℕ ℕ ℕ content_tables table_tables cell_tables cell ∙
    mapped_sum nested_in_content (out-TableCell cell).blocks

-- how many tables a block is and has inside
abbrev pub open_tables : OpenContent → ℕ
open_tables (open_content.Para paragraph) = 0
open_tables (open_content.Table box) = 1 + nested_in_table box.value

counted_tables : (block : OpenContent) → content_tables
    (map-Content Content Table TableCell ℕ ℕ ℕ nested_in_content nested_in_table nested_in_cell block) ≡ open_tables block
counted_tables (open_content.Para paragraph) = refl
counted_tables (open_content.Table box) = refl

pub nested_in_content-out : (block : Content) → nested_in_content block ≡ open_tables (out-Content block)
nested_in_content-out block = fold_out-Content ℕ ℕ ℕ content_tables table_tables cell_tables block ∙ counted_tables
    (out-Content block)
