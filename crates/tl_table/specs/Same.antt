-- When two tables are the same, whatever the memory in which their nested tables lie.
use Rattle.std.specs.Prelude.{◌≡◌, ℕ, zero, suc, Result, Ok, Err, alloc_error}
use Rattle.std.specs.List.{AllZip}
use Rattle.tl_table.specs.declared.cell.Content.{out-Content}
use Rattle.tl_table.specs.declared.cell.Content.TheOpen as open_content
use Rattle.tl_table.specs.declared.cell.Table.{Table, out-Table}
use Rattle.tl_table.specs.declared.cell.TableCell.{out-TableCell}
use Rattle.tl_table.specs.declared.error.FormError.{FormError}
use Rattle.tl_table.specs.declared.error.FormError.TheVariants.{Memory}
use Rattle.tl_table.specs.Tables.{OpenTable, OpenCell, OpenContent}

-- two blocks are the same, where `same` says so of nested tables
abbrev pub AreSameContent : (Table → Table → Type 0) → OpenContent → OpenContent → Type 0
AreSameContent same (open_content.Para one) (open_content.Para other) = one ≡ other
AreSameContent same (open_content.Para one) (open_content.Table other) = ⊥
AreSameContent same (open_content.Table one) (open_content.Para other) = ⊥
AreSameContent same (open_content.Table one) (open_content.Table other) = same one.value other.value

-- two cells are the same, where `same` says so of nested tables
pub record AreSameCell (same : Table → Table → Type 0) (one other : OpenCell) : Type 0 where
  pub kind : one.kind ≡ other.kind
  pub in_head : one.in_head ≡ other.in_head
  pub place : one.place ≡ other.place
  pub least : one.least ≡ other.least
  pub align : one.align ≡ other.align
  pub blocks : AllZip (λ block content. AreSameContent same (out-Content block) (out-Content content)) one.blocks other.blocks

-- two tables are the same, where `same` says so of the tables nested in their cells
pub record AreSameBy (same : Table → Table → Type 0) (one other : OpenTable) : Type 0 where
  pub number : one.number ≡ other.number
  pub cols : one.cols ≡ other.cols
  pub rows : one.rows ≡ other.rows
  pub cells : AllZip (λ cell twin. AreSameCell same (out-TableCell cell) (out-TableCell twin)) one.cells other.cells

-- two tables with fewer than `depth` tables inside one another are the same
abbrev pub AreSameWithin : ℕ → Table → Table → Type 0
AreSameWithin zero one other = ⊥
AreSameWithin (suc depth) one other = AreSameBy (AreSameWithin depth) (out-Table one) (out-Table other)

-- two tables are the same
abbrev pub AreSame : Table → Table → Type 0
AreSame one other = (depth : ℕ) × AreSameWithin depth one other

-- a table that is the same as this one is returned, unless memory ran out
abbrev pub ReturnsTable : Table → Result Table FormError → Type 0
ReturnsTable table (Ok returned) = AreSame returned table
ReturnsTable table (Err error) = error ≡ Memory alloc_error
