-- When two tables are the same but for the numbers of tables, which say where each begins in its file, for which of their
-- cells are of a `thead`, and for the sides that cells ask for: a page is written with all of its rows in one group and
-- without sides.
use Rattle.std.specs.Prelude.{◌≡◌, ℕ, zero, suc}
use Rattle.std.specs.List.{AllZip}
use Rattle.tl_table.specs.declared.cell.Table.{Table, out-Table}
use Rattle.tl_table.specs.declared.cell.TableCell.{out-TableCell}
use Rattle.tl_table.specs.declared.cell.Content.{out-Content}
use Rattle.tl_table.specs.Same.{AreSameContent}
use Rattle.tl_table.specs.Tables.{OpenCell, OpenTable}

-- two cells are the same but for whether their row is of a `thead` and for the side that they ask for, where `alike` says so of nested tables
pub record AreAlikeCell (alike : Table → Table → Type 0) (one other : OpenCell) : Type 0 where
  pub kind : one.kind ≡ other.kind
  pub place : one.place ≡ other.place
  pub least : one.least ≡ other.least
  pub blocks : AllZip (λ block twin. AreSameContent alike (out-Content block) (out-Content twin)) one.blocks other.blocks

-- two tables have the same columns, rows and cells, where `alike` says so of nested tables
pub record AreAlikeBy (alike : Table → Table → Type 0) (one other : OpenTable) : Type 0 where
  pub cols : one.cols ≡ other.cols
  pub rows : one.rows ≡ other.rows
  pub cells : AllZip (λ cell twin. AreAlikeCell alike (out-TableCell cell) (out-TableCell twin)) one.cells other.cells

-- two tables with fewer than `depth` tables inside one another are the same but for their numbers, `thead` groups and sides
abbrev pub AreAlikeWithin : ℕ → Table → Table → Type 0
AreAlikeWithin zero one other = ⊥
AreAlikeWithin (suc depth) one other = AreAlikeBy (AreAlikeWithin depth) (out-Table one) (out-Table other)

-- two tables are the same but for the numbers of tables, their `thead` groups and the sides of their cells
abbrev pub AreAlike : Table → Table → Type 0
AreAlike one other = (depth : ℕ) × AreAlikeWithin depth one other
