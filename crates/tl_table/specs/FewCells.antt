-- How many cells a table has, and each table nested in it.
use Rattle.std.specs.Prelude.{◌+◌, ◌≤◌, length}
use Rattle.tl_base.specs.declared.breaking.Breaking.{Breaking}
use Rattle.tl_base.specs.declared.limits.TheConstants.{MAX_CELLS}
use Rattle.tl_tree.specs.declared.node.TableNode.{TableNode}
use Rattle.tl_table.specs.declared.cell.Table.{Table, out-Table}
use Rattle.tl_table.specs.Formed.{Becomes}
use Rattle.tl_table.specs.Tables.{IsAmong}

-- the table, and each table nested in it, has few cells: no more than a grid may have, and one for a caption
abbrev pub HasFewCells : Table → Type 0
HasFewCells table = (inside : Table) → IsAmong table inside → length (out-Table inside).cells ≤ MAX_CELLS + 1

-- a table that a tree becomes has few cells, and so has each table nested in it
abbrev pub FormedHasFewCells : Type 0
FormedHasFewCells = (breaking : Breaking) (node : TableNode) (table : Table) → Becomes breaking node table → HasFewCells table
