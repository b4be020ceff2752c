use Rattle.std.proofs.Common.{◌≡◌, ◌+◌, ◌*◌, ◌≤◌, length, drop}
use Rattle.std.specs.List.{AllByRecursion}
use Rattle.tl_base.specs.declared.limits.TheConstants.{MAX_COLSPAN, MAX_ROWSPAN}
use Rattle.tl_grid.specs.Forming.{cells_in}
use Rattle.tl_grid.specs.inner.Walk.{place_rows, group_at}
use Rattle.tl_grid.specs.inner.States.{BlockEndsBy, group_over}
use Rattle.tl_grid.proofs.group.form_group.Given as goal

-- the walk from here on is the whole one
abbrev pub invariant-loop-spans : goal.invariant-loop-spans
invariant-loop-spans l = record {
  rows : place_rows l.number (group_over l.group) (drop l.spans-index l.rows)
      ≡ place_rows l.fn.number (group_at l.fn.row) l.rows;
  count : l.number + cells_in (drop l.spans-index l.rows) ≡ l.fn.number + cells_in l.rows;
  blocks : length l.group.blocks + cells_in (drop l.spans-index l.rows) ≡ cells_in l.rows;
  columns : AllByRecursion (BlockEndsBy (MAX_COLSPAN * l.number)) (group_over l.group).open_blocks;
  low : l.group.row ≤ l.group.height;
  height : l.group.height + MAX_ROWSPAN * cells_in (drop l.spans-index l.rows) + length (drop l.spans-index l.rows)
      ≤ l.fn.row + MAX_ROWSPAN * cells_in l.rows + length l.rows;
}
