use Rattle.std.proofs.Common.{◌≡◌, ◌+◌, ◌*◌, ◌≤◌, drop, length}
use Rattle.tl_base.specs.declared.limits.TheConstants.{MAX_ROWSPAN}
use Rattle.tl_grid.specs.Forming.{cells_in_groups, rows_in_groups}
use Rattle.tl_grid.specs.inner.Walk.{has_turn, place_groups}
use Rattle.tl_grid.proofs.table.form_groups.Given as goal

-- the walk from here on is the whole one
abbrev pub invariant-loop-group : goal.invariant-loop-group
invariant-loop-group l = record {
  groups : place_groups (has_turn l.footers) l.number l.table (drop l.group-index l.groups)
      ≡ place_groups (has_turn l.footers) 0 l.fn.table l.groups;
  count : l.number + cells_in_groups (drop l.group-index l.groups) ≡ cells_in_groups l.groups;
  blocks : length l.table.blocks + cells_in_groups (drop l.group-index l.groups)
      ≤ length l.fn.table.blocks + cells_in_groups l.groups;
  row : l.table.row + MAX_ROWSPAN * cells_in_groups (drop l.group-index l.groups) + rows_in_groups (drop l.group-index l.groups)
      ≤ l.fn.table.row + MAX_ROWSPAN * cells_in_groups l.groups + rows_in_groups l.groups;
}
