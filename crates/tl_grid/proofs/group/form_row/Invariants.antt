use Rattle.std.proofs.Common.{◌≡◌, ◌+◌, ◌*◌, ◌<◌, ◌≤◌, length, drop}
use Rattle.tl_base.specs.declared.limits.TheConstants.{MAX_COLSPAN, MAX_ROWSPAN}
use Rattle.tl_grid.specs.inner.Walk.{place_cells, row_of}
use Rattle.tl_grid.specs.inner.States.{row_over, group_over, StaysWithin}
use Rattle.tl_grid.proofs.group.form_row.Given as goal

-- the walk from here on is the whole one
abbrev pub invariant-loop-span : goal.invariant-loop-span
invariant-loop-span l = record {
  cells : place_cells l.row l.number (row_over l.state) (drop l.span-index l.spans)
      ≡ place_cells l.row l.fn.number (row_of (group_over l.fn.group)) l.spans;
  count : l.number ≡ l.fn.number + l.span-index;
  blocks : length l.state.blocks ≡ length l.fn.group.blocks + l.span-index;
  columns : StaysWithin (MAX_COLSPAN * l.number) (row_over l.state);
  height : l.state.height ≤ l.fn.group.height + MAX_ROWSPAN * l.span-index + 1;
  low : l.row < l.state.height;
}
