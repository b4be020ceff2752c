use Rattle.std.proofs.Common.{◌≡◌, ◌++◌, map, take}
use Rattle.tl_grid.specs.inner.Walk.{settled}
use Rattle.tl_grid.proofs.table.end_group.Given as goal

-- the group's blocks up to here are in the table, and grow no more
abbrev pub invariant-loop-block : goal.invariant-loop-block
invariant-loop-block l =
    l.table.blocks ≡ l.fn.table.blocks ++ map (settled l.fn.group.height) (take l.block-index l.block-items)
