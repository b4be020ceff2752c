use Rattle.std.proofs.Common.{◌≡◌, map, take}
use Rattle.tl_table.specs.Formed.{group_shape}
use Rattle.tl_table.proofs.shape.shape_of.Given as goal

abbrev pub invariant-loop-group : goal.invariant-loop-group
invariant-loop-group l = l.groups ≡ map group_shape (take l.group-index l.group-items)
