use Rattle.std.proofs.Common.{◌≡◌, ◌+◌, drop}
use Rattle.tl_grid.specs.Forming.{cells_in_groups}
use Rattle.tl_grid.proofs.forming.count_all.Given as goal

abbrev pub invariant-loop-group : goal.invariant-loop-group
invariant-loop-group l = l.count + cells_in_groups (drop l.group-index l.groups) ≡ cells_in_groups l.groups
