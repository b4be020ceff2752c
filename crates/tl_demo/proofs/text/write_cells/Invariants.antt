use Rattle.std.proofs.Common.{◌++◌, ◌≤◌}
use Rattle.std.specs.List.{flat_map}
use Rattle.tl_demo.specs.Demo.{cell_text, cells_from}
use Rattle.tl_demo.proofs.Writing.{CellsLeft}
use Rattle.tl_demo.proofs.text.write_cells.Given as goal

abbrev pub invariant-loop-left : goal.invariant-loop-left
invariant-loop-left l = (l.left ≤ 6) ×
    CellsLeft l.left l.draws.state l.out (l.initial.out ++ flat_map cell_text (cells_from 6 l.initial.draws.state).value)
    (cells_from 6 l.initial.draws.state).state

abbrev pub decreases-loop-left : goal.decreases-loop-left
decreases-loop-left l = l.left
