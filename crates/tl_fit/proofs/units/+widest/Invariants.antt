-- The widest of the units of the cells, or blocks, so far.
use Rattle.std.proofs.Common.{◌≡◌, take}
use Rattle.std.specs.List.{flat_map}
use Rattle.tl_text.specs.Widest.{widest_within}
use Rattle.tl_fit.specs.Units.{units_in_cell, units_in_content}
use Rattle.tl_fit.proofs.units.+widest.Given as goal

abbrev pub invariant-widest_in_cell-loop-block : goal.invariant-widest_in_cell-loop-block
invariant-widest_in_cell-loop-block l =
    l.widest ≡ widest_within l.most (flat_map units_in_content (take l.block-index l.block-items))

abbrev pub invariant-widest_in_table-loop-cell : goal.invariant-widest_in_table-loop-cell
invariant-widest_in_table-loop-cell l =
    l.widest ≡ widest_within l.most (flat_map units_in_cell (take l.cell-index l.cell-items))
