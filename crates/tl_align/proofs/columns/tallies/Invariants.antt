use Rattle.std.proofs.Common.{drop, map}
use Rattle.tl_table.specs.declared.cell.Table.{out-Table}
use Rattle.tl_table.specs.declared.cell.TableCell.{out-TableCell}
use Rattle.tl_align.proofs.TallyLemmas.{IsTallied}
use Rattle.tl_align.proofs.columns.tallies.Given as goal

abbrev pub invariant-loop-cell : goal.invariant-loop-cell
invariant-loop-cell l =
    IsTallied l.end (map out-TableCell (out-Table l.table).cells) (map out-TableCell (drop l.cell-index l.cells)) l.tallies
