use Rattle.std.proofs.Common.{map}
use Rattle.tl_table.specs.declared.cell.Table.{out-Table}
use Rattle.tl_table.specs.declared.cell.TableCell.{out-TableCell}
use Rattle.tl_table.specs.inner.Marks.{has_mark}
use Rattle.tl_table.proofs.HeadLaws.{IsRunFrom}
use Rattle.tl_table.proofs.head.run_end.Given as goal

abbrev pub invariant-loop-number : goal.invariant-loop-number
invariant-loop-number l = IsRunFrom (has_mark l.mark) (map out-TableCell (out-Table l.table).cells) (out-Table l.table).rows l.number l.end
