use Rattle.std.proofs.Common.{◌≡◌, drop, map}
use Rattle.std.specs.List.{list_any}
use Rattle.tl_table.specs.declared.cell.TableCell.{out-TableCell}
use Rattle.tl_table.specs.Heads.{is_caption}
use Rattle.tl_table.proofs.head.has_caption.Given as goal

abbrev pub invariant-loop-cell : goal.invariant-loop-cell
invariant-loop-cell l = list_any (λ cell. is_caption cell.kind) (map out-TableCell (drop l.cell-index l.cells)) ≡
    list_any (λ cell. is_caption cell.kind) (map out-TableCell l.cells)
