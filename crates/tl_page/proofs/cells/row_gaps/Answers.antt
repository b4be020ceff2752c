-- The head ends within the table.
use Rattle.std.proofs.Common.{arith}
use Rattle.tl_table.proofs.HeadLaws.{head-end-le}
use Rattle.tl_page.proofs.Fitting.{sound_table}
use Rattle.tl_page.proofs.cells.row_gaps.Goals as goal

pub lined_rows-requires : goal.lined_rows-requires
lined_rows-requires c =
    omega (
      arith,
      c.head_end.ensures,
      head-end-le c.args.table.now,
      (sound_table c.args.table.now c.requires).few_rows,
    )
