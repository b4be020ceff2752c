use Rattle.std.proofs.Common.{◌++◌, ◌-◌}
use Rattle.std.specs.List.{flat_map}
use Rattle.tl_demo.specs.Demo.{row_text, rows_from}
use Rattle.tl_demo.proofs.Writing.{RowsLeft}
use Rattle.tl_demo.proofs.text.write_rows.Given as goal

abbrev pub invariant-loop : goal.invariant-loop
invariant-loop l =
    RowsLeft (30 - l.counter) l.draws.state l.out (l.initial.out ++ flat_map row_text (rows_from 30 l.initial.draws.state).value)
