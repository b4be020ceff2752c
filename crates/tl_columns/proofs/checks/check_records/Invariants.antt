use Rattle.std.proofs.Common.{take}
use Rattle.std.specs.List.{All}
use Rattle.tl_columns.specs.Records.{column_count}
use Rattle.tl_columns.specs.Refused.{IsWellFormed}
use Rattle.tl_columns.proofs.checks.check_records.Given as goal

abbrev pub invariant-loop-number : goal.invariant-loop-number
invariant-loop-number l = All (IsWellFormed (column_count l.records)) (take l.number l.records)
