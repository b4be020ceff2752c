use Rattle.std.proofs.Common.{◌≡◌, false, take}
use Rattle.std.specs.List.{All}
use Rattle.tl_columns.specs.Refused.{has_control}
use Rattle.tl_columns.proofs.checks.is_clean.Given as goal

abbrev pub invariant-loop-column : goal.invariant-loop-column
invariant-loop-column l = All (λ field. has_control field ≡ false) (take l.column l.fields)
