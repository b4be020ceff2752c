-- No public clause cites this file: it says how a list lies in an array that is longer.
use Rattle.std.specs.Prelude.{ℕ, ◌-◌, List, ◌++◌, length, replicate}
use Rattle.tl_base.specs.declared.limits.TheConstants.{MAX_COLUMNS}

-- the numbers, and zeros behind them
abbrev pub padded : List ℕ → List ℕ
padded numbers = numbers ++ replicate (MAX_COLUMNS - length numbers) 0
