-- No public clause cites this file: it says how a list lies in an array that is longer.
use Rattle.std.specs.Prelude.{◌-◌, List, ◌++◌, length, replicate}
use Rattle.tl_base.specs.declared.limits.TheConstants.{MAX_COLUMNS}
use Rattle.tl_sides.specs.declared.side.Side.{Side}
use Rattle.tl_sides.specs.declared.side.Side.TheVariants.{Left}

-- the sides, and lefts behind them
abbrev pub padded : List Side → List Side
padded sides = sides ++ replicate (MAX_COLUMNS - length sides) Left
