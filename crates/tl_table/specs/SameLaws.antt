-- What holds of a table holds of each that is the same, wherever in memory nested tables lie. Each is the contract of
-- a function of `same_laws`.
use Rattle.std.specs.Prelude.{◌≡◌, ℕ}
use Rattle.tl_base.specs.declared.style.Style.{Style}
use Rattle.tl_table.specs.declared.cell.Table.{Table}
use Rattle.tl_table.specs.Least.{IsLeastWidth}
use Rattle.tl_table.specs.Same.{AreSame}
use Rattle.tl_table.specs.Sound.{nested_in_table}

-- as many tables are inside one as inside the other
abbrev pub SameTablesNestAsMany : Type 0
SameTablesNestAsMany = (one other : Table) → AreSame one other → nested_in_table one ≡ nested_in_table other

-- the least width of one is that of the other
abbrev pub SameTablesShareLeastWidths : Type 0
SameTablesShareLeastWidths = (one other : Table) (style : Style) (least : ℕ) → AreSame one other →
    IsLeastWidth one style least → IsLeastWidth other style least
