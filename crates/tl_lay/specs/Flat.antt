-- Tables in whose cells no table is nested.
use Rattle.std.specs.Prelude.{◌≡◌, []}
use Rattle.tl_table.specs.declared.cell.Table.{Table, out-Table}
use Rattle.tl_table.specs.Tables.{inner_tables}

-- no table is nested in a cell of this one
abbrev pub HasNoNested : Table → Type 0
HasNoNested table = inner_tables (out-Table table) ≡ []
