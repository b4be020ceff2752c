-- What the cells of a run of first rows are. No public clause cites this file.
use Rattle.std.specs.Prelude.{Bool}
use Rattle.tl_table.specs.declared.head.Mark.{Mark}
use Rattle.tl_table.specs.declared.head.Mark.TheVariants.{Group, Header}
use Rattle.tl_table.specs.Heads.{is_header}
use Rattle.tl_table.specs.Tables.{OpenCell}

-- the cell has the mark: it is of a `thead` group, or a header cell
abbrev pub has_mark : Mark → OpenCell → Bool
has_mark Group cell = cell.in_head
has_mark Header cell = is_header cell.kind
