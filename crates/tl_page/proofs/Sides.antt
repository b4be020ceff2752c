-- Lines at their side of a room.
use Rattle.std.proofs.Common.{◌≡◌, ℕ, ◌+◌, ◌-◌, ◌<◌, ◌≤◌, List, get_or, length, map, refl, sym, ◌∙◌, ap, arith}
use Rattle.std.proofs.lemmas.List.{get_or-map, get_or_default, length-map}
use Rattle.tl_sides.specs.declared.side.Side.{Side}
use Rattle.tl_sides.specs.declared.side.Side.TheVariants.{Left, Right, Center}
use Rattle.tl_table.specs.declared.cell.TableCell.{TableCell, out-TableCell}
use Rattle.tl_table.specs.Tables.{OpenTable}
use Rattle.tl_align.specs.Sides.{side_of, sides_of}
use Rattle.tl_page.specs.declared.line.TextLine.{TextLine}
use Rattle.tl_page.specs.declared.look.Look.{Look}
use Rattle.tl_page.specs.Pages.{aligned, indent}
use Rattle.tl_page.specs.Pictures.{spaces}
use Rattle.tl_page.proofs.LineWidths.{IsInRoom}
use Rattle.tl_page.proofs.WidthLemmas.{HasWidth-append, HasWidth-spaces}

-- no more spaces stand before a line than are free beside it
pub indent_few : (side : Side) (columns width : ℕ) → indent side columns width ≤ columns - width
indent_few Left columns width = omega arith
indent_few Right columns width = omega arith
indent_few Center columns width = omega arith

-- a line in its room is in it at each side
pub aligned_in_room : (side : Side) (columns : ℕ) (line : TextLine) → IsInRoom columns line → IsInRoom columns (aligned side columns line)
aligned_in_room side columns line (wide, within) =
    let before = indent side columns line.width in (
      HasWidth-append (spaces before) line.text before line.width (before + line.width) (HasWidth-spaces before) wide refl,
      omega (arith, indent_few side columns line.width, within),
    )

-- there is a side for each cell, and the one at the place of a cell is the cell's
pub as_many_sides : (look : Look) (table : OpenTable) (sides : List Side) → sides ≡ sides_of look.align table →
    length sides ≡ length table.cells
as_many_sides look table sides are =
    ap length are ∙ length-map table.cells (λ (cell : TableCell). side_of look.align table (out-TableCell cell))

pub side_at : (look : Look) (table : OpenTable) (sides : List Side) (i : ℕ) (cell : TableCell) (none : Side) →
    sides ≡ sides_of look.align table →
    i < length table.cells → cell ≡ get_or table.cells i cell →
    get_or sides i none ≡ side_of look.align table (out-TableCell cell)
side_at look table sides i cell none are within is =
    let of = λ (cell : TableCell). side_of look.align table (out-TableCell cell) in
    ap (λ (list : List Side). get_or list i none) are
    ∙ get_or_default (map of table.cells) i none (of cell) (omega (arith, within, length-map table.cells of))
    ∙ get_or-map of table.cells i cell (of cell) within
    ∙ ap of (sym is)
