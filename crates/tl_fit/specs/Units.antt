-- The units of all paragraphs of a table, those of nested tables included, by a fold over it.
use Rattle.std.specs.Prelude.{List}
use Rattle.std.specs.List.{flat_map}
use Rattle.tl_text.specs.declared.paragraph.Atom.{Atom}
use Rattle.tl_table.specs.declared.cell.Content.TheOpen as open_content
use Rattle.tl_table.specs.declared.cell.Content.{Content, fold-Content}
use Rattle.tl_table.specs.declared.cell.Table.{Table, fold-Table}
use Rattle.tl_table.specs.declared.cell.TableCell.{TableCell, fold-TableCell}

-- a paragraph has its units, a nested table those of its cells
abbrev pub content_units : open_content.Content-F (List Atom) (List Atom) (List Atom) → List Atom
content_units (open_content.Para paragraph) = paragraph
content_units (open_content.Table box) = box.value

-- a cell has the units of its blocks
abbrev pub cell_units : open_content.TableCell-F (List Atom) (List Atom) (List Atom) → List Atom
cell_units cell = flat_map (λ block. block) cell.blocks

-- a table has the units of its cells
abbrev pub table_units : open_content.Table-F (List Atom) (List Atom) (List Atom) → List Atom
table_units table = flat_map (λ cell. cell) table.cells

-- the units and breaks of a table, in the order of its cells and their blocks
abbrev pub units_in_table : Table → List Atom
units_in_table = fold-Table (List Atom) (List Atom) (List Atom) content_units table_units cell_units

-- those of a cell
abbrev pub units_in_cell : TableCell → List Atom
units_in_cell = fold-TableCell (List Atom) (List Atom) (List Atom) content_units table_units cell_units

-- those of a block
abbrev pub units_in_content : Content → List Atom
units_in_content = fold-Content (List Atom) (List Atom) (List Atom) content_units table_units cell_units
