-- The units of a table, one level at a time.
use Rattle.std.proofs.Common.{◌≡◌, ◌∙◌, List, map, refl}
use Rattle.std.specs.List.{flat_map}
use Rattle.std.proofs.lemmas.List.Folds.{flat_map-map}
use Rattle.tl_text.specs.declared.paragraph.Atom.{Atom}
use Rattle.tl_table.specs.declared.cell.Content.TheOpen as open_content
use Rattle.tl_table.specs.declared.cell.Content.{Content, out-Content, fold_out-Content, map-Content}
use Rattle.tl_table.specs.declared.cell.Table.{Table, out-Table, fold_out-Table}
use Rattle.tl_table.specs.declared.cell.TableCell.{TableCell, out-TableCell, fold_out-TableCell}
use Rattle.tl_table.specs.Tables.{OpenContent}
use Rattle.tl_fit.specs.Units.{content_units, cell_units, table_units, units_in_cell, units_in_content, units_in_table}

-- the units of the items joined, item by item
joined_units : {X : Type 0} (f : X → List Atom) (xs : List X) → flat_map (λ units. units) (map f xs) ≡ flat_map f xs
joined_units f xs = flat_map-map (λ units. units) f xs

-- a table has the units of its cells
pub units_in_table-out : (table : Table) → units_in_table table ≡ flat_map units_in_cell (out-Table table).cells
units_in_table-out table =
    fold_out-Table (List Atom) (List Atom) (List Atom) content_units table_units cell_units table
    ∙ joined_units units_in_cell (out-Table table).cells

-- a cell has the units of its blocks
pub units_in_cell-out : (cell : TableCell) → units_in_cell cell ≡ flat_map units_in_content (out-TableCell cell).blocks
units_in_cell-out cell =
    fold_out-TableCell (List Atom) (List Atom) (List Atom) content_units table_units cell_units cell
    ∙ joined_units units_in_content (out-TableCell cell).blocks

-- the units that a block is, or has inside
abbrev pub open_units : OpenContent → List Atom
open_units (open_content.Para paragraph) = paragraph
open_units (open_content.Table box) = units_in_table box.value

-- the step of the fold gives the units that the block is or has inside
units_mapped : (block : OpenContent) → content_units
    (map-Content Content Table TableCell (List Atom) (List Atom) (List Atom)
    units_in_content units_in_table units_in_cell block) ≡ open_units block
units_mapped (open_content.Para paragraph) = refl
units_mapped (open_content.Table box) = refl

-- a block has the units that it is or has inside
pub units_in_content-out : (block : Content) → units_in_content block ≡ open_units (out-Content block)
units_in_content-out block =
    fold_out-Content (List Atom) (List Atom) (List Atom) content_units table_units cell_units block
    ∙ units_mapped (out-Content block)
