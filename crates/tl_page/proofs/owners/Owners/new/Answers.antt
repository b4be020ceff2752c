-- At first no slot has a number, and then each has that of the cell over it.
use Rattle.std.proofs.Common.{◌≡◌, ℕ, ◌+◌, ◌-◌, ◌*◌, ◌<◌, length, map, get_or, Option, None, subst, sym, ap, ap₂, ◌∙◌, arith}
use Rattle.std.specs.List.{All}
use Rattle.std.proofs.lemmas.List.{length-replicate, with_items_is}
use Rattle.tl_table.specs.Sound.{place_of}
use Rattle.tl_table.specs.declared.cell.Table.{out-Table}
use Rattle.tl_grid.specs.Dropping.{IsPlaced}
use Rattle.tl_page.specs.Corners.{number_over}
use Rattle.tl_page.proofs.SlotLemmas.{no_number, same_owner}
use Rattle.tl_page.proofs.owners.Owners.new.Goals as goal

pub put_cells-requires : goal.put_cells-requires
put_cells-requires c =
    let table = out-Table c.args.table.now in
    let none : Option ℕ = None in
    let turned : table.cols * table.rows ≡ table.rows * table.cols = grind arith in
    let many = length-replicate (table.cols * table.rows) none in (
      table.rows,
      ap length (c.deref_mut.ensures.value ∙ c.in_ok-slots.ensures) ∙ many ∙ turned,
      subst (λ cells. All (IsPlaced table.cols table.rows) (map place_of cells)) (sym c.as_slice.ensures) c.requires,
    )

pub returns : goal.returns
returns c = λ column row.
    let table = out-Table c.args.table.now in
    let none : Option ℕ = None in
    let place = (row - 1) * table.cols + (column - 1) in
    same_owner table.cols table.rows column row (get_or c.from_vec.result place None)
    (number_over 0 (map place_of table.cells) column row)
    (λ left right top bottom.
    let before : column - 1 < table.cols = omega arith in
    let this_column : column - 1 + 1 ≡ column = omega arith in
    let this_row : row - 1 + 1 ≡ row = omega arith in
    let empty : get_or c.deref_mut.result.now place none ≡ none =
    ap (λ slots. get_or slots place none) (c.deref_mut.ensures.value ∙ c.in_ok-slots.ensures) ∙ no_number
    (table.cols * table.rows) place none in
    ap (λ slots. get_or slots place none) (c.from_vec.ensures ∙ with_items_is c.in_ok-slots.slots c.put_cells.new.slots
    (c.put_cells.auto.slots ∙ c.deref_mut.ensures.len))
    ∙ c.put_cells.ensures (column - 1) (row - 1) before empty
    ∙ ap (λ cells. number_over 0 (map place_of cells) (column - 1 + 1) (row - 1 + 1)) c.as_slice.ensures
    ∙ ap₂ (number_over 0 (map place_of table.cells)) this_column this_row)
