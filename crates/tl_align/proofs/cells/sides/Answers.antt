use Rattle.std.proofs.Common.{◌≡◌, ◌∙◌, IfOk, true, false, map, refl, sym, ap, subst}
use Rattle.tl_sides.specs.declared.align.Align.TheVariants.{Columns, Auto, Cells}
use Rattle.tl_table.specs.declared.cell.Table.{out-Table}
use Rattle.tl_table.specs.declared.cell.TableCell.{out-TableCell}
use Rattle.tl_align.specs.Sides.{sides_of}
use Rattle.tl_align.specs.inner.Tallies.{given_side}
use Rattle.tl_align.proofs.TallyLemmas.{sides_by_list, sound_within}
use Rattle.tl_align.proofs.cells.sides.Goals as goal

pub returns-in-Columns : goal.returns-in-Columns
returns-in-Columns c =
    let table = out-Table c.args.table.now in
    subst (λ list. IfOk c.sides_by.result (λ sides. sides ≡ list))
    (ap (map (λ cell. given_side false c.in-Columns.columns (out-TableCell cell))) c.as_slice-cells.ensures
    ∙ sides_by_list (Columns c.in-Columns.columns) false table c.in-Columns.columns (λ cell. refl)
    (sound_within c.args.table.now c.requires) (λ column below. refl)
    ∙ sym (ap (λ align. sides_of align table) c.in-Columns.is))
    c.sides_by.ensures

pub returns-in-Auto : goal.returns-in-Auto
returns-in-Auto c =
    let table = out-Table c.args.table.now in
    subst (λ list. IfOk c.sides_by-in-Auto.result (λ sides. sides ≡ list))
    (ap (map (λ cell. given_side false c.sides_by_numbers.result (out-TableCell cell))) c.as_slice-cells.ensures
    ∙ sides_by_list Auto false table c.sides_by_numbers.result (λ cell. refl)
    (sound_within c.args.table.now c.requires) c.sides_by_numbers.ensures
    ∙ sym (ap (λ align. sides_of align table) c.in-Auto.is))
    c.sides_by-in-Auto.ensures

pub returns-in-Cells : goal.returns-in-Cells
returns-in-Cells c =
    let table = out-Table c.args.table.now in
    subst (λ list. IfOk c.sides_by-in-Cells.result (λ sides. sides ≡ list))
    (ap (map (λ cell. given_side true c.sides_by_numbers-in-Cells.result (out-TableCell cell))) c.as_slice-cells.ensures
    ∙ sides_by_list Cells true table c.sides_by_numbers-in-Cells.result (λ cell. refl)
    (sound_within c.args.table.now c.requires) c.sides_by_numbers-in-Cells.ensures
    ∙ sym (ap (λ align. sides_of align table) c.in-Cells.is))
    c.sides_by-in-Cells.ensures
