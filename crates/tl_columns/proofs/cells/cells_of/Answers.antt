use Rattle.std.proofs.Common.{◌∙◌, ◌++◌, ℕ, List, take, sym, ap, subst}
use Rattle.std.specs.List.{enumerate_from, flat_map}
use Rattle.tl_base.proofs.Zips.{AllZip-append}
use Rattle.tl_table.specs.declared.cell.TableCell.{TableCell, out-TableCell}
use Rattle.tl_columns.specs.Columns.{placed_in, IsFieldCell, PlacedField}
use Rattle.tl_columns.specs.Records.{Fields, column_count}
use Rattle.tl_columns.specs.Refused.{IsWellFormed}
use Rattle.tl_columns.proofs.Placed.{numbered_all, placed_more}
use Rattle.tl_columns.proofs.TextCells.{AreCellsOf}
use Rattle.tl_columns.proofs.cells.cells_of.Goals as goal

pub row_cells-requires-clause-utf8 : goal.row_cells-requires-clause-utf8
row_cells-requires-clause-utf8 c =
    let good = subst (IsWellFormed (column_count c.args.records.now)) (sym c.index-records-row.is)
    (c.requires.well_formed c.loop-row.row c.index-records-row.result c.loop-row-test.true) in
    good.utf8

pub loop-row-preserved : goal.loop-row-preserved
loop-row-preserved c =
    let all = c.args.records.now in
    let row = c.loop-row.row in
    let (more, joined, are) = c.in_ok-cells.ensures in
    let before = flat_map (λ (one : ℕ × Fields). placed_in one.0 one.1) (take row (enumerate_from 0 all)) in
    let ats = before ++ placed_in row c.index-records-row.result in
    let both : AreCellsOf c.args.form.now.head c.args.form.now.least.now c.args.form.now.breaking ats (c.loop-row.cells ++ more) =
    AllZip-append (λ (one : PlacedField) (cell : TableCell). IsFieldCell c.args.form.now.head c.args.form.now.least.now c.args.form.now.breaking one
    (out-TableCell cell)) before (placed_in row c.index-records-row.result) c.loop-row.cells more c.loop-row.invariant are in
    let now = subst (λ (cells : List TableCell). AreCellsOf c.args.form.now.head c.args.form.now.least.now c.args.form.now.breaking ats cells)
    (sym joined) both in
    subst (λ (places : List PlacedField). AreCellsOf c.args.form.now.head c.args.form.now.least.now c.args.form.now.breaking places c.in_ok-cells.cells)
    (ap (λ (fields : Fields). before ++ placed_in row fields) c.index-records-row.is
    ∙ sym (placed_more all row c.index-records-row.result c.loop-row-test.true)) now

pub returns : goal.returns
returns c =
    subst (λ (ones : List (ℕ × Fields)). AreCellsOf c.args.form.now.head c.args.form.now.least.now c.args.form.now.breaking
    (flat_map (λ (one : ℕ × Fields). placed_in one.0 one.1) ones) c.loop-row.cells)
    (numbered_all c.args.records.now c.loop-row.row c.loop-row-test.false) c.loop-row.invariant
