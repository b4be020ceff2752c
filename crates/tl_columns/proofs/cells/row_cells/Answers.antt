use Rattle.std.proofs.Common.{◌∙◌, ◌++◌, ◌<◌, ℕ, List, [], ◌∷◌, IsUtf8, length, take, get_or, sym, ap, subst, append_assoc, arith}
use Rattle.tl_base.proofs.Zips.{AllZip-push}
use Rattle.tl_table.specs.declared.cell.TableCell.{TableCell, out-TableCell}
use Rattle.tl_columns.specs.Columns.{placed_in, IsFieldCell, PlacedField}
use Rattle.tl_columns.proofs.Placed.{placed_in_all, placed_in_more}
use Rattle.tl_columns.proofs.TextCells.{AreCellsOf}
use Rattle.tl_columns.proofs.cells.row_cells.Goals as goal

pub text_of-text-requires : goal.text_of-text-requires
text_of-text-requires c =
    subst IsUtf8 (sym c.field.ensures)
    (c.requires.utf8 c.loop-column.column [] (omega (arith, c.loop-column-test.true, c.len-column-end.ensures)))

pub loop-column-preserved : goal.loop-column-preserved
loop-column-preserved c =
    let (more, joined, are) = c.loop-column.invariant in
    let column = c.loop-column.column in
    let fields = c.args.fields.now in
    let at : List ℕ → PlacedField = λ field. record { row = c.args.row; column = column; field = field } in
    let is = subst (λ (field : List ℕ). IsFieldCell c.args.form.now.head c.args.form.now.least.now c.args.form.now.breaking (at field)
    (out-TableCell c.in_ok-made.made)) (c.text_of-text.ensures ∙ c.field.ensures) c.in_ok-made.ensures in
    let within : column < length fields = omega (arith, c.loop-column-test.true, c.len-column-end.ensures) in (
      more ++ c.in_ok-made.made ∷ [],
      c.in_ok-push.ensures.ok ∙ ap (λ (cells : List TableCell). cells ++ c.in_ok-made.made ∷ []) joined
          ∙ append_assoc c.args.cells more (c.in_ok-made.made ∷ []),
      subst (λ (ats : List PlacedField). AreCellsOf c.args.form.now.head c.args.form.now.least.now c.args.form.now.breaking ats
          (more ++ c.in_ok-made.made ∷ [])) (sym (placed_in_more c.args.row fields column within))
          (AllZip-push (λ (one : PlacedField) (cell : TableCell). IsFieldCell c.args.form.now.head c.args.form.now.least.now c.args.form.now.breaking one
          (out-TableCell cell)) (take column (placed_in c.args.row fields)) more (at (get_or fields column []))
          c.in_ok-made.made are is),
    )

pub returns : goal.returns
returns c =
    let (more, joined, are) = c.loop-column.invariant in (
      more,
      joined,
      subst (λ (ats : List PlacedField). AreCellsOf c.args.form.now.head c.args.form.now.least.now c.args.form.now.breaking ats more)
          (placed_in_all c.args.row c.args.fields.now c.loop-column.column
          (omega (arith, c.loop-column-test.false, c.len-column-end.ensures))) are,
    )
