use Rattle.std.proofs.Common.{◌+◌, ◌*◌, ◌≤◌, subst, sym, ap, ◌∙◌, arith}
use Rattle.tl_base.specs.declared.limits.TheConstants.{MAX_COLSPAN}
use Rattle.tl_grid.specs.declared.block.Block.{Block}
use Rattle.tl_grid.specs.inner.OpenBlocks.{Walk}
use Rattle.tl_grid.specs.inner.Walk.{block_at}
use Rattle.tl_grid.proofs.Bounds.{EndsIn, passed_within, all_wider}
use Rattle.tl_grid.proofs.Steps.{cell_done}
use Rattle.tl_grid.proofs.row.form_cell.Goals as goal

pub block_of-block-requires-clause-column : goal.block_of-block-requires-clause-column
block_of-block-requires-clause-column c =
    let P : Walk → Type 0 = λ w. EndsIn (MAX_COLSPAN * c.args.number) w in
    let ends = subst P (sym c.in_ok-open_blocks.ensures)
    (passed_within (MAX_COLSPAN * c.args.number) c.args.y c.args.row.open_blocks.ahead
    c.args.row.open_blocks.column c.args.row.open_blocks.passed
    c.requires.columns.0 c.requires.columns.1) in
    omega (arith, ends.0, c.column.ensures)

pub returns-clause-cell : goal.returns-clause-cell
returns-clause-cell c =
    let walk = c.in_ok-open_blocks.open_blocks in
    cell_done c.args.y c.args.number c.args.span c.args.row walk
    c.block_of-block.result c.max.result c.push.new.self c.in_ok-open_blocks-2.open_blocks
    c.in_ok-open_blocks.ensures
    (sym c.first_hit.ensures ∙ c.in_default.is)
    (c.block_of-block.ensures ∙ ap (λ x. block_at c.args.number x c.args.y c.args.span) c.column.ensures)
    c.max.ensures c.in_ok-push.ensures.ok c.in_ok-open_blocks-2.ensures

pub returns-clause-columns : goal.returns-clause-columns
returns-clause-columns c =
    let walk = c.in_ok-open_blocks.open_blocks in
    let P : Walk → Type 0 = λ w. EndsIn (MAX_COLSPAN * c.args.number) w in
    let ends = subst P (sym c.in_ok-open_blocks.ensures)
    (passed_within (MAX_COLSPAN * c.args.number) c.args.y c.args.row.open_blocks.ahead
    c.args.row.open_blocks.column c.args.row.open_blocks.passed
    c.requires.columns.0 c.requires.columns.1) in
    let right : c.block_of-block.result.right ≤ MAX_COLSPAN * (c.args.number + 1) =
    omega (arith, ends.0, c.requires.span.1, c.column.ensures, ap (λ (b : Block). b.right) c.block_of-block.ensures) in
    let Q : Walk → Type 0 = λ w. EndsIn (MAX_COLSPAN * (c.args.number + 1)) w in
    subst Q (sym c.in_ok-open_blocks-2.ensures) (
      right,
      all_wider (MAX_COLSPAN * c.args.number) (MAX_COLSPAN * (c.args.number + 1)) (omega arith) walk.passed
          c.block_of-block.result walk.ahead right ends.1,
    )
