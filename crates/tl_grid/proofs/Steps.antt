-- One step of a walk, as the code keeps it.
use Rattle.std.proofs.Common.{◌≡◌, ℕ, ◌+◌, ◌<◌, max, List, [], ◌∷◌, ◌++◌, length, Option, Some, None, Result, Ok, sym, ap, ◌∙◌}
use Rattle.std.proofs.Common.{subst, arith}
use Rattle.tl_grid.specs.declared.shape.SpanOf.{SpanOf}
use Rattle.tl_grid.specs.declared.block.Block.{Block}
use Rattle.tl_grid.specs.declared.row.RowState.{RowState}
use Rattle.tl_grid.specs.inner.OpenBlocks.{hit, Walk, pass_taken}
use Rattle.tl_grid.specs.inner.Walk.{Row, block_at, row_with_cell, walk_of, unless_hit, place_cell, place_cells}
use Rattle.tl_grid.specs.inner.States.{row_over}
use Rattle.tl_grid.specs.declared.error.GridError.{GridError}
use Rattle.tl_grid.proofs.Runs.{pass_again}

-- a cell that runs into no block, placed where the walk comes to
cell_free : (y number : ℕ) (span : SpanOf) (row : Row) (walk : Walk) → walk ≡ walk_of y row →
    hit walk.ahead (walk.column + span.colspan) ≡ None →
    place_cell y number row span ≡ Ok (row_with_cell y number span row walk)
cell_free y number span row walk e none =
    let done : Row = row_with_cell y number span row walk in
    let P : Walk → Type 0 = λ w. unless_hit (hit w.ahead (w.column + span.colspan)) number y
    (Ok (row_with_cell y number span row w)) ≡ Ok done in
    subst P e (ap (λ o. unless_hit o number y (Ok done)) none)

-- a cell that is placed, as the code keeps it
pub cell_done : (y number : ℕ) (span : SpanOf) (row : RowState) (walk : Walk) (b : Block) (height : ℕ)
    (blocks : List Block) (open_blocks : Walk) → walk ≡ walk_of y (row_over row) →
    hit walk.ahead b.right ≡ None → b ≡ block_at number walk.column y span →
    height ≡ max row.height b.bottom → blocks ≡ row.blocks ++ b ∷ [] →
    open_blocks ≡ record { column = b.right; passed = walk.passed ++ b ∷ []; ahead = walk.ahead } →
    place_cell y number (row_over row) span ≡ Ok (row_over record { height = height; blocks = blocks; open_blocks = open_blocks })
cell_done y number span row walk b height blocks open_blocks e none is high more put =
    let c : Block = block_at number walk.column y span in
    let right : b.right ≡ c.right = ap (λ (d : Block). d.right) is in
    let tall : max row.height c.bottom ≡ height = ap (λ (d : Block). max row.height d.bottom) (sym is) ∙ sym high in
    let all : row.blocks ++ c ∷ [] ≡ blocks = ap (λ d. row.blocks ++ d ∷ []) (sym is) ∙ sym more in
    let column : c.right ≡ open_blocks.column = sym right ∙ ap (λ (w : Walk). w.column) (sym put) in
    let passed : walk.passed ++ c ∷ [] ≡ open_blocks.passed =
    ap (λ d. walk.passed ++ d ∷ []) (sym is) ∙ ap (λ (w : Walk). w.passed) (sym put) in
    let ahead : walk.ahead ≡ open_blocks.ahead = ap (λ (w : Walk). w.ahead) (sym put) in
    cell_free y number span (row_over row) walk e (ap (hit walk.ahead) (sym right) ∙ none)
    ∙ ap Ok (λ i. record { column = column i; height = tall i; blocks = all i; passed = passed i; ahead = ahead i })

-- the cells of a row, where the walk to the first of them has been made before
pub row_begun : (y number : ℕ) (spans : List SpanOf) (row : Row) (walk : Walk) → 0 < length spans →
    walk ≡ walk_of y row →
    place_cells y number record {
      column = walk.column;
      height = row.height;
      blocks = row.blocks;
      passed = walk.passed;
      ahead =
          walk.ahead;
    } spans
    ≡ place_cells y number row spans
row_begun y number [] row walk some e = absurd (omega arith)
row_begun y number (span ∷ spans) row walk some e =
    let next : Walk → Result Row GridError = λ w. unless_hit (hit w.ahead (w.column + span.colspan)) number y
    (place_cells y (number + 1) (row_with_cell y number span row w) spans) in
    ap next (ap (λ (w : Walk). pass_taken y w.column w.passed w.ahead) e ∙ pass_again y row.ahead row.column row.passed)

-- where a cell runs into no block the row goes on after it
step_on : (o : Option Block) (number y : ℕ) (done after : Row) (next : Row → Result Row GridError) →
    unless_hit o number y (Ok done) ≡ Ok after → unless_hit o number y (next done) ≡ next after
step_on None number y done after next e = (let same : done ≡ after = cc in ap next same)
step_on (Some b) number y done after next e = cc

-- the cells of a row, after one
pub cells_step : (y number : ℕ) (row after : Row) (span : SpanOf) (spans : List SpanOf) →
    place_cell y number row span ≡ Ok after →
    place_cells y number row (span ∷ spans) ≡ place_cells y (number + 1) after spans
cells_step y number row after span spans e =
    step_on (hit (walk_of y row).ahead ((walk_of y row).column + span.colspan)) number y
    (row_with_cell y number span row (walk_of y row)) after
    (λ r. place_cells y (number + 1) r spans) e
