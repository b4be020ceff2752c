use Rattle.std.proofs.Common.{◌≡◌, ◌-◌, ◌++◌, ◌∙◌, ap, sym, arith}
use Rattle.tl_demo.specs.Demo.{drawn_number, next_state, cell_text, cell_from, cells_from}
use Rattle.tl_demo.specs.inner.Writing.{cells_text, colspan_of}
use Rattle.tl_demo.proofs.Writing.{cells_end, next_cell_written, same_cells_left}
use Rattle.tl_demo.proofs.text.write_cells.Goals as goal

pub loop-left-preserved : goal.loop-left-preserved
loop-left-preserved c =
    let out = c.loop-left.out in
    let state = c.loop-left.draws.state in
    let columns = c.loop-left.left in
    let text = c.args.out.now ++ cells_text (cells_from 6 c.args.draws.now.state).value in
    let end = (cells_from 6 c.args.draws.now.state).state in
    let new = c.write_cell.new.out in
    let after = c.write_cell.new.draws.state in
    let made = c.colspan-colspan.result in
    let span = colspan_of (drawn_number 5 state) columns in
    let same_span : made ≡ span = c.colspan-colspan.ensures ∙ ap (λ draw. colspan_of draw columns) c.draw.ensures.value in
    let cell : new ≡ out ++ cell_text (cell_from span (next_state state)).value =
    c.in_ok-write_cell.ensures.text
    ∙ ap (λ s. out ++ cell_text (cell_from made s).value) c.draw.ensures.state
    ∙ ap (λ n. out ++ cell_text (cell_from n (next_state state)).value) same_span in
    let same_state : (cell_from span (next_state state)).state ≡ after =
    ap (λ s. (cell_from span s).state) (sym c.draw.ensures.state) ∙ sym c.in_ok-write_cell.ensures.state in (
      omega (arith, c.loop-left.invariant.0),
      same_cells_left (columns - span) (columns - made) (cell_from span (next_state state)).state after new text end
          (ap (λ n. columns - n) (sym same_span)) same_state
          (next_cell_written columns state out new text end (omega (arith, c.loop-left-test.true)) cell c.loop-left.invariant.1),
    )

pub returns : goal.returns
returns c =
    let end = cells_end c.loop-left.left c.loop-left.draws.state c.loop-left.out _ _ (omega (arith, c.loop-left-test.false))
    c.loop-left.invariant.1 in
    record { text = end.0; state = end.1 }
