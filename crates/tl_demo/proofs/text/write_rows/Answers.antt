use Rattle.std.proofs.Common.{◌≡◌, ◌+◌, ◌-◌, ◌++◌, suc, sym, subst, arith}
use Rattle.std.specs.List.{flat_map}
use Rattle.tl_demo.specs.Demo.{row_text, rows_from}
use Rattle.tl_demo.proofs.Writing.{RowsLeft, row_written, rows_end}
use Rattle.tl_demo.proofs.text.write_rows.Goals as goal

pub loop-preserved : goal.loop-preserved
loop-preserved c =
    let out = c.loop.out in
    let state = c.loop.draws.state in
    let left = 30 - (c.loop.counter + 1) in
    let text = c.args.out.now ++ flat_map row_text (rows_from 30 c.args.draws.now.state).value in
    let new = c.write_row.new.out in
    let more : 30 - c.loop.counter ≡ suc left = omega (arith, c.loop-test.true) in
    let written = row_written left state out new text c.in_ok-write_row.ensures.text
    (subst (λ n. RowsLeft n state out text) more c.loop.invariant) in
    subst (λ s. RowsLeft left s new text) (sym c.in_ok-write_row.ensures.state) written

pub returns : goal.returns
returns c = rows_end (30 - c.loop.counter) c.loop.draws.state c.loop.out _ (omega (arith, c.loop-test.false)) c.loop.invariant
