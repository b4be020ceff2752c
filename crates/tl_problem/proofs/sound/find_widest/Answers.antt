-- Each cell widens the entry of the places that it stands between.
use Rattle.std.proofs.Common.{◌≡◌, length, arith, ◌∙◌}
use Rattle.std.proofs.lemmas.List.{get_or_default}
use Rattle.tl_problem.specs.inner.Demands.{cell_at, no_cell}
use Rattle.tl_problem.proofs.Soundness.{widest-none, widest-more}
use Rattle.tl_problem.proofs.SpanningLemmas.{slot-within}
use Rattle.tl_problem.proofs.sound.find_widest.Goals as goal

pub loop-number-init : goal.loop-number-init
loop-number-init c = widest-none c.args.side c.args.cells.now c.args.widest.now c.requires.size c.requires.clear

pub loop-number-preserved : goal.loop-number-preserved
loop-number-preserved c =
    let cells = c.args.cells.now in
    let number = c.loop-number.number in
    let same : c.index-cells-number.result ≡ cell_at cells number =
    c.index-cells-number.is ∙ get_or_default cells number _ _ c.loop-number-test.true in
    let in_grid = c.requires.grid number no_cell c.loop-number-test.true in
    let more = widest-more c.args.side cells number c.loop-number.widest c.loop-number.invariant
    (slot-within c.args.side (cell_at cells number) (omega (arith, in_grid.0, in_grid.1)) in_grid.1) in
    rw (c.max.ensures, c.unwrap_or-before.ensures, c.least.ensures, same) more

pub returns : goal.returns
returns c =
    let all : c.loop-number.number ≡ length c.args.cells.now = omega (arith, c.loop-number-test.false, c.loop-number.auto.number-end) in
    rw all at c.loop-number.invariant
