use Rattle.std.proofs.Common.{◌∙◌, length, map, refl, sym, ap, subst, arith}
use Rattle.std.proofs.lemmas.List.{length-map}
use Rattle.tl_table.specs.declared.cell.Table.{out-Table}
use Rattle.tl_table.specs.declared.cell.TableCell.{out-TableCell}
use Rattle.tl_table.specs.inner.Marks.{has_mark}
use Rattle.tl_table.proofs.HeadLaws.{IsRunFrom, run_from-all, run_from-none, sound_descend, step-ends, step-stands}
use Rattle.tl_table.proofs.head.run_end.Goals as goal

pub loop-number-init : goal.loop-number-init
loop-number-init c =
    run_from-none (has_mark c.args.mark) (map out-TableCell (out-Table c.args.table.now).cells) (out-Table c.args.table.now).rows
    (length c.as_slice-cells.result.now)
    (omega (arith, ap length c.as_slice-cells.ensures, length-map (out-Table c.args.table.now).cells out-TableCell))

pub loop-number-preserved-then-not-stands_with : goal.loop-number-preserved-then-not-stands_with
loop-number-preserved-then-not-stands_with c =
    step-ends (has_mark c.args.mark) (map out-TableCell (out-Table c.args.table.now).cells) (out-Table c.args.table.now).rows
    (out-Table c.args.table.now).cells c.as_slice-cells.result.now refl c.as_slice-cells.ensures c.loop-number.number
    c.index-cells-number.result c.loop-number-test.true c.loop-number.auto.number c.index-cells-number.is c.loop-number.end
    c.loop-number.invariant (sound_descend c.args.table.now c.requires)
    (sym c.stands_with.ensures ∙ c.if-not-stands_with.true)

pub loop-number-preserved : goal.loop-number-preserved
loop-number-preserved c =
    step-stands (has_mark c.args.mark) (map out-TableCell (out-Table c.args.table.now).cells) (out-Table c.args.table.now).rows
    (out-Table c.args.table.now).cells c.as_slice-cells.result.now refl c.as_slice-cells.ensures c.loop-number.number
    c.index-cells-number.result c.loop-number-test.true c.loop-number.auto.number c.index-cells-number.is c.loop-number.end
    c.loop-number.invariant (sym c.stands_with.ensures ∙ c.if-not-stands_with.false)

pub returns : goal.returns
returns c =
    run_from-all (has_mark c.args.mark) (map out-TableCell (out-Table c.args.table.now).cells) (out-Table c.args.table.now).rows
    c.loop-number.end
    (subst (λ n. IsRunFrom (has_mark c.args.mark) (map out-TableCell (out-Table c.args.table.now).cells)
    (out-Table c.args.table.now).rows n c.loop-number.end) (omega (arith, c.loop-number-test.false)) c.loop-number.invariant)
