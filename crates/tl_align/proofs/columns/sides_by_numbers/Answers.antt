use Rattle.std.proofs.Common.{◌∙◌, get_or, map, ap, arith}
use Rattle.std.proofs.lemmas.List.{take_all}
use Rattle.tl_sides.specs.declared.side.Side.TheVariants.{Left}
use Rattle.tl_table.specs.declared.cell.Table.{out-Table}
use Rattle.tl_align.specs.inner.Tallies.{side}
use Rattle.tl_align.proofs.TallyLemmas.{sides-tallies}
use Rattle.tl_align.proofs.columns.sides_by_numbers.Goals as goal

pub returns : goal.returns
returns c = λ column below.
    ap (λ sides. get_or sides column Left)
    (c.loop-tally.invariant
    ∙ ap (map side) (take_all c.loop-tally.tally-index c.tallies-tallies.result
    (omega (arith, c.loop-tally-test.false, c.tallies-tallies.ensures.0))))
    ∙ sides-tallies (out-Table c.args.table.now) c.tallies-tallies.result c.tallies-tallies.ensures column below
