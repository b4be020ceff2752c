-- The rises of one span after those of the other make the strips higher.
use Rattle.std.proofs.Common.{get_or, subst, arith}
use Rattle.tl_astar.specs.inner.Rises.{Raises, Wants}
use Rattle.tl_astar.proofs.RaiseLemmas.{IsWantedUpto-more}
use Rattle.tl_astar.proofs.rises.Rises.raise_all.Goals as goal

pub loop-span-preserved : goal.loop-span-preserved
loop-span-preserved c =
    let rooms = c.args.rooms.now in
    let span = c.loop-span.span in
    IsWantedUpto-more c.args.self.now rooms span c.args.heights.now c.loop-span.heights c.raise_heights.new.heights
    c.loop-span.invariant
    (subst (λ rises. Raises (Wants rises (get_or rooms span 0)) c.loop-span.heights c.raise_heights.new.heights)
    c.of_span.ensures c.raise_heights.ensures)

pub returns-clause-each_span : goal.returns-clause-each_span
returns-clause-each_span c = λ span within strip height wants.
    c.loop-span.invariant.enough strip height (record { span = span; there = omega (arith, within); wants = wants })
