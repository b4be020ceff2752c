-- A cell of the span may raise the greatest least width; any other leaves it.
use Rattle.std.proofs.Common.{◌≡◌, ◌+◌, take, get_or, arith, sym, ◌∙◌}
use Rattle.std.proofs.lemmas.List.{map_more, get_or_default}
use Rattle.tl_problem.specs.declared.axis.Turn.{Turn}
use Rattle.tl_problem.specs.inner.Axes.{turn}
use Rattle.tl_problem.specs.inner.Demands.{cell_at}
use Rattle.tl_problem.specs.inner.Spanning.{cells_at, least_among}
use Rattle.tl_problem.proofs.SpanLaws.{has_span-from}
use Rattle.tl_problem.proofs.SpanningLemmas.{least_among-skip, least_among-more, has_span-false}
use Rattle.tl_problem.proofs.spans.greatest_least.Goals as goal
use Rattle.tl_problem.proofs.spans.greatest_least.Goals.{then-cell-span+then-cell-span-2, else-cell-span}
use Rattle.tl_problem.proofs.spans.greatest_least.Goals.{else-cell-span-via-then-cell-span+else-cell-span-2}
use Rattle.tl_problem.proofs.spans.greatest_least.Goals.{else-cell-span-via-else-cell-span}

pub loop-turn-preserved : goal.loop-turn-preserved
loop-turn-preserved c =
    let cells = c.args.cells.now in
    let turns = c.args.turns.now in
    let cell = c.index-cells-turn.result in
    let inside = c.requires c.loop-turn.turn-index (turn 0 0) c.loop-turn-test.true in
    let same : cell ≡ cell_at cells (get_or turns c.loop-turn.turn-index (turn 0 0)).cell =
    c.index-cells-turn.is ∙ get_or_default cells _ _ _ inside in
    let done = cells_at cells (take c.loop-turn.turn-index turns) in
    let more = map_more (λ (t : Turn). cell_at cells t.cell) turns c.loop-turn.turn-index (turn 0 0) c.loop-turn-test.true in
    let wanted : c.if-cell-span.least ≡ least_among (cells_at cells (take (c.loop-turn.turn-index + 1) turns)) c.args.span =
    rw (more, ← same)
    (elim c.if-cell-span.branch [
      | then-cell-span+then-cell-span-2 w ↦
          let is = least_among-more done c.args.span cell (has_span-from c.args.span cell w.if-cell-span.true
          w.if-cell-span-2.true) in
          omega (arith, is, w.least-is, w.max-least.ensures, w.least.ensures, c.loop-turn.invariant)
      | else-cell-span w ↦
          let out = least_among-skip done c.args.span cell (has_span-false c.args.span cell
          (λ left right. elim w.else-cell-span.branch [
            | else-cell-span-via-then-cell-span+else-cell-span-2 w' ↦ w'.if-cell-span-2.false right
            | else-cell-span-via-else-cell-span w' ↦ w'.if-cell-span.false left
          ])) in
          w.least-is ∙ c.loop-turn.invariant ∙ sym out
    ]) in
    wanted
