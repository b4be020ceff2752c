-- A cell of the span adds the widths at which its steps begin; then a sort and a dedup leave each width once, rising.
use Rattle.std.proofs.Common.{◌≡◌, take, get_or, eqb, arith, sym, ◌∙◌, subst}
use Rattle.std.specs.List.{Contains, dedup}
use Rattle.std.proofs.lemmas.List.{map_more, take_all, get_or_default}
use Rattle.std.proofs.lemmas.List.Elements.{Contains-get_or}
use Rattle.std.proofs.lemmas.List.Filters.{dedup_is}
use Rattle.std.proofs.lemmas.List.Kept.{AllPairs-from_increasing, Contains-dedup_nat, Contains-from_dedup}
use Rattle.std.proofs.lemmas.List.Sorted.{Contains-permutation, IsPermutation-sym}
use Rattle.std.proofs.lemmas.Map.Keys.{IsStrictlyIncreasing-dedup}
use Rattle.tl_problem.specs.declared.axis.Turn.{Turn}
use Rattle.tl_problem.specs.inner.Axes.{turn}
use Rattle.tl_problem.specs.inner.Demands.{cell_at}
use Rattle.tl_problem.specs.inner.Spanning.{AreFound, cells_at}
use Rattle.tl_problem.proofs.SpanLaws.{has_span-from}
use Rattle.tl_problem.proofs.SpanningLemmas.{AreFound-skip, AreFound-add, AreFound-same, AreFound-all, has_span-false}
use Rattle.tl_problem.proofs.SpanningLemmas.{least_among-all}
use Rattle.tl_problem.proofs.spans.first_widths.Goals as goal
use Rattle.tl_problem.proofs.spans.first_widths.Goals.{then-cell-span+then-cell-span-2+in_ok-add_steps+in_ok-add_steps-2}
use Rattle.tl_problem.proofs.spans.first_widths.Goals.{else-cell-span}
use Rattle.tl_problem.proofs.spans.first_widths.Goals.{else-cell-span-via-then-cell-span+else-cell-span-2}
use Rattle.tl_problem.proofs.spans.first_widths.Goals.{else-cell-span-via-else-cell-span}

pub loop-turn-preserved : goal.loop-turn-preserved
loop-turn-preserved c =
    let cells = c.args.cells.now in
    let turns = c.args.turns.now in
    let cell = c.index-cells-turn.result in
    let inside = c.requires.there c.loop-turn.turn-index (turn 0 0) c.loop-turn-test.true in
    let number = (get_or turns c.loop-turn.turn-index (turn 0 0)).cell in
    let same : cell ≡ cell_at cells number = c.index-cells-turn.is ∙ get_or_default cells _ _ _ inside in
    let done = cells_at cells (take c.loop-turn.turn-index turns) in
    let more = map_more (λ (t : Turn). cell_at cells t.cell) turns c.loop-turn.turn-index (turn 0 0) c.loop-turn-test.true in
    let least = c.greatest_least-least.result in
    rw (more, ← same)
    (elim c.if-cell-span.branch [
      | then-cell-span+then-cell-span-2+in_ok-add_steps+in_ok-add_steps-2 w ↦
          rw w.firsts-is
          (AreFound-add cells c.args.span least c.args.page_room done cell c.loop-turn.firsts.items
          c.loop-turn.invariant
          w.add_steps.new.firsts.items w.add_steps-then-cell-span-2.new.firsts.items
          (rw w.configs.ensures.configs at w.in_ok-add_steps.ensures)
          (rw w.configs-then-cell-span-2.ensures.configs at w.in_ok-add_steps-2.ensures)
          (has_span-from c.args.span cell w.if-cell-span.true w.if-cell-span-2.true)
          (subst (Contains cells) (sym same) (Contains-get_or cells number _ inside)))
      | else-cell-span w ↦
          rw w.firsts-is
          (AreFound-skip cells c.args.span least c.args.page_room done cell c.loop-turn.firsts.items
          c.loop-turn.invariant
          (has_span-false c.args.span cell (λ left right. elim w.else-cell-span.branch [
            | else-cell-span-via-then-cell-span+else-cell-span-2 w' ↦ w'.if-cell-span-2.false right
            | else-cell-span-via-else-cell-span w' ↦ w'.if-cell-span.false left
          ])))
    ])

pub returns : goal.returns
returns c =
    let cells = c.args.cells.now in
    let turns = c.args.turns.now in
    let sorted = c.sort_unstable.new.self.items in
    let old = c.loop-turn.firsts.items in
    let least = c.greatest_least-least.result in
    let is : c.from_vec.result ≡ dedup eqb sorted = c.from_vec.ensures ∙ dedup_is eqb sorted _ c.dedup.ensures.filtered in
    let whole = take_all c.loop-turn.turn-index turns (omega arith) in
    let found : AreFound cells (cells_at cells turns) c.args.span least c.args.page_room old = subst
    (λ done. AreFound cells (cells_at cells done) c.args.span least c.args.page_room old) whole c.loop-turn.invariant in
    let same = AreFound-same cells c.args.span least c.args.page_room cells old (dedup eqb sorted)
    (λ w has. Contains-dedup_nat sorted w (Contains-permutation old sorted w c.sort_unstable.ensures.permutation has))
    (λ w has. Contains-permutation sorted old w (IsPermutation-sym old sorted c.sort_unstable.ensures.permutation)
    (Contains-from_dedup eqb sorted w has)) (AreFound-all cells c.args.span turns c.requires least c.args.page_room old found) in
    let of_all = c.greatest_least-least.ensures ∙ least_among-all cells c.args.span turns c.requires in
    rw is
    (record {
      rising = AllPairs-from_increasing (dedup eqb sorted) (IsStrictlyIncreasing-dedup sorted c.sort_unstable.ensures.sorted);
      found = subst (λ n. AreFound cells cells c.args.span n c.args.page_room (dedup eqb sorted)) of_all same;
    })
