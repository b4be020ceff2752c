-- The marked places of the square, in order, are the spans by left, then right.
use Rattle.std.proofs.Common.{◌≡◌, ◌+◌, ◌*◌, ◌<◌, get_or, length, true, false, arith, sym, ◌∙◌}
use Rattle.std.proofs.lemmas.List.{get_or_default}
use Rattle.tl_problem.proofs.SpanningLemmas.{AreSpansUpto-skip, AreSpansUpto-push, AreSpans-all}
use Rattle.tl_problem.proofs.spans.find_spans.Goals as goal
use Rattle.tl_problem.proofs.spans.find_spans.Goals.{then-index+in_ok-push, else-index}

pub loop-slot-preserved : goal.loop-slot-preserved
loop-slot-preserved c =
    let side = c.args.cols + 1 in
    let seen = c.in_ok-seen.seen.items in
    let inside : c.loop-slot.slot < length seen = omega (arith, c.in_ok-seen.ensures.size) in
    let at : c.index.result.now ≡ get_or seen c.loop-slot.slot false =
    c.index.ensures ∙ get_or_default seen c.loop-slot.slot c.index.result.now false inside in
    elim c.if-index.branch [
      | then-index+in_ok-push w ↦ rw (w.spans-is, w.in_ok-push.ensures.items)
          (AreSpansUpto-push side seen (omega arith) c.loop-slot.slot c.loop-slot.spans.items c.loop-slot.invariant
          (sym at ∙ w.if-index.true))
      | else-index w ↦ rw w.spans-is (AreSpansUpto-skip side seen (omega arith)
          c.loop-slot.slot c.loop-slot.spans.items c.loop-slot.invariant
          (λ marked. let both : true ≡ false = sym marked ∙ sym at ∙ w.if-index.false in cc))
    ]

pub returns : goal.returns
returns c =
    let side = c.args.cols + 1 in
    let all : c.loop-slot.slot ≡ side * side = omega arith in
    AreSpans-all side c.in_ok-seen.seen.items (omega arith) c.args.cells.now c.loop-slot.spans.items
    (λ k d within. let here = c.requires.grid k d within in (omega (arith, here.0, here.1), omega (arith, here.1)))
    c.in_ok-seen.ensures (rw all at c.loop-slot.invariant)
