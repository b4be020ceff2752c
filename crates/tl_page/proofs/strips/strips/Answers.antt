-- The two strips of one more size.
use Rattle.std.proofs.Common.{◌≡◌, ◌+◌, ◌<◌, ◌∷◌, ◌++◌, [], ℕ, length, get_or, drop, append_assoc, ap, sym, ◌∙◌, arith, tests}
use Rattle.std.proofs.lemmas.List.{at_drop_more}
use Rattle.tl_page.specs.Strips.{following, strips_from}
use Rattle.tl_page.proofs.StripLemmas.{following-last, following-more, sum-drop}
use Rattle.tl_page.proofs.strips.strips.Goals as goal
use Rattle.tl_page.proofs.strips.strips.Goals.{then-slot-sizes, else-slot-sizes}

pub loop-size-preserved : goal.loop-size-preserved
loop-size-preserved c =
    let gaps = c.args.gaps in
    let edge = c.args.edge in
    let sizes = c.args.sizes.now in
    let n = c.loop-size.size-index in
    let size = get_or sizes n 0 in
    let slot = c.loop-size.slot in
    let from = c.loop-size.from in
    let within : n < length sizes = omega arith in
    let rest = strips_from gaps edge (slot + 1) (from + size + c.after-gap.result) (drop (n + 1) sizes) in
    let after : c.if-slot-sizes.after ≡ following gaps edge slot (drop (n + 1) sizes) =
    elim c.if-slot-sizes.branch [
      | then-slot-sizes w ↦ w.after-is ∙ sym (following-last gaps edge slot sizes (n + 1) (omega (arith, tests)))
      | else-slot-sizes w ↦
          w.after-is ∙ c.after-gap.ensures.gap ∙ sym (following-more gaps edge slot sizes (n + 1) (omega (arith, tests)))
    ] in
    record {
      so_far = ap (λ list. list ++ rest) c.in_ok-push_both.ensures
          ∙ append_assoc c.loop-size.list (record { before = slot; after = slot; from = from; size = size }
          ∷ record { before = slot; after = slot + 1; from = from + size; size = c.if-slot-sizes.after } ∷ []) rest
          ∙ ap (λ after. c.loop-size.list ++ (record { before = slot; after = slot; from = from; size = size }
          ∷ record { before = slot; after = slot + 1; from = from + size; size = after } ∷ rest)) after
          ∙ ap (λ (gap : ℕ). c.loop-size.list ++ (record { before = slot; after = slot; from = from; size = size }
          ∷ record { before = slot; after = slot + 1; from = from + size; size = following gaps edge slot (drop (n + 1) sizes) }
          ∷ strips_from gaps edge (slot + 1) (from + size + gap) (drop (n + 1) sizes))) c.after-gap.ensures.gap
          ∙ ap (λ all. c.loop-size.list ++ all) (sym (at_drop_more (strips_from gaps edge slot from) sizes n 0 within))
          ∙ c.loop-size.invariant.so_far;
      slot = omega arith;
      room = omega (arith, sum-drop sizes n within);
    }
