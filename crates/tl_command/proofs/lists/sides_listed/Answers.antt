-- The sides of which the argument is the list are those that have been read, and more.
use Rattle.std.proofs.Common.{ℕ, ◌≡◌, ◌+◌, List, length, inl, inr, sym, subst, ap, ◌∙◌, get_or, arith}
use Rattle.tl_command.specs.Options.{side_letter}
use Rattle.tl_command.proofs.SideLemmas.{HasReadSides, all_read, none_follows, none_more, none_stands, one_more}
use Rattle.tl_command.proofs.lists.sides_listed.Goals as goal
use Rattle.tl_command.proofs.lists.sides_listed.Goals.{then-loop-bytes-test+else-at-bytes, else-loop-bytes-test}

pub returns-in_err-side_of-clause-none : goal.returns-in_err-side_of-clause-none
returns-in_err-side_of-clause-none c = rw c.from_residual.ensures
    (none_stands c.args.word.now c.loop-bytes.sides c.loop-bytes.at c.loop-bytes.invariant
    (omega (arith, c.if-at-bytes.true, ap length c.as_bytes-bytes.ensures.value))
    (λ side is. c.in_err-side_of.ensures.none side
    (is ∙ ap (λ (bs : List ℕ). get_or bs c.loop-bytes.at 0) (sym c.as_bytes-bytes.ensures.value))))

pub returns-then-bytes-at-ne44-clause-none : goal.returns-then-bytes-at-ne44-clause-none
returns-then-bytes-at-ne44-clause-none c =
    let long = ap length c.as_bytes-bytes.ensures.value in
    none_follows c.args.word.now c.loop-bytes.sides c.loop-bytes.at c.loop-bytes.invariant
    (omega (arith, c.if-at-bytes.true, long)) (omega (arith, c.if-at-bytes.true, c.if-at-bytes-2.false, long))
    (λ e. c.if-bytes-at-ne44.true (ap (λ (bs : List ℕ). get_or bs (c.loop-bytes.at + 1) 0) c.as_bytes-bytes.ensures.value ∙ e))

pub returns-clause-none : goal.returns-clause-none
returns-clause-none c = elim c.loop-bytes-test.branch [
  | then-loop-bytes-test+else-at-bytes w ↦ none_more c.args.word.now c.loop-bytes.sides c.loop-bytes.at c.loop-bytes.invariant
      (inr (omega (arith, w.if-at-bytes, ap length c.as_bytes-bytes.ensures.value)))
  | else-loop-bytes-test w ↦ none_more c.args.word.now c.loop-bytes.sides c.loop-bytes.at c.loop-bytes.invariant
      (inl (omega (arith, w.loop-bytes-test, c.len.ensures)))
]
