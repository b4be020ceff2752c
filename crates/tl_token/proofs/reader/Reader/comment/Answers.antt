use Rattle.std.proofs.Common.{◌≡◌, ◌≤◌, ◌∷◌, not, eqb, sym, ap, ◌∙◌, arith, length}
use Rattle.std.specs.Prelude.{codes}
use Rattle.tl_token.specs.Characters.{begins}
use Rattle.tl_token.specs.Grammar.{past_first, unended_comment}
use Rattle.tl_token.specs.inner.Reading.{closed_or}
use Rattle.tl_token.specs.inner.Reader.{unread}
use Rattle.tl_token.specs.declared.reader.Reader.{Reader}
use Rattle.tl_token.proofs.CharacterTests.{eats_true, eats_false}
use Rattle.tl_token.proofs.TagSteps.{past_le}
use Rattle.tl_token.proofs.MarkupSteps.{to_dash, one_dash, dashes_close, dashes_open}
use Rattle.tl_token.proofs.reader.Reader.comment.Goals as goal
use Rattle.tl_token.proofs.reader.Reader.comment.Goals.{then-eat+else-eat-2, else-eat}

pub loop-self-init : goal.loop-self-init
loop-self-init c = (
  to_dash (unread c.args.self.now) ∙ ap (past_first (codes "-->")) (sym c.run.ensures.past),
  c.run.ensures.ended,
)

pub returns-then-eat-2 : goal.returns-then-eat-2
returns-then-eat-2 c =
    let mark = codes "-->" in
    let first = eats_true 45 c.eat.result _ _ c.loop-self-test.true c.eat.ensures in
    let second = eats_true 45 c.eat-in-loop-self.result _ _ c.if-eat.true c.eat-in-loop-self.ensures in
    let close = sym c.run-then-eat.ensures.past ∙ eats_true 62 c.eat-then-eat.result _ _ c.if-eat-2.true c.eat-then-eat.ensures in
    sym (ap (closed_or unended_comment) (c.loop-self.invariant.0 ∙ ap (past_first mark) first ∙ ap
    (λ x. past_first mark (45 ∷ x)) second
    ∙ dashes_close (unread c.eat-in-loop-self.new.self) (unread c.eat-then-eat.new.self) close))

pub loop-self-smaller : goal.loop-self-smaller
loop-self-smaller c =
    let first = eats_true 45 c.eat.result _ _ c.loop-self-test.true c.eat.ensures in
    let less : length (unread c.if-eat.self) ≤ length (unread c.eat.new.self) = elim c.if-eat.branch [
      | then-eat+else-eat-2 w ↦
          let second = eats_true 45 c.eat-in-loop-self.result _ _ w.if-eat.true c.eat-in-loop-self.ensures in
          let stopped = eats_false 62 w.eat-then-eat.result _ _ w.if-eat-2.false w.eat-then-eat.ensures in
          omega (
            arith,
            ap (λ (r : Reader). length (unread r)) w.self-is,
            ap length stopped.0,
            ap length w.run-then-eat.ensures.past,
            past_le
                (λ d. eqb d 45) (unread c.eat-in-loop-self.new.self),
            ap length second,
          )
      | else-eat w ↦
          let stopped = eats_false 45 c.eat-in-loop-self.result _ _ w.if-eat.false c.eat-in-loop-self.ensures in
          omega (arith, ap (λ (r : Reader). length (unread r)) w.self-is, ap length stopped.0)
    ] in
    omega (
      arith,
      less,
      ap length first,
      ap length c.run-in-loop-self.ensures.past,
      past_le (λ d. not (eqb d 45)) (unread c.if-eat.self),
    )

pub loop-self-preserved : goal.loop-self-preserved
loop-self-preserved c =
    let mark = codes "-->" in
    let first = eats_true 45 c.eat.result _ _ c.loop-self-test.true c.eat.ensures in
    let goes : past_first mark (45 ∷ unread c.eat.new.self) ≡ past_first mark (unread c.if-eat.self) = elim c.if-eat.branch [
      | then-eat+else-eat-2 w ↦
          let second = eats_true 45 c.eat-in-loop-self.result _ _ w.if-eat.true c.eat-in-loop-self.ensures in
          let stopped = eats_false 62 w.eat-then-eat.result _ _ w.if-eat-2.false w.eat-then-eat.ensures in
          ap (λ x. past_first mark (45 ∷ x)) second
          ∙ dashes_open (unread c.eat-in-loop-self.new.self)
          (ap (begins (λ d. eqb d 62)) (sym w.run-then-eat.ensures.past) ∙ stopped.1)
          ∙ ap (past_first mark) (sym (ap unread w.self-is ∙ stopped.0 ∙ w.run-then-eat.ensures.past))
      | else-eat w ↦
          let stopped = eats_false 45 c.eat-in-loop-self.result _ _ w.if-eat.false c.eat-in-loop-self.ensures in
          one_dash (unread c.eat.new.self) (stopped.1) ∙ ap (past_first mark) (sym (ap unread w.self-is ∙ stopped.0))
    ] in (
      c.loop-self.invariant.0 ∙ ap (past_first mark) first ∙ goes ∙ to_dash (unread c.if-eat.self) ∙ ap (past_first mark)
          (sym c.run-in-loop-self.ensures.past),
      c.run-in-loop-self.ensures.ended,
    )
