use Rattle.std.proofs.Common.{◌≡◌, sym, ap, ◌∙◌, arith, eqb}
use Rattle.std.specs.Prelude.{codes}
use Rattle.tl_token.specs.Characters.{begins}
use Rattle.tl_token.specs.Grammar.{unended_tag}
use Rattle.tl_token.specs.inner.Reading.{closed_or}
use Rattle.tl_token.specs.inner.Reader.{unread}
use Rattle.tl_token.proofs.CharacterTests.{eats_true, eats_false}
use Rattle.tl_token.proofs.MarkupSteps.{word_ends, word_differs, word_agrees, word_over, close_found, close_missing}
use Rattle.tl_token.proofs.reader.Reader.doctype.Goals as goal

pub returns-in-None : goal.returns-in-None
returns-in-None c =
    sym (c.loop-letter.invariant.1 ∙ word_ends (codes "doctype") c.loop-letter.letter-index _ c.loop-letter-test.true
    (c.in-None.ensures.0))

pub returns-in-Some-2 : goal.returns-in-Some-2
returns-in-Some-2 c =
    sym (c.loop-letter.invariant.1 ∙ word_differs (codes "doctype")
    c.loop-letter.letter-index c.in-Some.c _ _ c.loop-letter-test.true c.in-Some.ensures
    (λ e. c.if-to_ascii_lowercase-from.false (c.to_ascii_lowercase.ensures.value ∙ e ∙ sym c.from.ensures)))

pub loop-letter-preserved : goal.loop-letter-preserved
loop-letter-preserved c = (
  c.loop-letter.invariant.0,
  c.loop-letter.invariant.1 ∙ word_agrees (codes "doctype") c.loop-letter.letter-index c.in-Some.c _ _ c.loop-letter-test.true
      c.in-Some.ensures
      (sym c.to_ascii_lowercase.ensures.value ∙ c.if-to_ascii_lowercase-from.true ∙ c.from.ensures),
)

pub returns-then-eat : goal.returns-then-eat
returns-then-eat c =
    let over : 7 ≡ c.loop-letter.letter-index = omega arith in
    let close = sym c.run.ensures.past ∙ eats_true 62 c.eat.result _ _ c.if-eat.true c.eat.ensures in
    sym (c.loop-letter.invariant.1 ∙ word_over (codes "doctype") c.loop-letter.letter-index _ over
    ∙ ap (closed_or unended_tag) (close_found (unread c.loop-letter.self) (unread c.eat.new.self) close))

pub returns-else-eat : goal.returns-else-eat
returns-else-eat c =
    let over : 7 ≡ c.loop-letter.letter-index = omega arith in
    let stopped = eats_false 62 c.eat.result _ _ c.if-eat.false c.eat.ensures in
    sym (c.loop-letter.invariant.1 ∙ word_over (codes "doctype") c.loop-letter.letter-index _ over
    ∙ ap (closed_or unended_tag) (close_missing (unread c.loop-letter.self)
    (ap (begins (λ d. eqb d 62)) (sym c.run.ensures.past) ∙ stopped.1)))
