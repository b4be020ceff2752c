use Rattle.std.proofs.Common.{[], sym, ap, ◌∙◌, arith, length, eqb}
use Rattle.std.specs.Str.{chars}
use Rattle.std.proofs.lemmas.Str.{chars-nil}
use Rattle.tl_token.specs.Characters.{is_space, begins}
use Rattle.tl_token.specs.inner.States.{read, before_value, in_name, between, with_attribute}
use Rattle.tl_token.specs.inner.Reader.{unread}
use Rattle.tl_token.proofs.CharacterTests.{eats_true, eats_false}
use Rattle.tl_token.proofs.TagSteps.{reads_from, no_longer_than, name_equals, name_alone, past_le}
use Rattle.tl_token.proofs.reader.Reader.value.Goals as goal

pub returns-then-eat-clause-value : goal.returns-then-eat-clause-value
returns-then-eat-clause-value c =
    let after = sym c.run.ensures.past ∙ eats_true 61 c.eat.result _ _ c.if-eat.true c.eat.ensures in
    reads_from before_value in_name (λ v. chars v.now) c.given_value.result (unread c.args.self.now)
    (unread c.run-then-eat.new.self)
    (unread c.given_value.new.self) c.given_value.ensures.value
    (λ t n. name_equals t n (unread c.args.self.now) (unread c.eat.new.self) after ∙ ap (read (before_value t n))
    (sym c.run-then-eat.ensures.past))

pub returns-then-eat-clause-no_longer : goal.returns-then-eat-clause-no_longer
returns-then-eat-clause-no_longer c =
    let after = eats_true 61 c.eat.result _ _ c.if-eat.true c.eat.ensures in
    no_longer_than c.given_value.result _ _ _ c.given_value.ensures.no_longer
    (omega (
      arith,
      ap length c.run.ensures.past,
      past_le is_space
          (unread c.args.self.now),
      ap length after,
      ap length c.run-then-eat.ensures.past,
      past_le is_space (unread c.eat.new.self),
    ))

pub returns-else-eat-clause-value : goal.returns-else-eat-clause-value
returns-else-eat-clause-value c = λ t n.
    let stopped = eats_false 61 c.eat.result _ _ c.if-eat.false c.eat.ensures in
    name_alone t n (unread c.args.self.now) c.requires (ap (begins (λ d. eqb d 61)) (sym c.run.ensures.past) ∙ stopped.1)
    ∙ ap (read (between (with_attribute t n []))) (sym (stopped.0 ∙ c.run.ensures.past))
    ∙ ap (λ v. read (between (with_attribute t n v)) (unread c.eat.new.self)) (sym chars-nil)

pub returns-else-eat-clause-no_longer : goal.returns-else-eat-clause-no_longer
returns-else-eat-clause-no_longer c =
    let stopped = eats_false 61 c.eat.result _ _ c.if-eat.false c.eat.ensures in
    omega (arith, ap length stopped.0, ap length c.run.ensures.past, past_le is_space (unread c.args.self.now))
