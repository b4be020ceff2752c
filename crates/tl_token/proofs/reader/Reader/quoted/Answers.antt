use Rattle.std.proofs.Common.{not, eqb, sym, ap, ◌∙◌, arith, length}
use Rattle.tl_token.specs.Characters.{begins}
use Rattle.tl_token.specs.inner.States.{between, with_attribute, read}
use Rattle.tl_token.specs.inner.Reading.{tag_found}
use Rattle.tl_token.specs.inner.Reader.{unread}
use Rattle.tl_token.proofs.CharacterTests.{eats_true, eats_false}
use Rattle.tl_token.proofs.TagSteps.{quoted_ends, quoted_stops, past_le}
use Rattle.tl_token.proofs.reader.Reader.quoted.Goals as goal

pub returns-then-eat-clause-value : goal.returns-then-eat-clause-value
returns-then-eat-clause-value c = λ t n.
    let quote = c.args.quote in
    let after = sym c.run-value.ensures.past ∙ eats_true quote c.eat.result _ _ c.if-eat.true c.eat.ensures in
    quoted_ends t n (unread c.args.self.now) (unread c.eat.new.self) quote after
    ∙ ap (λ v. read (between (with_attribute t n v)) (unread c.eat.new.self)) (sym c.run-value.ensures.run)

pub returns-then-eat-clause-no_longer : goal.returns-then-eat-clause-no_longer
returns-then-eat-clause-no_longer c =
    let after = sym c.run-value.ensures.past ∙ eats_true c.args.quote c.eat.result _ _ c.if-eat.true c.eat.ensures in
    omega (arith, ap length after, past_le (λ d. not (eqb d c.args.quote)) (unread c.args.self.now))

pub returns-else-eat-clause-value : goal.returns-else-eat-clause-value
returns-else-eat-clause-value c = λ t n.
    let quote = c.args.quote in
    let stopped = eats_false quote c.eat.result _ _ c.if-eat.false c.eat.ensures in
    ap tag_found (quoted_stops t n (unread c.args.self.now) quote
    (ap (begins (λ d. eqb d quote)) (sym c.run-value.ensures.past) ∙ stopped.1))
