use Rattle.std.proofs.Common.{[], sym, ap, ◌∙◌}
use Rattle.std.specs.Str.{chars}
use Rattle.tl_token.specs.inner.States.{read, before_value, in_quotes}
use Rattle.tl_token.specs.inner.Reader.{unread}
use Rattle.tl_token.proofs.CharacterTests.{eats_true, eats_false}
use Rattle.tl_token.proofs.TagSteps.{reads_from}
use Rattle.tl_token.proofs.reader.Reader.given_value.Goals as goal

pub returns-then-eat-clause-value : goal.returns-then-eat-clause-value
returns-then-eat-clause-value c =
    let begun = eats_true 34 c.eat.result _ _ c.if-eat.true c.eat.ensures in
    reads_from (λ t n. in_quotes t n 34 []) before_value (λ v. chars v.now) c.quoted.result (unread c.args.self.now)
    (unread c.eat.new.self)
    (unread c.quoted.new.self) c.quoted.ensures.value (λ t n. ap (read (before_value t n)) begun)

pub returns-then-eat-2-clause-value : goal.returns-then-eat-2-clause-value
returns-then-eat-2-clause-value c =
    let same = (eats_false 34 c.eat.result _ _ c.if-eat.false c.eat.ensures).0 in
    let begun = eats_true 39 c.eat-else-eat.result _ _ c.if-eat-2.true c.eat-else-eat.ensures in
    reads_from (λ t n. in_quotes t n 39 []) before_value (λ v. chars v.now) c.quoted-then-eat-2.result (unread c.args.self.now)
    (unread c.eat-else-eat.new.self) (unread c.quoted-then-eat-2.new.self) c.quoted-then-eat-2.ensures.value
    (λ t n. ap (read (before_value t n)) (sym same ∙ begun))
