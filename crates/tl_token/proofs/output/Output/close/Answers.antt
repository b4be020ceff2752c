use Rattle.std.proofs.Common.{[], ◌∷◌, ◌++◌, ap, ◌∙◌, sym}
use Rattle.std.specs.Str.{chars}
use Rattle.std.proofs.lemmas.List.{append-nil}
use Rattle.std.proofs.lemmas.Str.{chars-nil}
use Rattle.tl_token.specs.Spelling.{token}
use Rattle.tl_token.specs.inner.Output.{with_text, open_text}
use Rattle.tl_token.specs.declared.token.TokenKind.TheVariants.{Text}
use Rattle.tl_token.proofs.OutputLemmas.{some_text}
use Rattle.tl_token.proofs.output.Output.close.Goals as goal

pub returns-then-not-has_text-clause-text : goal.returns-then-not-has_text-clause-text
returns-then-not-has_text-clause-text c = c.has_text.ensures.closed c.if-not-has_text.true

pub returns-then-not-has_text-clause-tokens : goal.returns-then-not-has_text-clause-tokens
returns-then-not-has_text-clause-tokens c =
    let s = c.args.self.now in
    sym (append-nil s.tokens) ∙ ap (λ x. s.tokens ++ with_text x s.first s.past [])
    (sym (c.has_text.ensures.closed c.if-not-has_text.true))

pub returns-clause-tokens : goal.returns-clause-tokens
returns-clause-tokens c =
    let s = c.args.self.now in
    c.in_ok-push.ensures.ok ∙ ap (λ x. s.tokens ++ token (Text x) s.first s.past ∷ [])
    (c.in_ok-text.ensures ∙ ap chars c.as_str.ensures.value)
    ∙ ap (λ x. s.tokens ++ x) (sym (some_text (open_text s) s.first s.past [] (c.has_text.ensures.open c.if-not-has_text.false)))

pub returns-clause-text : goal.returns-clause-text
returns-clause-text c = ap chars c.clear.ensures.bytes ∙ chars-nil
