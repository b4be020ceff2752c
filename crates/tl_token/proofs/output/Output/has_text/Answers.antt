use Rattle.std.proofs.Common.{◌≡◌, length, not, ap, ◌∙◌, sym, true}
use Rattle.std.specs.Prelude.{string_bytes}
use Rattle.std.proofs.lemmas.Bool.{eqb-true, eq-eqb, false≢true, not-false}
use Rattle.std.proofs.lemmas.Str.{IsUtf8-string_bytes}
use Rattle.tl_token.proofs.Saturating.{chars_some, chars_none}
use Rattle.tl_token.proofs.output.Output.has_text.Goals as goal

pub returns-clause-open : goal.returns-clause-open
returns-clause-open c = λ h.
    let bs = string_bytes c.args.self.now.text in
    chars_some bs (IsUtf8-string_bytes c.args.self.now.text)
    (λ e. false≢true (sym (ap not (c.is_empty.ensures ∙ eq-eqb (length c.as_str.result.now) 0
    (ap length c.as_str.ensures.value ∙ e))) ∙ h))

pub returns-clause-closed : goal.returns-clause-closed
returns-clause-closed c = λ h.
    let empty : c.is_empty.result ≡ true = not-false c.is_empty.result h in
    chars_none (string_bytes c.args.self.now.text)
    (sym (ap length c.as_str.ensures.value) ∙ eqb-true (length c.as_str.result.now) 0 (sym c.is_empty.ensures ∙ empty))
